-- Records of eight cells in the room, from base + 3 on, n of them. The cell `base` is how many were ever taken, base + 1 the first free one of these
-- (its number + 1, 0 for none), base + 2 how many are in that list. Field 0 of a record is its key, 0 where it is not live; of a record in the free
-- list, field 1 is the next one, and field 2 how many there are from it on: no two have the same, so a record stands in the list once.
use Rattle.std.specs.Prelude.{◌≡◌, cond, List, ℕ, zero, suc, ◌+◌, ◌-◌, ◌*◌, ◌^◌, ◌<◌, ◌≤◌, ltb, length}
use Rattle.runs.specs.Parts.{nth, put, Kept}

-- the field f of the record r. One that was never taken has 0 in each, whatever its cells hold: so the cells need not be cleared
unfoldable pub field : ℕ → List ℕ → ℕ → ℕ → ℕ
field base cs r f = cond (ltb r (nth cs base)) (nth cs (base + 3 + r * 8 + f)) 0

-- how many records were ever taken, and how many of these are free
unfoldable pub taken : ℕ → List ℕ → ℕ
taken base cs = nth cs base

unfoldable pub free : ℕ → List ℕ → ℕ
free base cs = nth cs (base + 2)

-- a node of the free list, with m from it on
pub record Node (base top : ℕ) (cs : List ℕ) (r m : ℕ) : Type 0 where
  pub low : r < top
  pub idle : field base cs r 0 ≡ 0
  pub depth : field base cs r 2 ≡ m

-- m records in the list from `head` on, a record's number + 1
unfoldable pub Chain : ℕ → ℕ → List ℕ → ℕ → ℕ → Type 0
Chain base top cs head zero = head ≡ 0
Chain base top cs head (suc m) = (0 < head) × (Node base top cs (head - 1) (suc m)) × (Chain base top cs (field base cs (head - 1) 1) m)

-- THE INVARIANT: the records lie in the room, and those given back are in the free list
pub record Arena (base n : ℕ) (cs : List ℕ) : Type 0 where
  pub room : base + 3 + n * 8 ≤ length cs
  pub small : length cs < 2 ^ 61
  pub low : taken base cs ≤ n
  pub few : free base cs ≤ taken base cs
  pub chain : Chain base (taken base cs) cs (nth cs (base + 1)) (free base cs)

-- a live record
pub record Live (base n r : ℕ) (cs : List ℕ) : Type 0 where
  pub ar : Arena base n cs
  pub low : r < n
  pub live : 0 < field base cs r 0

-- no record but r has changed, and nothing outside
pub record Only (base n r : ℕ) (was is : List ℕ) : Type 0 where
  pub others : (s g : ℕ) → g < 8 → (s ≡ r → ⊥) → field base is s g ≡ field base was s g
  pub kept : Kept base (base + 3 + n * 8) was is

-- a live record, and another field than the key
pub record CanPut (base n r f : ℕ) (cs : List ℕ) : Type 0 where
  pub at : Live base n r cs
  pub some : 0 < f
  pub few : f < 8

-- that field is v, and no other has changed
pub record FieldPut (base n r f v : ℕ) (was is : List ℕ) : Type 0 where
  pub live : Live base n r is
  pub only : Only base n r was is
  pub here : field base is r f ≡ v
  pub rest : (g : ℕ) → g < 8 → (g ≡ f → ⊥) → field base is r g ≡ field base was r g
  pub head : (i : ℕ) → i < base + 3 → nth is i ≡ nth was i
  pub is_put : is ≡ put was (base + 3 + r * 8 + f) v

-- v is put in a field, whatever it means
pub record Stored (base r f v : ℕ) (was is : List ℕ) : Type 0 where
  pub is_put : is ≡ put was (base + 3 + r * 8 + f) v
  pub long : length is ≡ length was

-- the field f of the record r, which was taken, lies in the room
pub record Within (base n r f : ℕ) (cs : List ℕ) : Type 0 where
  pub room : base + 3 + n * 8 ≤ length cs
  pub small : length cs < 2 ^ 61
  pub low : r < taken base cs
  pub most : taken base cs ≤ n
  pub few : f < 8

-- an arena that is as it was
pub record SameArena (base n : ℕ) (was is : List ℕ) : Type 0 where
  pub ok : Arena base n is
  pub fields : (s g : ℕ) → s < n → g < 8 → field base is s g ≡ field base was s g
  pub taken-same : taken base is ≡ taken base was
  pub free-same : free base is ≡ free base was
