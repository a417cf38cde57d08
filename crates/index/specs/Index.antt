-- An index from keys to values in 2 * cap cells. A slot is two cells side by side, its key and then its value. A key of 0 is a vacant slot, a value
-- of 0 a key that has none. A key stays in its slot for good: to remove it is to set its value to 0. So a lookup ends at the first vacant slot.
use Rattle.std.specs.Prelude.{◌≡◌, cond, List, ℕ, ◌+◌, ◌*◌, ◌/◌, ◌%◌, ◌^◌, ◌<◌, ◌≤◌, ltb, length, Option, MatchOption}
use Rattle.runs.specs.Parts.{nth, Kept}
use Rattle.cells.specs.Ring.{blanks}
use Rattle.index.specs.Probe.{probe}
use Rattle.cells.specs.declared.Found.{Found}
use Rattle.cells.specs.declared.Found.TheVariants.{At, Vacant, Full}

-- the key and the value in the slot j
unfoldable pub key_at : ℕ → List ℕ → ℕ → ℕ
key_at base cs j = nth cs (base + 2 * j)

unfoldable pub value_at : ℕ → List ℕ → ℕ → ℕ
value_at base cs j = nth cs (base + 2 * j + 1)

-- a key's hash. That it is below 2 ^ 32 is all that the laws know of it
unfoldable pub mix : ℕ → ℕ
mix k = (k / 4294967296 * 1847521883 + k % 4294967296 / 64 * 1052792407) % 4294967296

-- the slot where the search for a key starts: keys with one hash go side by side, where there is place
unfoldable pub row : ℕ → ℕ → ℕ
row cap k = mix k * cap / 4294967296

unfoldable pub home : ℕ → ℕ → ℕ
home cap k = cond (ltb (row cap k + k % 64) cap) (row cap k + k % 64) (row cap k)

-- where a key is, or where it would go
unfoldable pub slot : ℕ → ℕ → List ℕ → ℕ → Found
slot base cap cs k = probe (key_at base cs) cap k cap (home cap k)

unfoldable pub value_of : ℕ → List ℕ → Found → ℕ
value_of base cs (At j) = value_at base cs j
value_of base cs (Vacant j) = 0
value_of base cs Full = 0

-- THE VIEW: the value of a key, 0 where it has none
unfoldable pub value : ℕ → ℕ → List ℕ → ℕ → ℕ
value base cap cs k = value_of base cs (slot base cap cs k)

-- WHAT IS TOLD of the value v of a key: nothing where it is 0
abbrev pub Told : ℕ → Option ℕ → Type 0
Told v r = MatchOption r (v ≡ 0) (λ x. (v ≡ x) × (0 < x))

-- how many slots are vacant, and how many have no value
unfoldable pub vacant : ℕ → ℕ → List ℕ → ℕ
vacant base cap cs = blanks cap (key_at base cs)

unfoldable pub idle : ℕ → ℕ → List ℕ → ℕ
idle base cap cs = blanks cap (value_at base cs)

-- a lookup of each key finds the slot where it stands (so no key stands in two), and a vacant slot has no value
pub record Index (base cap : ℕ) (cs : List ℕ) : Type 0 where
  pub room : base + 2 * cap ≤ length cs
  pub small : length cs < 2 ^ 61
  pub some : 0 < cap
  pub few : cap ≤ 4294967296
  pub found : (j : ℕ) → j < cap → 0 < key_at base cs j → slot base cap cs (key_at base cs j) ≡ At j
  pub bare : (j : ℕ) → j < cap → key_at base cs j ≡ 0 → value_at base cs j ≡ 0

-- WHAT THE FUNCTIONS DO

-- the value of k is v now, every other key's as it was
pub record Set (base cap k v : ℕ) (was is : List ℕ) : Type 0 where
  pub ok : Index base cap is
  pub kept : Kept base (base + 2 * cap) was is
  pub here : value base cap is k ≡ v
  pub others : (q : ℕ) → (q ≡ k → ⊥) → value base cap is q ≡ value base cap was q

pub record CanInsert (base cap k v : ℕ) (cs : List ℕ) : Type 0 where
  pub ix : Index base cap cs
  pub pos : 0 < k
  pub some : 0 < v
  pub none : value base cap cs k ≡ 0
  pub space : 0 < vacant base cap cs

-- a key that had a value before takes its old slot
pub record Inserted (base cap k v : ℕ) (was is : List ℕ) : Type 0 where
  pub set : Set base cap k v was is
  pub least : vacant base cap is ≤ vacant base cap was
  pub most : vacant base cap was ≤ vacant base cap is + 1
  pub busy : idle base cap is + 1 ≡ idle base cap was

pub record CanErase (base cap k : ℕ) (cs : List ℕ) : Type 0 where
  pub ix : Index base cap cs
  pub some : 0 < value base cap cs k

pub record Erased (base cap k : ℕ) (was is : List ℕ) : Type 0 where
  pub set : Set base cap k 0 was is
  pub spent : vacant base cap is ≡ vacant base cap was
  pub freed : idle base cap is ≡ idle base cap was + 1

-- an index with no keys
pub record Empty (base cap : ℕ) (cs : List ℕ) : Type 0 where
  pub ok : Index base cap cs
  pub values : (q : ℕ) → value base cap cs q ≡ 0
  pub spent : vacant base cap cs ≡ cap
  pub busy : idle base cap cs ≡ cap

-- an index that is as it was
pub record SameIndex (base cap : ℕ) (was is : List ℕ) : Type 0 where
  pub ok : Index base cap is
  pub values : (q : ℕ) → value base cap is q ≡ value base cap was q
  pub spent : vacant base cap is ≡ vacant base cap was
  pub busy : idle base cap is ≡ idle base cap was

-- ONE PUT

-- the key k stands in the slot j
pub record AtSlot (base cap k j : ℕ) (cs : List ℕ) : Type 0 where
  pub ix : Index base cap cs
  pub is : slot base cap cs k ≡ At j
  pub low : j < cap

-- it would go into the slot j
pub record NewSlot (base cap k j : ℕ) (cs : List ℕ) : Type 0 where
  pub ix : Index base cap cs
  pub pos : 0 < k
  pub is : slot base cap cs k ≡ Vacant j
  pub low : j < cap

pub record PutValue (base cap k v : ℕ) (was is : List ℕ) : Type 0 where
  pub set : Set base cap k v was is
  pub spent : vacant base cap is ≡ vacant base cap was
  pub busy : value base cap was k ≡ 0 → 0 < v → idle base cap is + 1 ≡ idle base cap was
  pub freed : 0 < value base cap was k → v ≡ 0 → idle base cap is ≡ idle base cap was + 1

pub record PutKey (base cap k j : ℕ) (was is : List ℕ) : Type 0 where
  pub at : AtSlot base cap k j is
  pub set : Set base cap k 0 was is
  pub spent : vacant base cap is + 1 ≡ vacant base cap was
  pub busy : idle base cap is ≡ idle base cap was
