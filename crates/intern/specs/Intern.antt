-- The table from spellings to numbers, and what interning does: "A spelling already present gets its existing number".
use Rattle.std.specs.Prelude.{◌≡◌, Bool, ◌&&◌, List, [], ◌∷◌, ◌++◌, ◌⊎◌, ℕ, ◌+◌, ◌*◌, ◌/◌, ◌%◌, ◌^◌, ◌<◌, ◌≤◌, eqb, length, Result, Ok, Err}
use Rattle.runs.specs.Parts.{nth, Kept}
use Rattle.order.specs.Order.{same}
use Rattle.cells.specs.Cells.{cells}
use Rattle.rule.specs.Seeding.{intern, number_of}
use Rattle.rule.specs.Layout.{piece_at}
use Rattle.spells.specs.Hash.{hash_of}
use Rattle.intern.specs.Pieces.{pieces, Held}
use Rattle.intern.specs.Seek.{number_in, seek, vacancies}
use Rattle.cells.specs.declared.Found.{Found}
use Rattle.cells.specs.declared.Found.TheVariants.{At, Vacant}
use Rattle.error.specs.declared.NoRoom.{NoRoom}
use Rattle.intern.specs.declared.Interned.{Interned}

-- the slot x has the hash h, and its piece is spelled s
unfoldable pub spelt : ℕ → List ℕ → List ℕ → List ℕ → ℕ → Bool
spelt h s xs ys x = eqb (x / 4294967296) h && same s (piece_at xs ys (number_in x))

-- where a spelling is, or would go
unfoldable pub look : ℕ → ℕ → List ℕ → List ℕ → List ℕ → List ℕ → Found
look base cap cs xs ys s = seek (spelt (hash_of s) s xs ys) cs base cap cap (hash_of s % cap)

-- the table has n numbers, and a lookup of each piece's spelling finds it. (So no two are spelled alike.)
pub record Known (base cap n : ℕ) (cs xs ys : List ℕ) : Type 0 where
  pub room : base + cap ≤ length cs
  pub small : length cs < 2 ^ 61
  pub some : 0 < cap
  pub few : cap < 4294967296
  pub numbers : (j : ℕ) → j < cap → 0 < nth cs (base + j) → (0 < nth cs (base + j) % 4294967296) × (nth cs (base + j) % 4294967296 ≤ n)
  pub found : (k : ℕ) → k < n → look base cap cs xs ys (piece_at xs ys k) ≡ At k
  pub vacant : vacancies base cap cs + n ≡ cap

-- n pieces of u bytes, with their table
pub record Pieces (base cap n u : ℕ) (cs xs ys : List ℕ) : Type 0 where
  pub rooms : Held n u xs ys
  pub known : Known base cap n cs xs ys

-- there is a slot for one more
pub record CanIntern (base cap n u : ℕ) (cs xs ys : List ℕ) : Type 0 where
  pub ok : Pieces base cap n u cs xs ys
  pub space : n < cap

-- the spelling is new, and would go into the slot j
pub record CanAdd (base cap n u : ℕ) (s : List ℕ) (j : ℕ) (cs xs ys : List ℕ) : Type 0 where
  pub ok : Pieces base cap n u cs xs ys
  pub space : n < cap
  pub none : look base cap cs xs ys s ≡ Vacant j
  pub slot : j < cap

-- s has the number k; there are n' pieces now, of u' bytes. Outside of the table, the new bytes and the new end, the three runs are as they
-- were: "no byte behind the used ones is touched but by a new piece"
pub record Gave (base cap n u : ℕ) (s rs xs ys qs vs ws : List ℕ) (k n' u' : ℕ) : Type 0 where
  pub ok : Pieces base cap n' u' (cells qs) vs ws
  pub are : pieces vs ws n' ≡ intern (pieces xs ys n) s
  pub number : k ≡ number_of (intern (pieces xs ys n) s) s
  pub low : k < n'
  pub least : n ≤ n'
  pub most : n' ≤ n + 1
  pub grows : u ≤ u'
  pub room : Kept (base * 8) ((base + cap) * 8) rs qs
  pub bytes : Kept u u' xs vs
  pub ends : Kept (n * 4) (n' * 4) ys ws

-- nothing is written, and s is a spelling that no piece has
pub record Left (n : ℕ) (s rs xs ys qs vs ws : List ℕ) : Type 0 where
  pub room : qs ≡ rs
  pub bytes : vs ≡ xs
  pub ends : ws ≡ ys
  pub more : intern (pieces xs ys n) s ≡ pieces xs ys n ++ (s ∷ [])

-- what has no place for s behind n pieces of u bytes: the ends room, the piece room, or the 4 bytes of an end
unfoldable pub Lacks : ℕ → ℕ → List ℕ → List ℕ → List ℕ → Type 0
Lacks n u s xs ys = (length ys < (n + 1) * 4) ⊎ ((length xs < u + length s) ⊎ (4294967295 < u + length s))

-- WHAT AN ANSWER SAYS of the three runs before and after
unfoldable pub Answer : Result Interned NoRoom → ℕ → ℕ → ℕ → ℕ → List ℕ → List ℕ → List ℕ → List ℕ → List ℕ → List ℕ → List ℕ → Type 0
Answer (Ok i) base cap n u s rs xs ys qs vs ws = Gave base cap n u s rs xs ys qs vs ws i.number i.filled.count i.filled.used
Answer (Err e) base cap n u s rs xs ys qs vs ws = Left n s rs xs ys qs vs ws × Lacks n u s xs ys
