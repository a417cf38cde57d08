-- Lists of tests: none holds, the place of the first that does.
use mathlib.Core.Path.{◌≡◌, refl, sym, ◌∙◌}
use mathlib.Core.Bool.{Bool, true, false, ◌||◌, true≢false}
use mathlib.Core.List.{List, [], ◌∷◌}
use Prim.Native.Nat.{ℕ, zero, suc, ◌<◌}
use native.Mathlib.Omega.{arith}
use lib.Dec.{ltb, leb-suc-suc}
use lib.ListN.{length, get_or}
use borrow.Author.Tests.{lt-ltb}
use Rattle.rule.specs.Shapes.{some?, first}

-- none of some tests holds
abbrev pub None : List Bool → Type 0
None [] = Unit {0}
None (b ∷ bs) = (b ≡ false) × None bs

pub none : (bs : List Bool) → some? bs ≡ false → None bs
unfolding some?
none [] e = tt
none (true ∷ bs) e = absurd (true≢false e)
none (false ∷ bs) e = (refl, none bs e)

-- one holds exactly where the first place is a place of the list
pub some_first : (bs : List Bool) → some? bs ≡ ltb (first bs) (length bs)
unfolding some? first
some_first [] = refl
some_first (true ∷ bs) = rw (lt-ltb 0 (suc (length bs)) (omega arith))
some_first (false ∷ bs) = some_first bs ∙ sym (leb-suc-suc (suc (first bs)) (length bs))

-- at the first place the test holds, and before it none does
pub first-holds : (bs : List Bool) → some? bs ≡ true → get_or bs (first bs) false ≡ true
unfolding some? first
first-holds [] e = cc
first-holds (true ∷ bs) e = refl
first-holds (false ∷ bs) e = first-holds bs e

pub first_least : (bs : List Bool) (j : ℕ) → j < first bs → get_or bs j false ≡ false
unfolding first
first_least [] j h = absurd (omega arith)
first_least (true ∷ bs) j h = absurd (omega arith)
first_least (false ∷ bs) zero h = refl
first_least (false ∷ bs) (suc j) h = first_least bs j (omega arith)

-- neither of two tests holds
pub either_false : (a b : Bool) → (a || b) ≡ false → (a ≡ false) × (b ≡ false)
either_false true b e = absurd (true≢false e)
either_false false b e = (refl, e)
