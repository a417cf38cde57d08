-- A lookup by a test in `cap` cells from `base` on. A cell is 0, a vacant slot, or a number + 1 in its low half and a hash in its high half.
use Rattle.std.specs.Prelude.{Bool, cond, List, ℕ, zero, suc, ◌+◌, ◌-◌, ◌%◌, eqb}
use Rattle.runs.specs.Parts.{nth}
use Rattle.cells.specs.Ring.{after, blanks}
use Rattle.cells.specs.declared.Found.{Found}
use Rattle.cells.specs.declared.Found.TheVariants.{At, Vacant, Full}

-- the number in a slot
abbrev pub number_in : ℕ → ℕ
number_in x = x % 4294967296 - 1

-- what n probes from the slot i on find: the number of a slot that passes the test, or the vacant slot where it would go
unfoldable pub seek : (ℕ → Bool) → List ℕ → ℕ → ℕ → ℕ → ℕ → Found
seek t cs base cap zero i = Full
seek t cs base cap (suc n) i =
    let x = nth cs (base + i) in
    cond (eqb x 0) (Vacant i) (cond (t x) (At (number_in x)) (seek t cs base cap n (after cap i)))

-- how many slots are vacant
unfoldable pub vacancies : ℕ → ℕ → List ℕ → ℕ
vacancies base cap cs = blanks cap (λ j. nth cs (base + j))
