-- Linear probing in `cap` slots that lie in a ring: `f j` is the key in the slot j, 0 where it is vacant. Where the keys stand is not said here.
use Rattle.std.specs.Prelude.{cond, ℕ, zero, suc, eqb}
use Rattle.cells.specs.Ring.{after}
use Rattle.cells.specs.declared.Found.{Found}
use Rattle.cells.specs.declared.Found.TheVariants.{At, Vacant, Full}

-- what n probes for the key k find, from the slot i on
unfoldable pub probe : (ℕ → ℕ) → ℕ → ℕ → ℕ → ℕ → Found
probe f cap k zero i = Full
probe f cap k (suc n) i = cond (eqb (f i) k) (At i) (cond (eqb (f i) 0) (Vacant i) (probe f cap k n (after cap i)))
