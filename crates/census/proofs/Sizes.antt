-- The symbols of the first k words, weighed and counted. Assumes nothing.
use mathlib.Core.Path.{◌≡◌, refl}
use mathlib.Core.List.{List, [], ◌∷◌}
use Prim.Native.Nat.{ℕ, zero, suc, ◌+◌, ◌*◌, ◌<◌, ◌≤◌}
use native.Mathlib.Omega.{arith}
use native.Mathlib.Nat.{mul-zero}
use native.Mathlib.Numerals.{add-one}
use lib.ListN.{length}
use Rattle.rule.specs.Seeding.{Entry}
use Rattle.rule.specs.Sums.{symbols_in, in_use}
use Rattle.word.specs.Layout.{entry_at}
use Rattle.states.specs.Tracking.{up_to}

-- no words, no symbols
weight_none : (es : List Entry) → symbols_in (up_to 0 es) ≡ 0
unfolding up_to symbols_in
weight_none [] = refl
weight_none (e ∷ es) = omega (arith, mul-zero e.frequency, weight_none es)

-- the first k words and word k weigh no more than all
pub weight_word : (k : ℕ) (es : List Entry) → k < length es → symbols_in (up_to k es) + (entry_at es k).frequency * length (entry_at es k).symbols ≤ symbols_in es
unfolding up_to symbols_in entry_at
weight_word k [] h = absurd (omega arith)
weight_word zero (e ∷ es) h = omega (arith, mul-zero e.frequency, weight_none es)
weight_word (suc k) (e ∷ es) h = omega (arith, weight_word k es (omega arith))

pub used_none : (es : List Entry) → in_use (up_to 0 es) ≡ 0
unfolding up_to in_use
used_none [] = refl
used_none (e ∷ es) = omega (arith, used_none es)

pub used_word : (k : ℕ) (es : List Entry) → k < length es → in_use (up_to (k + 1) es) ≡ in_use (up_to k es) + length (entry_at es k).symbols
unfolding up_to in_use entry_at
used_word k [] h = absurd (omega arith)
used_word zero (e ∷ es) h = omega (arith, used_none es)
used_word (suc k) (e ∷ es) h =
    let i : in_use (up_to (suc k) es) ≡ in_use (up_to k es) + length (entry_at es k).symbols = rw (add-one k) at (used_word k es (omega arith)) in
    rw (add-one (suc k)) (omega arith)

pub used_most : (k : ℕ) (es : List Entry) → in_use (up_to k es) ≤ in_use es
unfolding up_to in_use
used_most k [] = omega arith
used_most zero (e ∷ es) = omega (arith, used_none es)
used_most (suc k) (e ∷ es) = omega (arith, used_most k es)
