-- The answer run holds 0 behind the numbers given, so that a number 0 may be told behind them or not.
use mathlib.Core.Path.{◌≡◌, refl, ◌∙◌}
use mathlib.Core.List.{List, [], ◌∷◌, ◌++◌, append_assoc}
use Prim.Native.Nat.{ℕ, ◌+◌, ◌-◌, ◌*◌, ◌≤◌}
use native.Mathlib.Omega.{arith}
use lib.ListN.{length, length-append}
use Rattle.runs.specs.Parts.{nth, zeros}
use Rattle.runs.proofs.Parts.{length-zeros, zeros-append}
use Rattle.numbers.proofs.Little.{spell_zero}
use Rattle.rule.specs.Shapes.{spell_all, filled}
use Rattle.rule.specs.Outcome.{told}
use Rattle.rule.proofs.Lengths.{length-spell_all, spell_all_last}

-- one number 0 more
pub told_zero : (answer ns : List ℕ) → 8 * (length ns + 1) ≤ length answer → told answer (ns ++ (0 ∷ [])) ≡ told answer ns
unfolding told filled
told_zero answer ns h =
    let new = spell_all 8 ns in
    let l : length (new ++ zeros 8) ≡ length new + 8 = simp (length-append, length-zeros) in
    let n : 8 + (length answer - (length new + 8)) ≡ length answer - length new = omega (arith, length-spell_all 8 ns) in
    rw (spell_all_last, spell_zero, l, append_assoc, zeros-append, n)

-- THE FIRST THREE PLACES of at most three numbers, 0 past their end, tell the same as the numbers
pub told_three : (answer g : List ℕ) → length g ≤ 3 → 64 ≤ length answer → told answer (nth g 0 ∷ nth g 1 ∷ nth g 2 ∷ []) ≡ told answer g
unfolding nth
told_three answer [] h l = told_zero answer (0 ∷ 0 ∷ []) (omega arith) ∙ told_zero answer (0 ∷ []) (omega arith) ∙ told_zero answer [] (omega arith)
told_three answer (a ∷ []) h l = told_zero answer (a ∷ 0 ∷ []) (omega arith) ∙ told_zero answer (a ∷ []) (omega arith)
told_three answer (a ∷ b ∷ []) h l = told_zero answer (a ∷ b ∷ []) (omega arith)
told_three answer (a ∷ b ∷ c ∷ []) h l = refl
told_three answer (a ∷ b ∷ c ∷ d ∷ g) h l = absurd (omega arith)
