-- The numbers given in an answer run. Assumes nothing.
use mathlib.Core.Path.{◌≡◌, sym, ap, ◌∙◌}
use mathlib.Core.List.{List, [], ◌∷◌, ◌++◌, append_assoc, append-nil, flat_map}
use Prim.Native.Nat.{ℕ, ◌≤◌}
use native.Mathlib.Omega.{arith}
use lib.ListN.{length, replicate, length-append}
use Rattle.runs.specs.Parts.{laid, zeros}
use Rattle.runs.proofs.Parts.{length-zeros, laid-laid}
use Rattle.numbers.specs.Little.{spell, store}
use Rattle.numbers.proofs.Little.{length-spell}
use Rattle.rule.specs.Shapes.{spell_all}
use Rattle.rule.specs.Outcome.{told}
use Rattle.rule.proofs.Lengths.{length-spell_all}
use Rattle.trainer.proofs.Rooms.{laid-filled}

module _ (answer : List ℕ) (long : 64 ≤ length answer) where
  -- as `give` writes them
  pub given : (p q r : ℕ) (xs ys zs us : List ℕ) → xs ≡ replicate (length answer) 0 → ys ≡ store 8 xs 0 p → zs ≡ store 8 ys 8 q → us ≡ store 8 zs 16 r
      → us ≡ told answer (p ∷ q ∷ r ∷ [])
  unfolding told store spell_all flat_map zeros
  given p q r xs ys zs us ex ey ez eu =
      let x : xs ≡ zeros (length answer) = ex in
      let n : length xs ≡ length answer = ap length x ∙ length-zeros (length answer) in
      let lp = length-spell 8 p in
      let lq = length-spell 8 q in
      let lr = length-spell 8 r in
      let lpq : length (spell 8 p ++ spell 8 q) ≡ 16 = omega (arith, length-append (spell 8 p) (spell 8 q)) in
      let z : zs ≡ laid xs 0 (spell 8 p ++ spell 8 q) =
      ez ∙ ap (λ (l : List ℕ). laid l 8 (spell 8 q)) ey ∙ rw lp at (laid-laid xs 0 (spell 8 p) (spell 8 q) (omega arith)) in
      let u : us ≡ laid xs 0 ((spell 8 p ++ spell 8 q) ++ spell 8 r) =
      eu ∙ ap (λ (l : List ℕ). laid l 16 (spell 8 r)) z ∙ rw lpq at (laid-laid xs 0 (spell 8 p ++ spell 8 q) (spell 8 r) (omega arith)) in
      let s : (spell 8 p ++ spell 8 q) ++ spell 8 r ≡ spell_all 8 (p ∷ q ∷ r ∷ []) =
      append_assoc (spell 8 p) (spell 8 q) (spell 8 r) ∙ ap (λ (l : List ℕ). spell 8 p ++ (spell 8 q ++ l)) (sym (append-nil (spell 8 r))) in
      rw s at (rw x at u) ∙ laid-filled answer (spell_all 8 (p ∷ q ∷ r ∷ [])) (omega (arith, length-spell_all 8 (p ∷ q ∷ r ∷ [])))
