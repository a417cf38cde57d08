-- Merging a word makes the set no heavier. Assumes nothing.
use mathlib.Core.List.{List, [], ◌∷◌}
use Prim.Native.Nat.{ℕ, zero, suc, ◌≤◌}
use native.Mathlib.Nat.{mul-le-mul_left}
use native.Mathlib.Omega.{arith}
use lib.ListN.{length}
use Rattle.rule.specs.Rewriting.{rewrite}
use Rattle.rule.specs.Seeding.{Entry}
use Rattle.rule.specs.Sums.{symbols_in}
use Rattle.rule.proofs.Rewriting.{length-rewrite}
use Rattle.word.specs.Layout.{words_in}
use Rattle.word.specs.declared.WordSet.{WordSet}
use Rattle.merge.specs.Merging.{change_at, MergedWord}
use Rattle.merge.specs.declared.Merged.{Merged}

change_weight : (a b x k : ℕ) (es : List Entry) → symbols_in (change_at (rewrite a b x) k es) ≤ symbols_in es
unfolding change_at symbols_in
change_weight a b x k [] = omega arith
change_weight a b x zero (e ∷ es) =
    let l : length (rewrite a b x e.symbols) ≤ length e.symbols = omega (arith, length-rewrite a b x e.symbols) in
    omega (arith, mul-le-mul_left e.frequency l)
change_weight a b x (suc k) (e ∷ es) = let i = change_weight a b x k es in omega arith

module _ (a b x : ℕ) (w : WordSet) (k : ℕ) (cs ds : List ℕ) (r : Merged) (m : MergedWord a b x w k cs ds r) where
  pub merge_weight : symbols_in (words_in r.words ds) ≤ symbols_in (words_in w cs)
  merge_weight = rw m.view (change_weight a b x k (words_in w cs))
