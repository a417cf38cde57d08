-- Copying from a list, from the lowest byte: the start, a turn, the end. Assumes nothing.
use mathlib.Core.Path.{◌≡◌, sym, ap, ◌∙◌}
use mathlib.Core.List.{List}
use Prim.Native.Nat.{ℕ, ◌+◌, ◌<◌, ◌≤◌}
use native.Mathlib.Omega.{arith}
use lib.ListN.{length, get_or, set}
use Rattle.runs.specs.Parts.{nth, put, part, laid}
use Rattle.runs.proofs.Parts.{length-part, part_none, part-more, part_all, laid_none, laid-more}

pub copying_start : (xs s : List ℕ) (at : ℕ) → xs ≡ laid xs at (part 0 0 s)
copying_start xs s at = sym (ap (λ (l : List ℕ). laid xs at l) (part_none 0 s) ∙ laid_none xs at)

module _ (xs ys s : List ℕ) (at k : ℕ) where
  pub copying_turn : ys ≡ laid xs at (part 0 k s) → k < length s → at + length s ≤ length xs
      → set ys (at + k) (get_or s k 0) ≡ laid xs at (part 0 (k + 1) s)
  unfolding put nth
  copying_turn e j h =
      let z : 0 + k ≡ k = omega arith in
      let l : length (part 0 k s) ≡ k = length-part 0 k s (omega arith) in
      let m = laid-more xs at (part 0 k s) (get_or s k 0) (omega (arith, l)) in
      rw (e, part-more 0 k s (omega arith), z) (rw l at m)

  pub copying_end : ys ≡ laid xs at (part 0 k s) → length s ≤ k → ys ≡ laid xs at s
  copying_end e h = rw (part_all k s h) at e
