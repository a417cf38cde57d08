-- What the library's `fill` and `copy_within` leave is a list laid over another. Assumes nothing.
use mathlib.Core.Path.{◌≡◌, sym, ap, ◌∙◌}
use mathlib.Core.List.{List, append_assoc}
use mathlib.Core.Logic.{inl, inr}
use Prim.Native.Nat.{ℕ, ◌+◌, ◌-◌, ◌≤◌}
use native.Mathlib.Omega.{arith}
use borrow.Rule.Slice.PartMut.{put_mid}
use lib.ListN.{length, take, drop, replicate}
use lib.Seq.{drop-drop}
use Rattle.std.specs.List.{copy_within}
use Rattle.runs.specs.Parts.{part, laid, zeros}
use Rattle.runs.proofs.Parts.{length-part, length-zeros, part_lent_on, part_split, laid-laid, laid_before}
use Rattle.runs.proofs.Frames.{kept-laid, kept-part}

-- a write to `xs[at..at + n]`
pub mid_laid : (xs ys : List ℕ) (at n : ℕ) → length ys ≡ n → put_mid at (at + n - at) xs ys ≡ laid xs at ys
unfolding laid
mid_laid xs ys at n l =
    let k : at + n - at ≡ length ys = omega (arith, l) in
    rw (k, drop-drop (length ys) at xs) (sym (append_assoc (take at xs) ys (drop (at + length ys) xs)))

module _ (xs : List ℕ) (at n : ℕ) where
  pub cleared : (ys : List ℕ) → ys ≡ replicate n 0 → put_mid at (at + n - at) xs ys ≡ laid xs at (zeros n)
  unfolding zeros
  cleared ys e = mid_laid xs ys at n (ap length e ∙ length-zeros n) ∙ ap (laid xs at) e

  pub copied_within : (from : ℕ) → from + n ≤ length xs → copy_within xs from (from + n) at ≡ laid xs at (part from n xs)
  unfolding laid
  copied_within from h =
      let l : length (part from n xs) ≡ n = length-part from n xs h in
      let k : from + n - from ≡ n = omega arith in
      rw (l, part_lent_on from n xs, k)

-- a part copied in two, that one first which the other would overwrite (the edit `copy_within_wrong_way` exchanges them)
module _ (xs : List ℕ) (at from h k : ℕ) where
  pub two_down : at ≤ from → from + (h + k) ≤ length xs
      → laid (laid xs at (part from h xs)) (at + h) (part (from + h) k (laid xs at (part from h xs))) ≡ laid xs at (part from (h + k) xs)
  two_down d f =
      let l : length (part from h xs) ≡ h = length-part from h xs (omega arith) in
      let q : part (from + h) k (laid xs at (part from h xs)) ≡ part (from + h) k xs =
      kept-part (from + h) k (kept-laid xs at (part from h xs) (omega (arith, l))) (omega arith) (inr (omega (arith, l))) in
      let m = laid-laid xs at (part from h xs) (part (from + h) k xs) (omega (arith, l, length-part (from + h) k xs (omega arith))) in
      rw (q, part_split from h k xs) (rw l at m)

  pub two_up : from ≤ at → at + (h + k) ≤ length xs
      → laid (laid xs (at + h) (part (from + h) k xs)) at (part from h (laid xs (at + h) (part (from + h) k xs))) ≡ laid xs at (part from (h + k) xs)
  two_up d f =
      let l : length (part from h xs) ≡ h = length-part from h xs (omega arith) in
      let m : length (part (from + h) k xs) ≡ k = length-part (from + h) k xs (omega arith) in
      let q : part from h (laid xs (at + h) (part (from + h) k xs)) ≡ part from h xs =
      kept-part from h (kept-laid xs (at + h) (part (from + h) k xs) (omega (arith, m))) (omega arith) (inl (omega arith)) in
      rw (q, part_split from h k xs) (laid_before xs at h (part from h xs) (part (from + h) k xs) l (omega (arith, m)))
