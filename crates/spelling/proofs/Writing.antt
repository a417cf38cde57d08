-- The laws of spellings written by parts: a decorated unit, and two spellings joined. Assumes nothing.
use mathlib.Core.Path.{◌≡◌, sym, ap, ◌∙◌}
use mathlib.Core.List.{List, ◌++◌}
use mathlib.Core.Logic.{inl}
use Prim.Native.Nat.{ℕ, ◌+◌, ◌-◌, ◌≤◌}
use native.Mathlib.Omega.{arith}
use lib.ListN.{length, take, drop, length-append}
use lib.Seq.{take_all}
use Rattle.runs.specs.Parts.{part, laid}
use Rattle.runs.proofs.Parts.{length-part, part-part, part_lent_on, length-laid, laid-laid}
use Rattle.runs.proofs.Frames.{kept-laid, kept-part}
use Rattle.rule.specs.Spelling.{strip_prefix, joined}
use Rattle.spelling.specs.Lengths.{joined_length}
use Rattle.spelling.specs.Writing.{Written}
use Rattle.spelling.proofs.Prefixes.{strip_drop, strip_short}

-- two outcomes that a contract allows are one
pub written_single : {was is-now is-too new : List ℕ} {at n r q : ℕ} → Written was is-now at new n r → Written was is-too at new n q
    → (is-now ≡ is-too) × (r ≡ q)
written_single w v = (w.is ∙ sym v.is, w.behind ∙ sym v.behind)

-- A DECORATED UNIT, part by part

-- three lists laid one behind the other
pub laid_three : (xs : List ℕ) (at : ℕ) (a b d : List ℕ) → at + (length a + (length b + length d)) ≤ length xs
    → laid (laid (laid xs at a) (at + length a) b) (at + length a + length b) d ≡ laid xs at (a ++ (b ++ d))
laid_three xs at a b d h =
    laid-laid (laid xs at a) (at + length a) b d (rw (length-laid xs at a (omega arith)) (omega arith))
    ∙ laid-laid xs at a (b ++ d) (simp length-append (omega arith))

module _ (xs ys zs vs a b d : List ℕ) (at : ℕ) where
  pub decorate-written : at + (length a + (length b + length d)) ≤ length xs
      → ys ≡ laid xs at a
      → zs ≡ laid ys (at + length a) b
      → vs ≡ laid zs (at + length a + length b) d
      → Written xs vs at (a ++ (b ++ d)) (length a + (length b + length d)) (at + length a + length b + length d)
  decorate-written h e f g = record { is = is; long = simp length-append; behind = omega arith }
    where
      is : vs ≡ laid xs at (a ++ (b ++ d))
      is = g ∙ rw (f, e) (laid_three xs at a b d h)

-- TWO SPELLINGS JOINED, both below the place where they are written

-- a part without its prefix is the end of that part
pub part_stripped : (p xs : List ℕ) (from n rest : ℕ) → from + n ≤ length xs → rest ≡ length (strip_prefix p (part from n xs))
    → part (from + (n - rest)) rest xs ≡ strip_prefix p (part from n xs)
unfolding part
part_stripped p xs from n rest h e =
    let x = part from n xs in
    let l : length x ≡ n = length-part from n xs h in
    let s : rest ≤ n = omega (arith, strip_short p x) in
    let d : n - rest ≡ length x - length (strip_prefix p x) = omega arith in
    sym (part-part (n - rest) rest from n xs (omega arith) h)
    ∙ ap (λ (k : ℕ). take rest (drop k x)) d
    ∙ ap (λ (y : List ℕ). take rest y) (strip_drop p x)
    ∙ take_all rest (strip_prefix p x) (omega arith)

-- its length, as it is asked of the part that is lent
pub rest_is : (p xs : List ℕ) (from n rest : ℕ) → rest ≡ length (strip_prefix p (take (from + n - from) (drop from xs)))
    → rest ≡ length (strip_prefix p (part from n xs))
rest_is p xs from n rest e = rw (part_lent_on from n xs) at e

module _ (p xs ys zs : List ℕ) (at la ln ra rn rest : ℕ) where
  pub join_written : la + ln ≤ at → ra + rn ≤ at → at + joined_length ln p (part ra rn xs) ≤ length xs
      → rest ≡ length (strip_prefix p (part ra rn xs))
      → ys ≡ laid xs at (part la ln xs)
      → zs ≡ laid ys (at + ln) (part (ra + (rn - rest)) rest ys)
      → Written xs zs at (joined p (part la ln xs) (part ra rn xs)) (joined_length ln p (part ra rn xs)) (at + ln + rest)
  unfolding joined
  join_written hl hr h e f g = record { is = is; long = simp length-append (omega (arith, l)); behind = omega arith }
    where
      left : List ℕ
      left = part la ln xs

      right : List ℕ
      right = strip_prefix p (part ra rn xs)

      l : length left ≡ ln
      l = length-part la ln xs (omega arith)

      few : rest ≤ rn
      few = omega (arith, strip_short p (part ra rn xs), length-part ra rn xs (omega arith))

      -- what is read for the right one lies below what the left one changed
      same : part (ra + (rn - rest)) rest ys ≡ right
      same =
          ap (λ (r : List ℕ). part (ra + (rn - rest)) rest r) f
          ∙ kept-part (ra + (rn - rest)) rest (kept-laid xs at left (omega (arith, l))) (omega (arith, few)) (inl (omega (arith, few)))
          ∙ part_stripped p xs ra rn rest (omega arith) e

      is : zs ≡ laid xs at (left ++ right)
      is = g ∙ rw (same, f) (rw l at (laid-laid xs at left right (omega (arith, l))))
