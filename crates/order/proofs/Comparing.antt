-- What the library answers at two runs is what `compared` and `same` say. Assumes nothing.
use mathlib.Core.Path.{◌≡◌, refl, sym, ap, ◌∙◌}
use mathlib.Core.Bool.{Bool, true, false, cond, ◌&&◌, true≢false}
use mathlib.Core.List.{List, [], ◌∷◌}
use Prim.Native.Nat.{ℕ, ◌+◌, ◌-◌}
use native.Mathlib.Omega.{arith}
use lib.Dec.{eqb, ltb}
use lib.ListN.{take, drop}
use lib.Pointwise.{pointwise}
use borrow.Author.Tests.{eqb-true, eq-eqb, ltb-true, ltb-false}
use Rattle.std.specs.Prelude.{nat_eq}
use Rattle.std.specs.Ordering.{nat_cmp, ordering_then}
use Rattle.std.specs.Cmp.Lexicographic.{slice_cmp}
use Rattle.std.specs.declared.cmp.Ordering.{Ordering}
use Rattle.std.specs.declared.cmp.Ordering.TheVariants.{Less, Equal, Greater}
use Rattle.runs.specs.Parts.{part}
use Rattle.order.specs.Order.{compared, same}
use Rattle.runs.proofs.Parts.{part_lent_on}

pub compared_std : (xs ys : List ℕ) → slice_cmp nat_cmp xs ys ≡ compared xs ys
unfolding compared
compared_std [] [] = refl
compared_std [] (y ∷ ys) = refl
compared_std (x ∷ xs) [] = refl
compared_std (x ∷ xs) (y ∷ ys) = go (ltb x y) (ltb y x) (eqb x y) refl refl refl (compared_std xs ys)
  where
    go : (t u v : Bool) → ltb x y ≡ t → ltb y x ≡ u → eqb x y ≡ v → slice_cmp nat_cmp xs ys ≡ compared xs ys
        → ordering_then (cond t Less (cond v Equal Greater)) (slice_cmp nat_cmp xs ys) ≡ cond t Less (cond u Greater (compared xs ys))
    go true u v p q r e = refl
    go false true true p q r e = absurd (omega (arith, ltb-true y x q, eqb-true x y r))
    go false true false p q r e = refl
    go false false true p q r e = e
    go false false false p q r e = let h : x ≡ y = omega (arith, ltb-false x y p, ltb-false y x q) in absurd (true≢false (sym (eq-eqb x y h) ∙ r))

pub same_std : (xs ys : List ℕ) → pointwise nat_eq xs ys ≡ same xs ys
unfolding same
same_std [] [] = refl
same_std [] (y ∷ ys) = refl
same_std (x ∷ xs) [] = refl
same_std (x ∷ xs) (y ∷ ys) = ap (λ (b : Bool). eqb x y && b) (same_std xs ys)

-- two parts as they are lent
pub compare_lent : (r : Ordering) (xs : List ℕ) (at m from n : ℕ) → r ≡ compared (take (at + m - at) (drop at xs)) (take (from + n - from) (drop from xs))
    → r ≡ compared (part at m xs) (part from n xs)
compare_lent r xs at m from n e = e ∙ rw (part_lent_on at m xs, part_lent_on from n xs)
