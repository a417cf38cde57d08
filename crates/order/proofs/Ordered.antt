-- The laws of `compared` and `same`: what they say of the two lists. Assumes nothing.
use mathlib.Core.Path.{◌≡◌, refl, sym, ◌∙◌}
use mathlib.Core.Bool.{Bool, true, false, cond, and-eq-true_iff, false≢true}
use mathlib.Core.List.{List, [], ◌∷◌}
use Prim.Native.Nat.{ℕ}
use native.Mathlib.Omega.{arith}
use lib.Dec.{eqb, ltb}
use borrow.Author.Tests.{ltb-false, eqb-true, eq-eqb, le-ltb}
use Rattle.order.specs.Order.{compared, same}
use Rattle.std.specs.declared.cmp.Ordering.TheVariants.{Less, Equal, Greater}

pub same_refl : (xs : List ℕ) → same xs xs ≡ true
unfolding same
same_refl [] = refl
same_refl (x ∷ xs) = rw (eq-eqb x x refl) (same_refl xs)

pub same_true : (xs ys : List ℕ) → same xs ys ≡ true → xs ≡ ys
unfolding same
same_true [] [] e = refl
same_true [] (y ∷ ys) e = cc
same_true (x ∷ xs) [] e = cc
same_true (x ∷ xs) (y ∷ ys) e = let b = (and-eq-true_iff (eqb x y) (same xs ys)).0 e in rw (eqb-true x y b.0, same_true xs ys b.1)

pub same_false : (xs ys : List ℕ) → same xs ys ≡ false → xs ≡ ys → ⊥
same_false xs ys e p = false≢true (sym (rw p at e) ∙ same_refl ys)

pub compared_refl : (xs : List ℕ) → compared xs xs ≡ Equal
unfolding compared
compared_refl [] = refl
compared_refl (x ∷ xs) = rw (le-ltb x x (omega arith)) (compared_refl xs)

pub compared-same : (xs ys : List ℕ) → compared xs ys ≡ Equal → xs ≡ ys
unfolding compared
compared-same [] [] e = refl
compared-same [] (y ∷ ys) e = cc
compared-same (x ∷ xs) [] e = cc
compared-same (x ∷ xs) (y ∷ ys) e = go (ltb x y) (ltb y x) refl refl e (compared-same xs ys)
  where
    go : (t u : Bool) → ltb x y ≡ t → ltb y x ≡ u → cond t Less (cond u Greater (compared xs ys)) ≡ Equal
        → (compared xs ys ≡ Equal → xs ≡ ys) → x ∷ xs ≡ y ∷ ys
    go true u p q r f = cc
    go false true p q r f = cc
    go false false p q r f = let h : x ≡ y = omega (arith, ltb-false x y p, ltb-false y x q) in rw (h, f r)
