-- Two lists end to end are a third where the first begins it and the second is what is left of it. Assumes nothing.
use mathlib.Core.Path.{◌≡◌, refl, sym, ap, ◌∙◌}
use mathlib.Core.Bool.{Bool, true, false}
use mathlib.Core.List.{List, [], ◌∷◌, ◌++◌}
use Prim.Native.Nat.{ℕ}
use lib.ListN.{length, take, drop}
use lib.Pointwise.{pointwise}
use borrow.Author.Tests.{eq-eqb}
use Rattle.std.proofs.Math.Seq.{take-append_seam}
use Rattle.std.proofs.lemmas.List.{take-append-drop}
use Rattle.std.specs.Prelude.{nat_eq}
use Rattle.std.specs.Cmp.Lexicographic.{same_text, other_text}
use Rattle.order.specs.Order.{same}
use Rattle.order.proofs.Ordered.{same_true}

pub same_front : (a b x : List ℕ) → same (a ++ b) (a ++ x) ≡ same b x
unfolding same
same_front [] b x = refl
same_front (c ∷ a) b x = rw (eq-eqb c c refl) (same_front a b x)

module _ (a b p : List ℕ) where
  -- the first does begin the third, and x is left of it
  pub front_found : pointwise nat_eq (take (length a) p) a ≡ true → (x : List ℕ) → x ≡ drop (length a) p → (r : Bool) → r ≡ same b x → r ≡ same (a ++ b) p
  front_found h x e r f =
      let t : take (length a) p ≡ a = same_text (take (length a) p) a (sym h) in
      let q : a ++ x ≡ p = rw e (ap (λ (l : List ℕ). l ++ drop (length a) p) (sym t) ∙ take-append-drop (length a) p) in
      f ∙ sym (ap (λ (l : List ℕ). same (a ++ b) l) (sym q) ∙ same_front a b x)

  -- it does not
  pub front_missing : pointwise nat_eq (take (length a) p) a ≡ false → false ≡ same (a ++ b) p
  front_missing h = go (same (a ++ b) p) refl
    where
      go : (t : Bool) → same (a ++ b) p ≡ t → false ≡ same (a ++ b) p
      go true e = absurd (other_text (take (length a) p) a (sym h) (ap (take (length a)) (sym (same_true (a ++ b) p e)) ∙ take-append_seam a b))
      go false e = sym e
