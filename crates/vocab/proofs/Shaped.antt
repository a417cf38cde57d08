-- Ends that rise: the test as a loop makes it, and what it tells of the ends when it is passed. Assumes nothing.
use mathlib.Core.Path.{◌≡◌, sym, ap, ◌∙◌}
use mathlib.Core.Bool.{Bool, true, false, and-eq-true_iff}
use mathlib.Core.List.{List, [], ◌∷◌}
use Prim.Native.Nat.{ℕ, zero, suc, ◌+◌, ◌/◌, ◌%◌, ◌≤◌, ◌<◌}
use native.Mathlib.Omega.{arith}
use native.Mathlib.Nat.{not-suc-le-zero, le_of_suc-le-suc}
use lib.Dec.{eqb, leb}
use lib.ListN.{length, get_or}
use borrow.Author.Tests.{leb-true, eqb-true, le-leb, lt-leb, eq-eqb, ne_eqb}
use Rattle.runs.specs.Parts.{nth}
use Rattle.numbers.specs.Little.{numbers}
use Rattle.rule.specs.Shapes.{wholes, rise_to, shaped}
use Rattle.vocab.specs.Places.{numbers_from}
use Rattle.vocab.proofs.Places.{numbers_start, numbers_step, numbers_end}

-- THE TEST from the front: the whole answer is the answer from here on

rise_on : (n last e : ℕ) (es : List ℕ) → last ≤ e → rise_to n last (e ∷ es) ≡ rise_to n e es
unfolding rise_to
rise_on n last e es h = rw (le-leb last e h)

rise_down : (n last e : ℕ) (es : List ℕ) → e < last → rise_to n last (e ∷ es) ≡ false
unfolding rise_to
rise_down n last e es h = rw (lt-leb last e h)

module _ (ends : List ℕ) (n : ℕ) where
  pub rise_start : rise_to n 0 (numbers 4 ends) ≡ rise_to n 0 (numbers_from 4 ends 0)
  rise_start = ap (λ (es : List ℕ). rise_to n 0 es) (numbers_start 4 ends)

  module _ (b : Bool) (i last : ℕ) (inv : b ≡ rise_to n last (numbers_from 4 ends i)) where
    pub rise_turn : (e : ℕ) → i < length ends / 4 → e ≡ nth (numbers 4 ends) i → last ≤ e → b ≡ rise_to n e (numbers_from 4 ends (i + 1))
    rise_turn e h q l = inv ∙ rw (numbers_step 4 ends i h, ← q) (rise_on n last e (numbers_from 4 ends (i + 1)) l)

    pub rise_out : (e : ℕ) → i < length ends / 4 → e ≡ nth (numbers 4 ends) i → e < last → false ≡ b
    rise_out e h q l = sym (inv ∙ rw (numbers_step 4 ends i h, ← q) (rise_down n last e (numbers_from 4 ends (i + 1)) l))

    pub rise_end : length ends / 4 ≤ i → eqb last n ≡ b
    unfolding rise_to
    rise_end h = sym (inv ∙ rw (numbers_end 4 ends i h))

module _ (run ends : List ℕ) where
  pub shaped_not : (length ends % 4 ≡ 0 → ⊥) → false ≡ shaped run ends
  unfolding shaped
  shaped_not h = rw (ne_eqb (length ends % 4) 0 h)

  pub shaped_by : (b : Bool) → length ends % 4 ≡ 0 → b ≡ rise_to (length run) 0 (numbers 4 ends) → b ≡ shaped run ends
  unfolding shaped
  shaped_by b h e = rw (eq-eqb (length ends % 4) 0 h) e

-- ENDS THAT PASSED IT: each is at least the one before it, and at most the number of bytes

pub risen_cons : (n last e : ℕ) (es : List ℕ) → rise_to n last (e ∷ es) ≡ true → (last ≤ e) × (rise_to n e es ≡ true)
unfolding rise_to
risen_cons n last e es t = let b = (and-eq-true_iff (leb last e) (rise_to n e es)).0 t in (leb-true last e b.0, b.1)

-- the ends from a place on rise from a number that is not past the last
pub risen_low : (n last : ℕ) (es : List ℕ) → rise_to n last es ≡ true → last ≤ n
unfolding rise_to
risen_low n last [] t = omega (arith, eqb-true last n t)
risen_low n last (e ∷ es) t = let b = risen_cons n last e es t in omega (arith, b.0, risen_low n e es b.1)

-- by their places
pub risen_at : (n last : ℕ) (es : List ℕ) (k : ℕ) → rise_to n last es ≡ true → k < length es → (get_or (last ∷ es) k 0 ≤ get_or es k 0) × (get_or es k 0 ≤ n)
risen_at n last [] k t h = absurd (not-suc-le-zero h)
risen_at n last (e ∷ es) zero t h = let b = risen_cons n last e es t in (b.0, risen_low n e es b.1)
risen_at n last (e ∷ es) (suc k) t h = risen_at n e es k (risen_cons n last e es t).1 (le_of_suc-le-suc h)

-- step by step, as a loop over them carries it
module _ (ends : List ℕ) (n i last : ℕ) (t : rise_to n last (numbers_from 4 ends i) ≡ true) where
  module _ (e : ℕ) (h : i < length ends / 4) (q : e ≡ nth (numbers 4 ends) i) where
    risen_both : (last ≤ e) × (rise_to n e (numbers_from 4 ends (i + 1)) ≡ true)
    risen_both = risen_cons n last e (numbers_from 4 ends (i + 1)) (rw (numbers_step 4 ends i h, ← q) at t)

    pub risen_up : last ≤ e
    risen_up = risen_both.0

    pub risen_rest : rise_to n e (numbers_from 4 ends (i + 1)) ≡ true
    risen_rest = risen_both.1

    pub risen_under : e ≤ n
    risen_under = risen_low n e (numbers_from 4 ends (i + 1)) risen_rest

-- of ends in shape, from the first on
pub shaped_rises : (run ends : List ℕ) (b : Bool) → b ≡ shaped run ends → b ≡ true → rise_to (length run) 0 (numbers_from 4 ends 0) ≡ true
unfolding shaped
shaped_rises run ends b e t =
    sym (rise_start ends (length run)) ∙ ((and-eq-true_iff (wholes 4 ends) (rise_to (length run) 0 (numbers 4 ends))).0 (sym e ∙ t)).1
