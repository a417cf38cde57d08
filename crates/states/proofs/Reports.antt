-- What some reports make of the states: of none, of one, of two lists after each other. Assumes nothing.
use mathlib.Core.Path.{◌≡◌, refl, sym, ap, ◌∙◌}
use mathlib.Core.Bool.{true}
use mathlib.Core.List.{List, [], ◌∷◌, ◌++◌}
use mathlib.Core.Logic.{◌⊎◌, inl, inr, ⊎_elim}
use Prim.Native.Nat.{ℕ, ◌<◌, ◌≤◌}
use native.Mathlib.Omega.{arith}
use Rattle.runs.proofs.Parts.{same_or_not, below_or_not}
use Rattle.rule.specs.Rewriting.{bit, Report, more, less}
use Rattle.rule.specs.Sums.{raised, lowered}
use Rattle.rule.proofs.Rewriting.{pair_hit, pair_miss}
use Rattle.rule.proofs.Reports.{raised-append, lowered-append}
use Rattle.marks.specs.Marks.{touched, gained, marked, marking}
use Rattle.marks.proofs.Marks.{marked-same, marked_other}
use Rattle.states.specs.State.{State, most, key, left_of, right_of, raise, lower, Change}
use Rattle.states.specs.Tracking.{Raises, Reported}
use Rattle.states.proofs.Keys.{key_pos, key_single, left_key, right_key, of_key}
use Rattle.states.proofs.Notes.{noted_has, noted-keeps, noted_only}

-- NO REPORT
pub reported_none : (f k : ℕ) (was is : ℕ → State) → ((c : ℕ) → 0 < c → is c ≡ was c) → Reported f k [] was is
unfolding raised lowered
reported_none f k was is h = record {
  counts = λ p q hp hq. rw (h (key p q) (key_pos p q));
  grown = λ c j z a. rw (h c z) a;
  known = λ c j z n a. rw (h c z) at a;
  noted = λ p q hp hq l. absurd (omega arith);
  still = λ p q hp hq l. rw (h (key p q) (key_pos p q));
  gains = λ p q hp hq l. absurd (omega arith);
  keeps = λ c z m. rw (h c z) m;
  only = λ c z m. inl (rw (h c z) at m);
}

-- ONE LIST AFTER THE OTHER
module _ (f k : ℕ) (rs ss : List Report) where
  raises_left : (c : ℕ) → Raises c rs → Raises c (rs ++ ss)
  raises_left c r = let s = r.some in record { pair = r.pair; some = omega (arith, raised-append (left_of c) (right_of c) rs ss) }

  raises_right : (c : ℕ) → Raises c ss → Raises c (rs ++ ss)
  raises_right c r = let s = r.some in record { pair = r.pair; some = omega (arith, raised-append (left_of c) (right_of c) rs ss) }

  pub reported_then : {a b c : ℕ → State} → Reported f k rs a b → Reported f k ss b c → Reported f k (rs ++ ss) a c
  reported_then {a} {b} {c} s t = record {
    counts = λ p q hp hq.
        let u = s.counts p q hp hq in
        let v = t.counts p q hp hq in
        rw (raised-append p q rs ss, lowered-append p q rs ss) (omega arith);
    grown = λ d j z m. t.grown d j z (s.grown d j z m);
    known = λ d j z n m. s.known d j z n (t.known d j z n m);
    noted = λ p q hp hq l. below_or_not 0 (raised p q ss)
        (λ g. t.noted p q hp hq g)
        (λ g. t.grown (key p q) k (key_pos p q) (s.noted p q hp hq (omega (arith, raised-append p q rs ss))));
    still = λ p q hp hq l.
        t.still p q hp hq (omega (arith, raised-append p q rs ss)) ∙ s.still p q hp hq (omega (arith, raised-append p q rs ss));
    gains = λ p q hp hq l. below_or_not 0 (raised p q ss)
        (λ g. t.gains p q hp hq g)
        (λ g. t.keeps (key p q) (key_pos p q) (s.gains p q hp hq (omega (arith, raised-append p q rs ss))));
    keeps = λ d z m. t.keeps d z (s.keeps d z m);
    only = λ d z m. ⊎_elim
        (λ (g : marked gained (b d).marks ≡ true). ⊎_elim {C = (marked gained (a d).marks ≡ true) ⊎ Raises d (rs ++ ss)} inl (λ (r : Raises d rs). inr (raises_left d r)) (s.only d z g))
        (λ (r : Raises d ss). inr (raises_right d r))
        (t.only d z m);
  }

-- ONE REPORT: what it says of its own pair, and of every other
module _ (p q : ℕ) where
  raised_this : raised p q (more p q ∷ []) ≡ 1
  unfolding raised
  raised_this = omega (arith, ap bit (pair_hit p q p q refl refl))

  lowered_this : lowered p q (less p q ∷ []) ≡ 1
  unfolding lowered
  lowered_this = omega (arith, ap bit (pair_hit p q p q refl refl))

  module _ (p' q' : ℕ) where
    lowered_more : lowered p' q' (more p q ∷ []) ≡ 0
    unfolding lowered
    lowered_more = refl

    raised_less : raised p' q' (less p q ∷ []) ≡ 0
    unfolding raised
    raised_less = refl

    module _ (n : key p' q' ≡ key p q → ⊥) where
      raised_other : raised p' q' (more p q ∷ []) ≡ 0
      unfolding raised
      raised_other = omega (arith, ap bit (pair_miss p' q' p q (λ e g. n (rw (e, g)))))

      lowered_other : lowered p' q' (less p q ∷ []) ≡ 0
      unfolding lowered
      lowered_other = omega (arith, ap bit (pair_miss p' q' p q (λ e g. n (rw (e, g)))))

-- +1 of a pair, which makes of its state the raised one
module _ (f k p q : ℕ) (hp : p < most) (hq : q < most) {was is : ℕ → State} where
  pub reported_raise : Change (key p q) (raise f k (was (key p q))) was is → Reported f k (more p q ∷ []) was is
  unfolding raise
  reported_raise c = record {
    counts = λ p' q' hp' hq'. same_or_not (key p' q') (key p q)
        (λ e. let s = key_single p' q' p q hq' hq e in rw (s.0, s.1, c.here, raised_this p q, lowered_more p q p q) (omega arith))
        (λ n. rw (c.others (key p' q') (key_pos p' q') n, raised_other p q p' q' n, lowered_more p q p' q'));
    grown = λ d j z a. same_or_not d (key p q)
        (λ e. let b = rw e at a in rw (e, c.here) (noted-keeps k (was (key p q)).words b))
        (λ n. rw (c.others d z n) a);
    known = λ d j z o a. same_or_not d (key p q)
        (λ e. let b = rw (e, c.here) at a in rw e (noted_only k (was (key p q)).words o b))
        (λ n. rw (c.others d z n) at a);
    noted = λ p' q' hp' hq' l. same_or_not (key p' q') (key p q)
        (λ e. rw (e, c.here) (noted_has k (was (key p q)).words))
        (λ n. absurd (omega (arith, raised_other p q p' q' n)));
    still = λ p' q' hp' hq' l. same_or_not (key p' q') (key p q)
        (λ e. let s = key_single p' q' p q hq' hq e in let m = rw (s.0, s.1) at l in absurd (omega (arith, raised_this p q)))
        (λ n. rw (c.others (key p' q') (key_pos p' q') n));
    gains = λ p' q' hp' hq' l. same_or_not (key p' q') (key p q)
        (λ e. rw (e, c.here) (marked-same gained true (marking touched true (was (key p q)).marks)))
        (λ n. absurd (omega (arith, raised_other p q p' q' n)));
    keeps = λ d z m. same_or_not d (key p q)
        (λ e. rw (e, c.here) (marked-same gained true (marking touched true (was (key p q)).marks)))
        (λ n. rw (c.others d z n) m);
    only = λ d z m. same_or_not d (key p q)
        (λ e. inr (rw e raises_this))
        (λ n. inl (rw (c.others d z n) at m));
  }
    where
      raises_this : Raises (key p q) (more p q ∷ [])
      raises_this = record { pair = of_key p q hp hq; some = rw (left_key p q hq, right_key p q hq, raised_this p q) (omega arith) }

  -- -1, where it has so many
  pub reported_lower : f ≤ (was (key p q)).count → Change (key p q) (lower f (was (key p q))) was is → Reported f k (less p q ∷ []) was is
  unfolding lower
  reported_lower h c = record {
    counts = λ p' q' hp' hq'. same_or_not (key p' q') (key p q)
        (λ e. let s = key_single p' q' p q hq' hq e in rw (s.0, s.1, c.here, lowered_this p q, raised_less p q p q) (omega arith))
        (λ n. rw (c.others (key p' q') (key_pos p' q') n, lowered_other p q p' q' n, raised_less p q p' q'));
    grown = λ d j z a. rw (words d z) a;
    known = λ d j z o a. rw (words d z) at a;
    noted = λ p' q' hp' hq' l. absurd (omega (arith, raised_less p q p' q'));
    still = λ p' q' hp' hq' l. words (key p' q') (key_pos p' q');
    gains = λ p' q' hp' hq' l. absurd (omega (arith, raised_less p q p' q'));
    keeps = λ d z m. marks d z ∙ m;
    only = λ d z m. inl (sym (marks d z) ∙ m);
  }
    where
      words : (d : ℕ) → 0 < d → (is d).words ≡ (was d).words
      words d z = same_or_not d (key p q) (λ e. rw (e, c.here)) (λ n. rw (c.others d z n))

      marks : (d : ℕ) → 0 < d → marked gained (is d).marks ≡ marked gained (was d).marks
      marks d z = same_or_not d (key p q)
          (λ e. rw (e, c.here) (marked_other gained touched true (was (key p q)).marks refl))
          (λ n. rw (c.others d z n))
