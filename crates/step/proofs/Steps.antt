-- A step at the front of a word, and the definitions at the rest of the word. Assumes nothing.
use mathlib.Core.Path.{◌≡◌, refl}
use mathlib.Core.Bool.{Bool, true, false}
use mathlib.Core.List.{List, [], ◌∷◌, ◌++◌}
use mathlib.Core.Option as maybe
use Prim.Native.Nat.{ℕ, ◌≤◌, ◌<◌}
use native.Mathlib.Omega.{arith}
use lib.ListN.{length}
use Rattle.std.specs.Prelude.{Option, slice_get}
use Rattle.runs.specs.Parts.{nth}
use Rattle.rule.specs.Rewriting.{is_pair, one, hit, cut, out, hits, before, after}
use Rattle.rule.proofs.Rewriting.{src-cut}
use Rattle.rule.proofs.Reports.{reports_hit, reports_one}
use Rattle.step.specs.Step.{rewrites_to, keeps, starts_pair, step_by, step_of, standing, reports_of, StepAt}
use Rattle.step.specs.declared.Step.{Step}

-- A STEP AT THE FRONT OF A WORD
module _ (a b x : ℕ) (previous : Option ℕ) where
  tells_none : (s : ℕ) → reports_of a b x (keeps s) ≡ []
  unfolding reports_of before after
  tells_none s = refl

  tells_all : (r : List ℕ) → reports_of a b x (rewrites_to x previous (slice_get r 0)) ≡ before a x (standing previous) ++ after b x r
  unfolding reports_of before after
  tells_all [] = refl
  tells_all (n ∷ r) = refl

  at_most_four : (p : maybe.Option ℕ) (r : List ℕ) → length (before a x p ++ after b x r) ≤ 4
  unfolding before after
  at_most_four maybe.none [] = omega arith
  at_most_four maybe.none (n ∷ r) = omega arith
  at_most_four (maybe.some p) [] = omega arith
  at_most_four (maybe.some p) (n ∷ r) = omega arith

  kept : (s : ℕ) (r : List ℕ) → cut a b (s ∷ r) ≡ one s ∷ cut a b r → StepAt a b x previous (s ∷ r) (keeps s)
  unfolding out hits
  kept s r e = record {
    least = omega arith;
    most = omega arith;
    within = omega arith;
    outs = rw e;
    tells = rw (e, reports_one, tells_none s);
    hit = rw e (omega arith);
    few = rw (tells_none s) (omega arith);
  }

  taken : (s t : ℕ) (r : List ℕ) → cut a b (s ∷ t ∷ r) ≡ hit ∷ cut a b r → StepAt a b x previous (s ∷ t ∷ r) (rewrites_to x previous (slice_get r 0))
  unfolding out hits
  taken s t r e = record {
    least = omega arith;
    most = omega arith;
    within = omega arith;
    outs = rw e;
    tells = rw (e, reports_hit, tells_all r, src-cut);
    hit = rw e (omega arith);
    few = rw (tells_all r) (at_most_four (standing previous) r);
  }

  pub step_at : (l : List ℕ) → 0 < length l → StepAt a b x previous l (step_of a b x previous l)
  unfolding step_of step_by starts_pair cut nth
  step_at [] h = absurd (omega arith)
  step_at (s ∷ []) h = kept s [] refl
  step_at (s ∷ t ∷ r) h = go (is_pair a b s t) refl
    where
      go : (c : Bool) → is_pair a b s t ≡ c → StepAt a b x previous (s ∷ t ∷ r) (step_of a b x previous (s ∷ t ∷ r))
      go true e = rw e (taken s t r (rw e))
      go false e = rw e (kept s (t ∷ r) (rw e))

  -- as `decide` gives it
  pub decided : (l : List ℕ) (s : ℕ) (t u : Option ℕ) (st : Step) → 0 < length l → s ≡ nth l 0 → t ≡ slice_get l 1 → u ≡ slice_get l 2
      → st ≡ step_by a b x previous s t u → StepAt a b x previous l st
  unfolding step_of
  decided l s t u st h es et eu e =
      let f : st ≡ step_of a b x previous l = rw (← es, ← et, ← eu) e in
      rw f (step_at l h)
