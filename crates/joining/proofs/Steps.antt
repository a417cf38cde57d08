-- The laws of a step at the front of a word that is partly written: its kind, the symbol before it, and how large its symbols are. Assumes nothing.
use mathlib.Core.Path.{◌≡◌, refl}
use mathlib.Core.Bool.{Bool, true, false}
use mathlib.Core.List.{List, [], ◌∷◌, ◌++◌, map}
use mathlib.Core.Logic.{◌⊎◌, inl, inr}
use mathlib.Core.Option.{some}
use Prim.Native.Nat.{ℕ, zero, suc, ◌+◌, ◌<◌}
use native.Mathlib.Omega.{arith}
use lib.ListN.{length, drop}
use Rattle.std.specs.Prelude.{Option, slice_get}
use Rattle.runs.specs.Parts.{nth}
use Rattle.runs.proofs.Parts.{below_or_not}
use Rattle.rule.specs.Rewriting.{is_pair, before, after}
use Rattle.rule.specs.Sums.{Under, raised}
use Rattle.rule.proofs.Rewriting.{pair_true}
use Rattle.step.specs.Step.{rewrites_to, starts_pair, step_by, step_of, standing, reports_of}
use Rattle.step.specs.declared.Step.{Step}
use Rattle.word.specs.Layout.{symbol_in}
use Rattle.states.specs.State.{most}
use Rattle.states.specs.Tracking.{last_of, Small}
use Rattle.states.proofs.Gains.{hit_holds}
use Rattle.joining.specs.Running.{Keeps, Hits}

-- the first symbol, and the symbols without the first ones
pub first_is : (l : List ℕ) (s : ℕ) (r : List ℕ) → l ≡ s ∷ r → nth l 0 ≡ s
unfolding nth
first_is l s r e = rw e

pub symbols_drop : (n : ℕ) (l : List ℕ) → map symbol_in (drop n l) ≡ drop n (map symbol_in l)
symbols_drop zero l = refl
symbols_drop (suc n) [] = refl
symbols_drop (suc n) (c ∷ l) = symbols_drop n l

-- THE KIND OF A STEP
module _ (a b x : ℕ) (previous : Option ℕ) where
  kind : (l : List ℕ) → 0 < length l → Hits a b x previous l (step_of a b x previous l) ⊎ Keeps l (step_of a b x previous l)
  unfolding step_of step_by starts_pair nth reports_of before after
  kind [] h = absurd (omega arith)
  kind (s ∷ []) h = inr (record { took = refl; front = refl })
  kind (s ∷ t ∷ r) h = go (is_pair a b s t) refl
    where
      tells : (r' : List ℕ) → reports_of a b x (rewrites_to x previous (slice_get r' 0)) ≡ before a x (standing previous) ++ after b x r'
      tells [] = refl
      tells (n ∷ r') = refl

      go : (c : Bool) → is_pair a b s t ≡ c → Hits a b x previous (s ∷ t ∷ r) (step_of a b x previous (s ∷ t ∷ r)) ⊎ Keeps (s ∷ t ∷ r) (step_of a b x previous (s ∷ t ∷ r))
      go true e =
          rw e (inl (record { took = refl; front = rw ((pair_true a b s t e).0, (pair_true a b s t e).1); symbol = refl; tells = tells r }))
      go false e = rw e (inr (record { took = refl; front = refl }))

  pub step_kind : (l : List ℕ) (st : Step) → 0 < length l → st ≡ step_of a b x previous l → Hits a b x previous l st ⊎ Keeps l st
  step_kind l st h e = rw e (kind l h)

-- THE SYMBOL WRITTEN LAST
pub last_more : (l : List ℕ) (s : ℕ) → last_of (l ++ (s ∷ [])) ≡ some s
unfolding last_of
last_more [] s = refl
last_more (t ∷ []) s = refl
last_more (t ∷ u ∷ l) s = last_more (u ∷ l) s

-- HOW LARGE THE SYMBOLS ARE
pub under_hit : (n a b x : ℕ) (P R : List ℕ) → x < n → Under n (P ++ (a ∷ b ∷ R)) → Under n (P ++ (x ∷ R))
unfolding Under
under_hit n a b x [] R h u = (h, u.1.1)
under_hit n a b x (s ∷ P) R h u = (u.0, under_hit n a b x P R h u.1)

module _ (a b x : ℕ) (ha : a < x) (hb : b < x) (hx : x < most) where
  after_small : (R : List ℕ) → Under (x + 1) R → Small (after b x R)
  unfolding Small after Under
  after_small [] u = tt
  after_small (n ∷ R) u = let z = u.0 in (omega arith, omega arith, (hx, omega arith, tt))

  pub hit_small : (P R : List ℕ) → Under (x + 1) (P ++ (a ∷ b ∷ R)) → Small (before a x (last_of P) ++ after b x R)
  unfolding Small before Under last_of
  hit_small [] R u = after_small R u.1.1
  hit_small (s ∷ []) R u = let z = u.0 in (omega arith, omega arith, (omega arith, hx, after_small R u.1.1.1))
  hit_small (s ∷ t ∷ P) R u = hit_small (t ∷ P) R u.1

  -- the pair itself is not raised, since it does not hold x
  pub hit_unraised : (P R : List ℕ) → raised a b (before a x (last_of P) ++ after b x R) ≡ 0
  hit_unraised P R =
      below_or_not 0 (raised a b (before a x (last_of P) ++ after b x R))
      (λ l. absurd (no (hit_holds a b x (last_of P) R a b l)))
      (λ l. omega arith)
    where
      no : (a ≡ x) ⊎ (b ≡ x) → ⊥
      no (inl e) = omega arith
      no (inr e) = omega arith
