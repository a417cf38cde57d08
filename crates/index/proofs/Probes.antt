-- The laws of `probe`: what it finds, that it meets a vacant slot where there is one, and what a vacant slot filled does to it. Assumes nothing.
use mathlib.Core.Path.{◌≡◌, refl, sym, ap, ◌∙◌}
use Prim.Native.Nat.{ℕ, zero, suc, ◌<◌}
use native.Mathlib.Omega.{arith}
use borrow.Author.Tests.{eq-eqb, ne_eqb}
use Rattle.runs.proofs.Parts.{same_or_not}
use Rattle.cells.specs.Ring.{after}
use Rattle.cells.proofs.Rings.{after_lt, Ahead, ahead_none, ahead_next, ahead_all}
use Rattle.cells.proofs.Search.{at_vacant, at_full, vacant_full, same_at, same-vacant}
use Rattle.index.specs.Probe.{probe}
use Rattle.cells.specs.declared.Found.TheVariants.{At, Vacant, Full}

-- ONE PROBE, by what stands in the slot
module _ (f : ℕ → ℕ) (cap k n i : ℕ) where
  pub probe_at : f i ≡ k → probe f cap k (suc n) i ≡ At i
  unfolding probe
  probe_at e = rw (eq-eqb (f i) k e)

  pub probe-vacant : (f i ≡ k → ⊥) → f i ≡ 0 → probe f cap k (suc n) i ≡ Vacant i
  unfolding probe
  probe-vacant o e = rw (ne_eqb (f i) k o, eq-eqb (f i) 0 e)

  pub probe_next : (f i ≡ k → ⊥) → (f i ≡ 0 → ⊥) → probe f cap k (suc n) i ≡ probe f cap k n (after cap i)
  unfolding probe
  probe_next o e = rw (ne_eqb (f i) k o, ne_eqb (f i) 0 e)

  -- three cases
  cases : {P : Type 0} → (f i ≡ k → P) → ((f i ≡ k → ⊥) → f i ≡ 0 → P) → ((f i ≡ k → ⊥) → (f i ≡ 0 → ⊥) → P) → P
  cases a v m = same_or_not (f i) k a (λ o. same_or_not (f i) 0 (v o) (m o))

pub probe_none : (f : ℕ → ℕ) (cap k i : ℕ) → probe f cap k 0 i ≡ Full
unfolding probe
probe_none f cap k i = refl

-- WHAT A LOOKUP FINDS IS SO
module _ (f : ℕ → ℕ) (cap k : ℕ) where
  pub probe_finds : (n i j : ℕ) → i < cap → probe f cap k n i ≡ At j → (j < cap) × (f j ≡ k)
  probe_finds zero i j h e = at_full j (sym e ∙ probe_none f cap k i)
  probe_finds (suc n) i j h e =
      cases f cap k n i
      (λ a. let q : i ≡ j = same_at i j (sym (probe_at f cap k n i a) ∙ e) in rw (← q) (h, a))
      (λ o z. at_vacant j i (sym e ∙ probe-vacant f cap k n i o z))
      (λ o z. probe_finds n (after cap i) j (after_lt cap i h) (sym (probe_next f cap k n i o z) ∙ e))

  pub probe_finds_vacant : (n i j : ℕ) → i < cap → probe f cap k n i ≡ Vacant j → (j < cap) × (f j ≡ 0)
  probe_finds_vacant zero i j h e = vacant_full j (sym e ∙ probe_none f cap k i)
  probe_finds_vacant (suc n) i j h e =
      cases f cap k n i
      (λ a. at_vacant i j (sym (probe_at f cap k n i a) ∙ e))
      (λ o z. let q : i ≡ j = same-vacant i j (sym (probe-vacant f cap k n i o z) ∙ e) in rw (← q) (h, z))
      (λ o z. probe_finds_vacant n (after cap i) j (after_lt cap i h) (sym (probe_next f cap k n i o z) ∙ e))

  -- a lookup that has a vacant slot before it is not full
  probe_not_full : (e : ℕ) → e < cap → f e ≡ 0 → (n i : ℕ) → i < cap → Ahead cap e n i → probe f cap k n i ≡ Full → ⊥
  probe_not_full e l w zero i h a q = ahead_none cap e i h a
  probe_not_full e l w (suc n) i h a q =
      cases f cap k n i
      (λ p. at_full i (sym (probe_at f cap k n i p) ∙ q))
      (λ o z. vacant_full i (sym (probe-vacant f cap k n i o z) ∙ q))
      (λ o z. probe_not_full e l w n (after cap i) (after_lt cap i h) (ahead_next cap e n i l h (λ p. z (rw p w)) a) (sym (probe_next f cap k n i o z) ∙ q))

  pub never_full : (e i : ℕ) → e < cap → f e ≡ 0 → i < cap → probe f cap k cap i ≡ Full → ⊥
  never_full e i l w h = probe_not_full e l w cap i h (ahead_all cap e i l h)

-- A LOOKUP READS ONLY THE KEYS
pub probe-same : (f g : ℕ → ℕ) (cap k : ℕ) → ((j : ℕ) → j < cap → g j ≡ f j) → (n i : ℕ) → i < cap → probe g cap k n i ≡ probe f cap k n i
unfolding probe
probe-same f g cap k s zero i h = refl
probe-same f g cap k s (suc n) i h = rw (s i h, probe-same f g cap k s n (after cap i) (after_lt cap i h))

-- WHERE A VACANT SLOT e IS FILLED
module _ (f g : ℕ → ℕ) (cap k e : ℕ) (s : (j : ℕ) → j < cap → (j ≡ e → ⊥) → g j ≡ f j) where
  -- what was found before is found still
  pub probe_still : 0 < k → f e ≡ 0 → (n i j : ℕ) → i < cap → probe f cap k n i ≡ At j → probe g cap k n i ≡ At j
  probe_still p w zero i j h q = at_full j (sym q ∙ probe_none f cap k i)
  probe_still p w (suc n) i j h q =
      cases f cap k n i
      (λ a.
      let t = s i h (λ r. let z : f i ≡ 0 = rw r w in omega arith) in
      probe_at g cap k n i (t ∙ a) ∙ sym (probe_at f cap k n i a) ∙ q)
      (λ o z. at_vacant j i (sym q ∙ probe-vacant f cap k n i o z))
      (λ o z.
      let t = s i h (λ r. z (rw r w)) in
      probe_next g cap k n i (λ r. o (sym t ∙ r)) (λ r. z (sym t ∙ r))
      ∙ probe_still p w n (after cap i) j (after_lt cap i h) (sym (probe_next f cap k n i o z) ∙ q))

  -- and the key that was put in it, where the lookup of that key found it vacant
  pub probe_new : g e ≡ k → (n i : ℕ) → i < cap → probe f cap k n i ≡ Vacant e → probe g cap k n i ≡ At e
  probe_new w zero i h q = vacant_full e (sym q ∙ probe_none f cap k i)
  probe_new w (suc n) i h q =
      cases f cap k n i
      (λ a. at_vacant i e (sym (probe_at f cap k n i a) ∙ q))
      (λ o z.
      let r : i ≡ e = same-vacant i e (sym (probe-vacant f cap k n i o z) ∙ q) in
      probe_at g cap k n i (rw r w) ∙ ap At r)
      (λ o z.
      let v = (probe_finds_vacant f cap k (suc n) i e h q).1 in
      let t = s i h (λ r. z (rw r v)) in
      probe_next g cap k n i (λ r. o (sym t ∙ r)) (λ r. z (sym t ∙ r))
      ∙ probe_new w n (after cap i) (after_lt cap i h) (sym (probe_next f cap k n i o z) ∙ q))
