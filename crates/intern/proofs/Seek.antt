-- The laws of `seek`: the loop that does it, what it finds, and what a vacant slot filled does to it. Assumes nothing.
use mathlib.Core.Path.{◌≡◌, refl, sym, ap, ◌∙◌}
use mathlib.Core.Bool.{Bool, true, false}
use mathlib.Core.List.{List}
use Prim.Native.Nat.{ℕ, zero, suc, ◌+◌, ◌-◌, ◌<◌, ◌≤◌}
use native.Mathlib.Omega.{arith}
use borrow.Author.Tests.{eq-eqb, ne_eqb}
use Rattle.runs.specs.Parts.{nth}
use Rattle.runs.proofs.Parts.{same_or_not}
use Rattle.cells.specs.Ring.{after}
use Rattle.cells.proofs.Rings.{after_lt, Ahead, ahead_none, ahead_next, ahead_all}
use Rattle.cells.proofs.Search.{at_vacant, at_full, vacant_full, same_at, same-vacant}
use Rattle.intern.specs.Seek.{number_in, seek}
use Rattle.cells.specs.declared.Found.{Found}
use Rattle.cells.specs.declared.Found.TheVariants.{At, Vacant, Full}

-- ONE PROBE, by what stands in the slot
module _ (t : ℕ → Bool) (cs : List ℕ) (base cap n i : ℕ) where
  probe-vacant : nth cs (base + i) ≡ 0 → seek t cs base cap (suc n) i ≡ Vacant i
  unfolding seek
  probe-vacant z = rw (eq-eqb (nth cs (base + i)) 0 z)

  probe_at : (nth cs (base + i) ≡ 0 → ⊥) → t (nth cs (base + i)) ≡ true → seek t cs base cap (suc n) i ≡ At (number_in (nth cs (base + i)))
  unfolding seek
  probe_at z y = rw (ne_eqb (nth cs (base + i)) 0 z, y)

  probe_next : (nth cs (base + i) ≡ 0 → ⊥) → t (nth cs (base + i)) ≡ false → seek t cs base cap (suc n) i ≡ seek t cs base cap n (after cap i)
  unfolding seek
  probe_next z y = rw (ne_eqb (nth cs (base + i)) 0 z, y)

  -- three cases
  pub cases : {P : Type 0} → (nth cs (base + i) ≡ 0 → P) → ((nth cs (base + i) ≡ 0 → ⊥) → t (nth cs (base + i)) ≡ true → P)
      → ((nth cs (base + i) ≡ 0 → ⊥) → t (nth cs (base + i)) ≡ false → P) → P
  cases {P} f g h = same_or_not (nth cs (base + i)) 0 f (λ z. go z (t (nth cs (base + i))) refl)
    where
      go : (nth cs (base + i) ≡ 0 → ⊥) → (b : Bool) → t (nth cs (base + i)) ≡ b → P
      go z true e = g z e
      go z false e = h z e

probe_none : (t : ℕ → Bool) (cs : List ℕ) (base cap i : ℕ) → seek t cs base cap 0 i ≡ Full
unfolding seek
probe_none t cs base cap i = refl

-- THE LOOP: r is what the whole lookup finds, x the slot's cell
module _ (t : ℕ → Bool) (cs : List ℕ) (base cap n i x : ℕ) (r : Found) where
  first : r ≡ seek t cs base cap n i → 0 < n → r ≡ seek t cs base cap (suc (n - 1)) i
  first inv some = let e : n ≡ suc (n - 1) = omega arith in inv ∙ ap (λ (m : ℕ). seek t cs base cap m i) e

  pub seek-vacant : r ≡ seek t cs base cap n i → 0 < n → x ≡ nth cs (base + i) → x ≡ 0 → Vacant i ≡ r
  seek-vacant inv some e h = sym (first inv some ∙ probe-vacant t cs base cap (n - 1) i (sym e ∙ h))

  pub seek_at : r ≡ seek t cs base cap n i → 0 < n → x ≡ nth cs (base + i) → (x ≡ 0 → ⊥) → t x ≡ true → At (number_in x) ≡ r
  seek_at inv some e h y =
      sym (first inv some ∙ probe_at t cs base cap (n - 1) i (λ z. h (e ∙ z)) (rw e at y) ∙ ap (λ (w : ℕ). At (number_in w)) (sym e))

  pub seek_next : r ≡ seek t cs base cap n i → 0 < n → x ≡ nth cs (base + i) → (x ≡ 0 → ⊥) → t x ≡ false → (m : ℕ) → m ≡ after cap i
      → r ≡ seek t cs base cap (n - 1) m
  seek_next inv some e h y m q =
      first inv some ∙ probe_next t cs base cap (n - 1) i (λ z. h (e ∙ z)) (rw e at y) ∙ ap (λ (k : ℕ). seek t cs base cap (n - 1) k) (sym q)

  pub seek_none : r ≡ seek t cs base cap n i → n ≤ 0 → Full ≡ r
  seek_none inv h =
      let z : n ≡ 0 = omega arith in
      sym (inv ∙ ap (λ (m : ℕ). seek t cs base cap m i) z ∙ probe_none t cs base cap i)

-- what is found stands in a slot, and passes the test
pub record Hit (t : ℕ → Bool) (cs : List ℕ) (base cap k : ℕ) : Type 0 where
  pub at : ℕ
  pub low : at < cap
  pub some : 0 < nth cs (base + at)
  pub is : number_in (nth cs (base + at)) ≡ k
  pub yes : t (nth cs (base + at)) ≡ true

module _ (t : ℕ → Bool) (cs : List ℕ) (base cap : ℕ) where
  pub seek_finds : (n i k : ℕ) → i < cap → seek t cs base cap n i ≡ At k → Hit t cs base cap k
  seek_finds zero i k h e = at_full k (sym e ∙ probe_none t cs base cap i)
  seek_finds (suc n) i k h e =
      cases t cs base cap n i
      (λ z. at_vacant k i (sym e ∙ probe-vacant t cs base cap n i z))
      (λ z y.
      record {
        at = i;
        low = h;
        some = omega arith;
        is = same_at (number_in (nth cs (base + i))) k (sym (probe_at t cs base cap n i z y) ∙ e);
        yes = y;
      })
      (λ z y. seek_finds n (after cap i) k (after_lt cap i h) (sym (probe_next t cs base cap n i z y) ∙ e))

  -- what is said to be vacant is
  pub seek_vacant_is : (n i j : ℕ) → i < cap → seek t cs base cap n i ≡ Vacant j → (j < cap) × (nth cs (base + j) ≡ 0)
  seek_vacant_is zero i j h e = vacant_full j (sym e ∙ probe_none t cs base cap i)
  seek_vacant_is (suc n) i j h e =
      cases t cs base cap n i
      (λ z. let q : i ≡ j = same-vacant i j (sym (probe-vacant t cs base cap n i z) ∙ e) in rw (← q) (h, z))
      (λ z y. at_vacant (number_in (nth cs (base + i))) j (sym (probe_at t cs base cap n i z y) ∙ e))
      (λ z y. seek_vacant_is n (after cap i) j (after_lt cap i h) (sym (probe_next t cs base cap n i z y) ∙ e))

  -- a lookup that has a vacant slot before it is not full
  seek_not_full : (v : ℕ) → v < cap → nth cs (base + v) ≡ 0 → (n i : ℕ) → i < cap → Ahead cap v n i → seek t cs base cap n i ≡ Full → ⊥
  seek_not_full v k z zero i h a e = ahead_none cap v i h a
  seek_not_full v k z (suc n) i h a e =
      cases t cs base cap n i
      (λ w. vacant_full i (sym (probe-vacant t cs base cap n i w) ∙ e))
      (λ w y. at_full (number_in (nth cs (base + i))) (sym (probe_at t cs base cap n i w y) ∙ e))
      (λ w y. seek_not_full v k z n (after cap i) (after_lt cap i h) (ahead_next cap v n i k h (λ q. w (rw q z)) a) (sym (probe_next t cs base cap n i w y) ∙ e))

  pub never_full : (v i : ℕ) → v < cap → nth cs (base + v) ≡ 0 → i < cap → seek t cs base cap cap i ≡ Full → ⊥
  never_full v i k z h = seek_not_full v k z cap i h (ahead_all cap v i k h)

-- a lookup asks the test only of slots that are not vacant
pub seek_test : (t t' : ℕ → Bool) (cs : List ℕ) (base cap : ℕ) → ((j : ℕ) → j < cap → 0 < nth cs (base + j) → t' (nth cs (base + j)) ≡ t (nth cs (base + j)))
    → (n i : ℕ) → i < cap → seek t' cs base cap n i ≡ seek t cs base cap n i
seek_test t t' cs base cap f zero i h = probe_none t' cs base cap i ∙ sym (probe_none t cs base cap i)
seek_test t t' cs base cap f (suc n) i h =
    cases t cs base cap n i
    (λ z. probe-vacant t' cs base cap n i z ∙ sym (probe-vacant t cs base cap n i z))
    (λ z y. probe_at t' cs base cap n i z (f i h (omega arith) ∙ y) ∙ sym (probe_at t cs base cap n i z y))
    (λ z y.
    probe_next t' cs base cap n i z (f i h (omega arith) ∙ y)
    ∙ seek_test t t' cs base cap f n (after cap i) (after_lt cap i h)
    ∙ sym (probe_next t cs base cap n i z y))

-- WHERE A VACANT SLOT v IS FILLED
module _ (t : ℕ → Bool) (cs ds : List ℕ) (base cap v : ℕ)
    (f : (j : ℕ) → j < cap → (j ≡ v → ⊥) → nth ds (base + j) ≡ nth cs (base + j)) where
  -- what was found before is found still
  pub seek_still : nth cs (base + v) ≡ 0 → (n i k : ℕ) → i < cap → seek t cs base cap n i ≡ At k → seek t ds base cap n i ≡ At k
  seek_still z zero i k h e = at_full k (sym e ∙ probe_none t cs base cap i)
  seek_still z (suc n) i k h e =
      cases t cs base cap n i
      (λ w. at_vacant k i (sym e ∙ probe-vacant t cs base cap n i w))
      (λ w y.
      let s = f i h (λ q. w (rw q z)) in
      probe_at t ds base cap n i (λ q. w (sym s ∙ q)) (ap t s ∙ y) ∙ ap (λ (x : ℕ). At (number_in x)) s ∙ sym (probe_at t cs base cap n i w y) ∙ e)
      (λ w y.
      let s = f i h (λ q. w (rw q z)) in
      probe_next t ds base cap n i (λ q. w (sym s ∙ q)) (ap t s ∙ y) ∙ seek_still z n (after cap i) k (after_lt cap i h) (sym (probe_next t cs base cap n i w y) ∙ e))

  -- and where the lookup found it vacant, what passes is found in it
  pub seek_new : (x k : ℕ) → nth ds (base + v) ≡ x → 0 < x → number_in x ≡ k → t x ≡ true → (n i : ℕ) → i < cap → seek t cs base cap n i ≡ Vacant v
      → seek t ds base cap n i ≡ At k
  seek_new x k d p q y zero i h e = vacant_full v (sym e ∙ probe_none t cs base cap i)
  seek_new x k d p q y (suc n) i h e =
      cases t cs base cap n i
      (λ w.
      let j : i ≡ v = same-vacant i v (sym (probe-vacant t cs base cap n i w) ∙ e) in
      let s : nth ds (base + i) ≡ x = rw j d in
      probe_at t ds base cap n i (λ z. omega arith) (ap t s ∙ y) ∙ ap (λ (m : ℕ). At (number_in m)) s ∙ ap At q)
      (λ w y'. at_vacant (number_in (nth cs (base + i))) v (sym (probe_at t cs base cap n i w y') ∙ e))
      (λ w y'.
      let s = f i h (λ j. w (rw j (seek_vacant_is t cs base cap (suc n) i v h e).1)) in
      probe_next t ds base cap n i (λ z. w (sym s ∙ z)) (ap t s ∙ y')
      ∙ seek_new x k d p q y n (after cap i) (after_lt cap i h) (sym (probe_next t cs base cap n i w y') ∙ e))
