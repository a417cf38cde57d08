-- The laws of `home`, `slot` and `value`, and of the loop that looks a key up. Assumes nothing.
use mathlib.Core.Path.{◌≡◌, refl, sym, ap, ◌∙◌}
use mathlib.Core.List.{List}
use Prim.Native.Nat.{ℕ, suc, ◌+◌, ◌-◌, ◌*◌, ◌/◌, ◌%◌, ◌^◌, ◌<◌, ◌≤◌}
use native.Mathlib.Omega.{arith}
use borrow.Author.Tests.{lt-ltb, le-ltb}
use native.Mathlib.Nat.{mul-le-mul, mul-lt-mul_of_pos_right}
use Rattle.runs.specs.Parts.{nth}
use Rattle.runs.proofs.Parts.{same_or_not, below_or_not}
use Rattle.cells.specs.Ring.{after}
use Rattle.cells.proofs.Rings.{blanks_some}
use Rattle.index.specs.Probe.{probe}
use Rattle.index.specs.Index.{key_at, value_at, mix, row, home, slot, value_of, value, vacant, Index}
use Rattle.cells.specs.declared.Found.{Found}
use Rattle.cells.specs.declared.Found.TheVariants.{At, Vacant, Full}
use Rattle.index.proofs.Probes.{probe_at, probe-vacant, probe_next, probe_none, probe_finds, probe_finds_vacant, never_full}

-- WHERE A SLOT STANDS

pub key_cell : (base : ℕ) (cs : List ℕ) (j : ℕ) → key_at base cs j ≡ nth cs (base + 2 * j)
unfolding key_at
key_cell base cs j = refl

pub value_cell : (base : ℕ) (cs : List ℕ) (j : ℕ) → value_at base cs j ≡ nth cs (base + 2 * j + 1)
unfolding value_at
value_cell base cs j = refl

-- WHERE A SEARCH STARTS

pub mix_lt : (k : ℕ) → mix k < 4294967296
unfolding mix
mix_lt k = omega arith

row_lt : (cap k : ℕ) → 0 < cap → row cap k < cap
unfolding row
row_lt cap k h = let l : mix k * cap < 4294967296 * cap = mul-lt-mul_of_pos_right (mix_lt k) h in omega arith

home_beside : (cap k : ℕ) → row cap k + k % 64 < cap → home cap k ≡ row cap k + k % 64
unfolding home
home_beside cap k h = rw (lt-ltb (row cap k + k % 64) cap h)

home-row : (cap k : ℕ) → cap ≤ row cap k + k % 64 → home cap k ≡ row cap k
unfolding home
home-row cap k h = rw (le-ltb (row cap k + k % 64) cap h)

pub home_lt : (cap k : ℕ) → 0 < cap → home cap k < cap
home_lt cap k h = below_or_not (row cap k + k % 64) cap (λ l. rw (home_beside cap k l) l) (λ l. rw (home-row cap k l) (row_lt cap k h))

-- the product fits
pub start_fits : (cap h : ℕ) → h < 4294967296 → cap ≤ 4294967296 → h * cap < 2 ^ 64
start_fits cap h a b = let l : h * cap ≤ 4294967295 * 4294967296 = mul-le-mul {n₁ = h} {m₁ = cap} {n₂ = 4294967295} {m₂ = 4294967296} (omega arith) b in omega arith

module _ (cap k h : ℕ) (e : h ≡ mix k) where
  row_is : h * cap / 4294967296 ≡ row cap k
  unfolding row
  row_is = rw e

  pub row_small : 0 < cap → h * cap / 4294967296 < cap
  row_small p = rw row_is (row_lt cap k p)

  pub start_beside : h * cap / 4294967296 + k % 64 < cap → (h * cap / 4294967296 + k % 64 ≡ home cap k) × (h * cap / 4294967296 + k % 64 < cap)
  start_beside l = (rw row_is (sym (home_beside cap k (rw row_is at l))), l)

  pub start_row : 0 < cap → cap ≤ h * cap / 4294967296 + k % 64 → (h * cap / 4294967296 ≡ home cap k) × (h * cap / 4294967296 < cap)
  start_row p l = (rw row_is (sym (home-row cap k (rw row_is at l))), row_small p)

-- THE LOOP: r is what the whole lookup finds, x the key in the slot i

pub find_start : (base cap k s : ℕ) (cs : List ℕ) → s ≡ home cap k → slot base cap cs k ≡ probe (key_at base cs) cap k cap s
unfolding slot
find_start base cap k s cs e = rw e

module _ (base cap k n i x : ℕ) (cs : List ℕ) (r : Found) where
  first : r ≡ probe (key_at base cs) cap k n i → 0 < n → r ≡ probe (key_at base cs) cap k (suc (n - 1)) i
  first inv some = let e : n ≡ suc (n - 1) = omega arith in inv ∙ ap (λ (m : ℕ). probe (key_at base cs) cap k m i) e

  key_is : x ≡ nth cs (base + 2 * i) → x ≡ key_at base cs i
  key_is e = e ∙ sym (key_cell base cs i)

  pub find_at : r ≡ probe (key_at base cs) cap k n i → 0 < n → x ≡ nth cs (base + 2 * i) → x ≡ k → At i ≡ r
  find_at inv some e h = sym (first inv some ∙ probe_at (key_at base cs) cap k (n - 1) i (sym (key_is e) ∙ h))

  pub find_vacant : r ≡ probe (key_at base cs) cap k n i → 0 < n → x ≡ nth cs (base + 2 * i) → (x ≡ k → ⊥) → x ≡ 0 → Vacant i ≡ r
  find_vacant inv some e o h =
      sym (first inv some ∙ probe-vacant (key_at base cs) cap k (n - 1) i (λ q. o (key_is e ∙ q)) (sym (key_is e) ∙ h))

  pub find_next : r ≡ probe (key_at base cs) cap k n i → 0 < n → x ≡ nth cs (base + 2 * i) → (x ≡ k → ⊥) → (x ≡ 0 → ⊥)
      → (m l : ℕ) → m ≡ after cap i → l ≡ n - 1 → r ≡ probe (key_at base cs) cap k l m
  find_next inv some e o h m l q f =
      rw f (first inv some
      ∙ probe_next (key_at base cs) cap k (n - 1) i (λ z. o (key_is e ∙ z)) (λ z. h (key_is e ∙ z))
      ∙ ap (λ (j : ℕ). probe (key_at base cs) cap k (n - 1) j) (sym q))

  pub find_none : r ≡ probe (key_at base cs) cap k n i → n ≤ 0 → Full ≡ r
  find_none inv h =
      let z : n ≡ 0 = omega arith in
      sym (inv ∙ ap (λ (m : ℕ). probe (key_at base cs) cap k m i) z ∙ probe_none (key_at base cs) cap k i)

-- THE VALUE, by where the key is
module _ (base cap k : ℕ) (cs : List ℕ) where
  pub value_at_lem : (j : ℕ) → slot base cap cs k ≡ At j → value base cap cs k ≡ value_at base cs j
  unfolding value value_of
  value_at_lem j e = rw e

  pub value-vacant : (j : ℕ) → slot base cap cs k ≡ Vacant j → value base cap cs k ≡ 0
  unfolding value value_of
  value-vacant j e = rw e

  pub value_full : slot base cap cs k ≡ Full → value base cap cs k ≡ 0
  unfolding value value_of
  value_full e = rw e

-- where no slot has the key with a value, it has none
pub value_none : (base cap k : ℕ) (cs : List ℕ) → ((j : ℕ) → slot base cap cs k ≡ At j → value_at base cs j ≡ 0) → value base cap cs k ≡ 0
value_none base cap k cs f = go (slot base cap cs k) refl
  where
    go : (t : Found) → slot base cap cs k ≡ t → value base cap cs k ≡ 0
    go (At j) e = value_at_lem base cap k cs j e ∙ f j e
    go (Vacant j) e = value-vacant base cap k cs j e
    go Full e = value_full base cap k cs e

module _ (base cap : ℕ) (cs : List ℕ) (ix : Index base cap cs) where
  pub slot_at : (k j : ℕ) → slot base cap cs k ≡ At j → (j < cap) × (key_at base cs j ≡ k)
  unfolding slot
  slot_at k j e = probe_finds (key_at base cs) cap k cap (home cap k) j (home_lt cap k ix.some) e

  pub slot-vacant : (k j : ℕ) → slot base cap cs k ≡ Vacant j → (j < cap) × (key_at base cs j ≡ 0)
  unfolding slot
  slot-vacant k j e = probe_finds_vacant (key_at base cs) cap k cap (home cap k) j (home_lt cap k ix.some) e

  pub slot_not_full : (k : ℕ) → 0 < vacant base cap cs → slot base cap cs k ≡ Full → ⊥
  unfolding slot vacant
  slot_not_full k v = let b = blanks_some cap (key_at base cs) v in never_full (key_at base cs) cap k b.at (home cap k) b.low b.is (home_lt cap k ix.some)

  -- a key that stands in a slot is found there
  pub slot_of : (k j : ℕ) → 0 < k → j < cap → key_at base cs j ≡ k → slot base cap cs k ≡ At j
  slot_of k j p h e = rw e at (ix.found j h (rw e p))

  -- 0, which is no key, has no value
  pub value_zero : value base cap cs 0 ≡ 0
  value_zero = value_none base cap 0 cs (λ j e. let w = slot_at 0 j e in ix.bare j w.0 w.1)

-- the value of q is the same where the slots that have q are the same, with their values
pub value-same : (base cap : ℕ) (cs ds : List ℕ) → Index base cap cs → Index base cap ds → (q : ℕ)
    → ((j : ℕ) → j < cap → key_at base ds j ≡ q → key_at base cs j ≡ q)
    → ((j : ℕ) → j < cap → key_at base cs j ≡ q → key_at base ds j ≡ q)
    → ((j : ℕ) → j < cap → key_at base cs j ≡ q → value_at base ds j ≡ value_at base cs j)
    → value base cap ds q ≡ value base cap cs q
value-same base cap cs ds a b q f g v =
    same_or_not q 0
    (λ z. rw z (value_zero base cap ds b ∙ sym (value_zero base cap cs a)))
    (λ z. go (omega arith) (slot base cap ds q) (slot base cap cs q) refl refl)
  where
    Same : Type 0
    Same = value base cap ds q ≡ value base cap cs q

    is_at : 0 < q → (j : ℕ) → slot base cap ds q ≡ At j → Same
    is_at p j e =
        let w = slot_at base cap ds b q j e in
        let w' : key_at base cs j ≡ q = f j w.0 w.1 in
        value_at_lem base cap q ds j e ∙ v j w.0 w' ∙ sym (value_at_lem base cap q cs j (slot_of base cap cs a q j p w.0 w'))

    was_at : 0 < q → (j : ℕ) → slot base cap cs q ≡ At j → Same
    was_at p j e = let w = slot_at base cap cs a q j e in is_at p j (slot_of base cap ds b q j p w.0 (g j w.0 w.1))

    go : 0 < q → (s t : Found) → slot base cap ds q ≡ s → slot base cap cs q ≡ t → Same
    go p (At j) t d e = is_at p j d
    go p (Vacant i) (At j) d e = was_at p j e
    go p Full (At j) d e = was_at p j e
    go p (Vacant i) (Vacant j) d e = value-vacant base cap q ds i d ∙ sym (value-vacant base cap q cs j e)
    go p (Vacant i) Full d e = value-vacant base cap q ds i d ∙ sym (value_full base cap q cs e)
    go p Full (Vacant j) d e = value_full base cap q ds d ∙ sym (value-vacant base cap q cs j e)
    go p Full Full d e = value_full base cap q ds d ∙ sym (value_full base cap q cs e)
