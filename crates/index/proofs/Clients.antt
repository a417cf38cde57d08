-- The laws that a client goes by: an empty index, an index that is not touched, and how many inserts there is space for. Assumes nothing.
use mathlib.Core.Path.{◌≡◌, refl, sym, ap, ◌∙◌}
use mathlib.Core.List.{List}
use mathlib.Core.Logic.{◌⊎◌, inl, inr}
use Prim.Native.Nat.{ℕ, ◌+◌, ◌-◌, ◌*◌, ◌^◌, ◌<◌, ◌≤◌}
use native.Mathlib.Omega.{arith}
use lib.ListN.{length}
use Rattle.runs.specs.Parts.{nth, laid, zeros, Kept}
use Rattle.runs.proofs.Parts.{same_or_not, length-zeros, nth-zeros, length-laid, nth-laid}
use Rattle.cells.proofs.Rings.{blanks-same, blanks_all, blanks_lt}
use Rattle.index.specs.Index.{key_at, value_at, home, slot, value, vacant, idle, Index, Set, Empty, Inserted, SameIndex}
use Rattle.cells.specs.declared.Found.{Found}
use Rattle.cells.specs.declared.Found.TheVariants.{At, Vacant, Full}
use Rattle.index.proofs.Probes.{probe-same}
use Rattle.index.proofs.Slots.{key_cell, value_cell, home_lt, value_at_lem, value-vacant, value_full, value_none, slot_at, value-same}

-- AN EMPTY INDEX: cells of 0

pub index_empty : (base cap : ℕ) (cs : List ℕ) → base + 2 * cap ≤ length cs → length cs < 2 ^ 61 → 0 < cap → cap ≤ 4294967296
    → ((i : ℕ) → base ≤ i → i < base + 2 * cap → nth cs i ≡ 0) → Empty base cap cs
unfolding vacant idle
index_empty base cap cs room small some few f =
    record { ok = ok; values = values; spent = blanks_all cap (key_at base cs) key; busy = blanks_all cap (value_at base cs) val }
  where
    key : (j : ℕ) → j < cap → key_at base cs j ≡ 0
    key j h = key_cell base cs j ∙ f (base + 2 * j) (omega arith) (omega arith)

    val : (j : ℕ) → j < cap → value_at base cs j ≡ 0
    val j h = value_cell base cs j ∙ f (base + 2 * j + 1) (omega arith) (omega arith)

    ok : Index base cap cs
    ok =
        record {
          room = room;
          small = small;
          some = some;
          few = few;
          found = λ j h z. absurd (omega (arith, z, key j h));
          bare = λ j h z. val j h;
        }

    values : (q : ℕ) → value base cap cs q ≡ 0
    values q = value_none base cap q cs (λ j e. val j (slot_at base cap cs ok q j e).0)

-- as `clear_cells` leaves them
pub index-cleared : (base cap : ℕ) (was is : List ℕ) → base + 2 * cap ≤ length was → length was < 2 ^ 61 → 0 < cap → cap ≤ 4294967296
    → is ≡ laid was base (zeros (2 * cap)) → Empty base cap is
index-cleared base cap was is room small some few e =
    index_empty base cap is (omega (arith, room, long)) (omega (arith, small, long)) some few zero_at
  where
    many : length (zeros (2 * cap)) ≡ 2 * cap
    many = length-zeros (2 * cap)

    fits : base + length (zeros (2 * cap)) ≤ length was
    fits = rw many room

    long : length is ≡ length was
    long = ap length e ∙ length-laid was base (zeros (2 * cap)) fits

    zero_at : (i : ℕ) → base ≤ i → i < base + 2 * cap → nth is i ≡ 0
    zero_at i a b =
        let s : i ≡ base + (i - base) = omega arith in
        rw (e, s) (nth-laid was base (zeros (2 * cap)) fits (i - base) (omega (arith, many)) ∙ nth-zeros (2 * cap) (i - base))

-- AN INDEX THAT IS NOT TOUCHED

pub index-same : (base cap : ℕ) (was is : List ℕ) → Index base cap was → length is ≡ length was
    → ((i : ℕ) → base ≤ i → i < base + 2 * cap → nth is i ≡ nth was i) → SameIndex base cap was is
unfolding vacant idle slot
index-same base cap was is ix long f =
    record { ok = ok; values = values; spent = blanks-same cap (key_at base was) (key_at base is) key; busy = blanks-same cap (value_at base was) (value_at base is) val }
  where
    key : (j : ℕ) → j < cap → key_at base is j ≡ key_at base was j
    key j h = key_cell base is j ∙ f (base + 2 * j) (omega arith) (omega arith) ∙ sym (key_cell base was j)

    val : (j : ℕ) → j < cap → value_at base is j ≡ value_at base was j
    val j h = value_cell base is j ∙ f (base + 2 * j + 1) (omega arith) (omega arith) ∙ sym (value_cell base was j)

    same_slot : (q : ℕ) → slot base cap is q ≡ slot base cap was q
    same_slot q = probe-same (key_at base was) (key_at base is) cap q key cap (home cap q) (home_lt cap q ix.some)

    ok : Index base cap is
    ok =
        record {
          room = omega (arith, ix.room, long);
          small = omega (arith, ix.small, long);
          some = ix.some;
          few = ix.few;
          found = λ j h z. rw (key j h) (same_slot _ ∙ ix.found j h (rw (key j h) at z));
          bare = λ j h z. val j h ∙ ix.bare j h (sym (key j h) ∙ z);
        }

    values : (q : ℕ) → value base cap is q ≡ value base cap was q
    values q = value-same base cap was is ix ok q (λ j k e. sym (key j k) ∙ e) (λ j k e. key j k ∙ e) (λ j k e. val j k)

-- what changes lies outside of its cells
pub index-kept : (base cap lo hi : ℕ) (was is : List ℕ) → Index base cap was → Kept lo hi was is → (base + 2 * cap ≤ lo) ⊎ (hi ≤ base)
    → SameIndex base cap was is
index-kept base cap lo hi was is ix k o = index-same base cap was is ix k.long (λ i a b. k.same i (out i a b o))
  where
    out : (i : ℕ) → base ≤ i → i < base + 2 * cap → (base + 2 * cap ≤ lo) ⊎ (hi ≤ base) → (i < lo) ⊎ (hi ≤ i)
    out i a b (inl h) = inl (omega arith)
    out i a b (inr h) = inr (omega arith)

-- two outcomes that a contract allows have the same values
pub set_single : {base cap k v : ℕ} {was is-now is-too : List ℕ} → Set base cap k v was is-now → Set base cap k v was is-too
    → (q : ℕ) → value base cap is-now q ≡ value base cap is-too q
set_single {base} {cap} {k} {v} {was} {is-now} {is-too} p r q =
    same_or_not q k (λ e. rw e (p.here ∙ sym r.here)) (λ n. p.others q n ∙ sym (r.others q n))

-- HOW MANY INSERTS THERE IS SPACE FOR: after m of them at most m slots are taken. What is erased between them leaves its slot taken
module _ (base cap m : ℕ) (was is : List ℕ) where
  pub spent_start : Empty base cap was → cap ≤ vacant base cap was + 0
  spent_start e = omega (arith, e.spent)

  pub spent-insert : (k v : ℕ) → cap ≤ vacant base cap was + m → Inserted base cap k v was is → cap ≤ vacant base cap is + (m + 1)
  spent-insert k v h i = omega (arith, h, i.most)

  pub spent-same : cap ≤ vacant base cap was + m → SameIndex base cap was is → cap ≤ vacant base cap is + m
  spent-same h s = omega (arith, h, s.spent)

  pub spent_space : cap ≤ vacant base cap was + m → m < cap → 0 < vacant base cap was
  spent_space h l = omega arith

-- HOW MANY HAVE NO VALUE: not all, where a key has one
module _ (base cap : ℕ) (cs : List ℕ) (ix : Index base cap cs) where
  pub idle_lt : (k : ℕ) → 0 < value base cap cs k → idle base cap cs < cap
  unfolding idle
  idle_lt k p = go (slot base cap cs k) refl
    where
      go : (t : Found) → slot base cap cs k ≡ t → idle base cap cs < cap
      go (At j) e = blanks_lt cap (value_at base cs) j (slot_at base cap cs ix k j e).0 (rw (value_at_lem base cap k cs j e) at p)
      go (Vacant j) e = absurd (omega (arith, p, value-vacant base cap k cs j e))
      go Full e = absurd (omega (arith, p, value_full base cap k cs e))
