-- What one put does to an index: a value in the slot that has the key, a key in the vacant slot where it goes. Assumes nothing.
use mathlib.Core.Path.{◌≡◌, sym, ap, ◌∙◌}
use mathlib.Core.List.{List}
use Prim.Native.Nat.{ℕ, ◌+◌, ◌*◌, ◌<◌}
use native.Mathlib.Omega.{arith}
use lib.ListN.{length}
use Rattle.runs.specs.Parts.{put}
use Rattle.runs.proofs.Parts.{same_or_not, length-put, nth-put, nth-put_other}
use Rattle.runs.proofs.Frames.{kept-put}
use Rattle.cells.specs.Cells.{cells, Put}
use Rattle.cells.proofs.Rings.{blanks-same, blanks-less}
use Rattle.index.specs.Index.{key_at, value_at, home, slot, value, vacant, idle, Index, Set, AtSlot, NewSlot, PutValue, PutKey}
use Rattle.cells.specs.declared.Found.TheVariants.{At}
use Rattle.index.proofs.Probes.{probe-same, probe_still, probe_new}
use Rattle.index.proofs.Slots.{home_lt, value_at_lem, slot_at, slot-vacant, value_zero, value-same}

-- A VALUE: the slot j has the key k
module _ (base cap k j v : ℕ) (cs ds : List ℕ) (a : AtSlot base cap k j cs) (p : 0 < k) (d : ds ≡ put cs (base + 2 * j + 1) v) where
  has : key_at base cs j ≡ k
  has = (slot_at base cap cs a.ix k j a.is).1

  long : length ds ≡ length cs
  long = ap length d ∙ length-put cs (base + 2 * j + 1) v

  keys : (i : ℕ) → key_at base ds i ≡ key_at base cs i
  unfolding key_at
  keys i = rw d (nth-put_other cs (base + 2 * j + 1) v (base + 2 * i) (omega arith))

  here : value_at base ds j ≡ v
  unfolding value_at
  here = rw d (nth-put cs (base + 2 * j + 1) v (omega (arith, a.ix.room, a.low)))

  other : (i : ℕ) → (i ≡ j → ⊥) → value_at base ds i ≡ value_at base cs i
  unfolding value_at
  other i n = rw d (nth-put_other cs (base + 2 * j + 1) v (base + 2 * i + 1) (omega arith))

  slots : (q : ℕ) → slot base cap ds q ≡ slot base cap cs q
  unfolding slot
  slots q = probe-same (key_at base cs) (key_at base ds) cap q (λ i h. keys i) cap (home cap q) (home_lt cap q a.ix.some)

  bare : (i : ℕ) → i < cap → key_at base ds i ≡ 0 → value_at base ds i ≡ 0
  bare i h z =
      same_or_not i j
      (λ w. let z' : key_at base cs j ≡ 0 = rw w at (sym (keys i) ∙ z) in absurd (omega (arith, z', has)))
      (λ w. other i w ∙ a.ix.bare i h (sym (keys i) ∙ z))

  ok : Index base cap ds
  ok =
      record {
        room = omega (arith, a.ix.room, long);
        small = omega (arith, a.ix.small, long);
        some = a.ix.some;
        few = a.ix.few;
        found = λ i h z. rw (keys i) (slots _ ∙ a.ix.found i h (rw (keys i) at z));
        bare = bare;
      }

  set : Set base cap k v cs ds
  set =
      record {
        ok = ok;
        kept = rw d (kept-put base (base + 2 * cap) cs (base + 2 * j + 1) v (omega arith) (omega (arith, a.low)));
        here = value_at_lem base cap k ds j (slots k ∙ a.is) ∙ here;
        others = λ q n.
            value-same base cap cs ds a.ix ok q (λ i w z. sym (keys i) ∙ z) (λ i w z. keys i ∙ z)
            (λ i w z. other i (λ u. n (sym z ∙ ap (λ (t : ℕ). key_at base cs t) u ∙ has)));
      }

  was : value base cap cs k ≡ value_at base cs j
  was = value_at_lem base cap k cs j a.is

  pub value-put : PutValue base cap k v cs ds
  unfolding vacant idle
  value-put =
      record {
        set = set;
        spent = blanks-same cap (key_at base cs) (key_at base ds) (λ i h. keys i);
        busy = λ z h. blanks-less cap (value_at base cs) (value_at base ds) j a.low (sym was ∙ z) (rw here h) (λ i w n. other i n);
        freed = λ z h. sym (blanks-less cap (value_at base ds) (value_at base cs) j a.low (here ∙ h) (rw was at z) (λ i w n. sym (other i n)));
      }

-- A KEY: the slot j is vacant, and k goes there
module _ (base cap k j : ℕ) (cs ds : List ℕ) (a : NewSlot base cap k j cs) (d : ds ≡ put cs (base + 2 * j) k) where
  free : key_at base cs j ≡ 0
  free = (slot-vacant base cap cs a.ix k j a.is).1

  new_long : length ds ≡ length cs
  new_long = ap length d ∙ length-put cs (base + 2 * j) k

  new_here : key_at base ds j ≡ k
  unfolding key_at
  new_here = rw d (nth-put cs (base + 2 * j) k (omega (arith, a.ix.room, a.low)))

  new_other : (i : ℕ) → i < cap → (i ≡ j → ⊥) → key_at base ds i ≡ key_at base cs i
  unfolding key_at
  new_other i h n = rw d (nth-put_other cs (base + 2 * j) k (base + 2 * i) (omega arith))

  values : (i : ℕ) → value_at base ds i ≡ value_at base cs i
  unfolding value_at
  values i = rw d (nth-put_other cs (base + 2 * j) k (base + 2 * i + 1) (omega arith))

  new_slot : slot base cap ds k ≡ At j
  unfolding slot
  new_slot = probe_new (key_at base cs) (key_at base ds) cap k j new_other new_here cap (home cap k) (home_lt cap k a.ix.some) a.is

  still : (q i : ℕ) → 0 < q → slot base cap cs q ≡ At i → slot base cap ds q ≡ At i
  unfolding slot
  still q i h w = probe_still (key_at base cs) (key_at base ds) cap q j new_other h free cap (home cap q) i (home_lt cap q a.ix.some) w

  new_ok : Index base cap ds
  new_ok =
      record {
        room = omega (arith, a.ix.room, new_long);
        small = omega (arith, a.ix.small, new_long);
        some = a.ix.some;
        few = a.ix.few;
        found = λ i h z.
            same_or_not i j
            (λ w. rw (w, new_here) new_slot)
            (λ w. rw (new_other i h w) (still _ i (rw (new_other i h w) at z) (a.ix.found i h (rw (new_other i h w) at z))));
        bare = λ i h z.
            same_or_not i j
            (λ w. let z' : key_at base ds j ≡ 0 = rw w at z in absurd (omega (arith, z', new_here, a.pos)))
            (λ w. values i ∙ a.ix.bare i h (sym (new_other i h w) ∙ z));
      }

  new_set : Set base cap k 0 cs ds
  new_set =
      record {
        ok = new_ok;
        kept = rw d (kept-put base (base + 2 * cap) cs (base + 2 * j) k (omega arith) (omega (arith, a.low)));
        here = value_at_lem base cap k ds j new_slot ∙ values j ∙ a.ix.bare j a.low free;
        others = others;
      }
    where
      others : (q : ℕ) → (q ≡ k → ⊥) → value base cap ds q ≡ value base cap cs q
      others q n =
          same_or_not q 0
          (λ z. rw z (value_zero base cap ds new_ok ∙ sym (value_zero base cap cs a.ix)))
          (λ z.
          value-same base cap cs ds a.ix new_ok q
          (λ i w e. same_or_not i j (λ u. absurd (n (sym e ∙ ap (λ (t : ℕ). key_at base ds t) u ∙ new_here))) (λ u. sym (new_other i w u) ∙ e))
          (λ i w e. same_or_not i j (λ u. let y : key_at base cs j ≡ q = rw u at e in absurd (z (sym y ∙ free))) (λ u. new_other i w u ∙ e))
          (λ i w e. values i))

  pub key-put : PutKey base cap k j cs ds
  unfolding vacant idle
  key-put =
      record {
        at = record { ix = new_ok; is = new_slot; low = a.low };
        set = new_set;
        spent = blanks-less cap (key_at base cs) (key_at base ds) j a.low free (rw new_here a.pos) new_other;
        busy = blanks-same cap (value_at base cs) (value_at base ds) (λ i h. values i);
      }

-- as the functions do it
module _ (base cap k j : ℕ) (xs ys : List ℕ) where
  pub did_put-value : (v : ℕ) → AtSlot base cap k j (cells xs) → 0 < k → Put xs ys (base + 2 * j + 1) v → PutValue base cap k v (cells xs) (cells ys)
  did_put-value v a p d = value-put base cap k j v (cells xs) (cells ys) a p d.is

  pub did_put-key : NewSlot base cap k j (cells xs) → Put xs ys (base + 2 * j) k → PutKey base cap k j (cells xs) (cells ys)
  did_put-key a d = key-put base cap k j (cells xs) (cells ys) a d.is
