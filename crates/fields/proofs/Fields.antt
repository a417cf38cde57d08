-- The count and the marks of a pair, read and put. Assumes nothing.
use mathlib.Core.Path.{◌≡◌, sym, ap, ◌∙◌}
use mathlib.Core.List.{List}
use mathlib.Core.Logic.{◌⊎◌, inl, inr}
use Prim.Native.Nat.{ℕ, ◌+◌, ◌%◌, ◌<◌, ◌≤◌}
use native.Mathlib.Omega.{arith}
use Rattle.runs.proofs.Frames.{kept_wide}
use Rattle.index.specs.Index.{SameIndex}
use Rattle.index.proofs.Clients.{index-kept}
use Rattle.records.specs.Records.{field, taken, free, Live, CanPut, FieldPut, Within}
use Rattle.records.proofs.Laws.{field_low}
use Rattle.states.specs.State.{State}
use Rattle.pairs.specs.View.{arena_at, lists_at, behind, record_of, key_in, many, place, capacity, words_of, record_state, state, top, made, spent}
use Rattle.pairs.specs.Pairs.{Run, Long, Pairing, Has, Updated}
use Rattle.pairs.specs.declared.Pairs.{Pairs}
use Rattle.pairs.proofs.Moves.{Moved, state_has, long_fits, words-same, credit-same, moved_state, moved_spent, moved_ok}

-- a field of a live record can be read
pub can_get : (p : Pairs) (r f : ℕ) (cs : List ℕ) → Pairing p cs → 0 < key_in p cs r → f < 8 → Within (arena_at p) p.most r f cs
can_get p r f cs ok h b = record { room = ok.ar.room; small = ok.ar.small; low = field_low (arena_at p) cs r 0 h; most = ok.ar.low; few = b }

module _ (p : Pairs) (k r : ℕ) (cs : List ℕ) (h : Has p k r cs) where
  pub has_key : key_in p cs r ≡ k
  has_key = (h.ok.tied k r h.pos h.at).key

  pub has_state : state p cs k ≡ record_state p cs r
  has_state = state_has p cs k r h.at

  pub has_live : 0 < key_in p cs r
  has_live = rw has_key h.pos

  pub has_record : Live (arena_at p) p.most r cs
  has_record = record { ar = h.ok.ar; low = h.low; live = has_live }

  pub has_get : (f : ℕ) → f < 8 → Within (arena_at p) p.most r f cs
  has_get f b = can_get p r f cs h.ok has_live b

  pub can_put : (f : ℕ) → 0 < f → f < 8 → CanPut (arena_at p) p.most r f cs
  can_put f a b = record { at = has_record; some = a; few = b }

  pub count_is : (v : ℕ) → v ≡ field (arena_at p) cs r 1 → v ≡ (state p cs k).count
  unfolding record_state
  count_is v e = e ∙ ap (λ (s : State). s.count) (sym has_state)

  pub marks_is : (v : ℕ) → v ≡ field (arena_at p) cs r 2 → v % 256 ≡ (state p cs k).marks
  unfolding record_state
  marks_is v e = rw e (ap (λ (s : State). s.marks) (sym has_state))

  -- A PUT in one of the fields 1 and 2 leaves the list
  module _ (f v : ℕ) (ds : List ℕ) (x : FieldPut (arena_at p) p.most r f v cs ds) (some : 0 < f) (few : f < 3) where
    put_index : SameIndex p.base p.cap cs ds
    put_index = index-kept p.base p.cap _ _ cs ds h.ok.ix x.only.kept (inl (omega arith))

    put_taken : taken (arena_at p) ds ≡ taken (arena_at p) cs
    unfolding taken
    put_taken = x.head (arena_at p) (omega arith)

    put_free : free (arena_at p) ds ≡ free (arena_at p) cs
    unfolding free
    put_free = x.head (arena_at p + 2) (omega arith)

    put_top : top p ds ≡ top p cs
    unfolding top
    put_top = x.only.kept.same (lists_at p) (inr (omega arith))

    put_made : made p ds ≡ made p cs
    unfolding made
    put_made = x.only.kept.same (lists_at p + 1) (inr (omega arith))

    put_moved : Moved p k r cs ds
    put_moved =
        record {
          records = λ q w n. put_index.values q;
          fields = λ s g w b n. x.only.others s g b n;
          lists = λ s j n l b. x.only.kept.same _ (inr (omega arith));
          owner = λ q w e. sym (h.ok.tied q r w e).key ∙ has_key;
          long = x.only.kept.long;
        }

    put_key : key_in p ds r ≡ key_in p cs r
    put_key = x.rest 0 (omega arith) (omega arith)

    put_many : many p ds r ≡ many p cs r
    put_many = x.rest 3 (omega arith) (omega arith)

    put_place : place p ds r ≡ place p cs r
    put_place = x.rest 4 (omega arith) (omega arith)

    put_capacity : capacity p ds r ≡ capacity p cs r
    put_capacity = x.rest 5 (omega arith) (omega arith)

    put_spent : spent p ds ≡ spent p cs
    put_spent = omega (arith, moved_spent p k r cs ds h.ok put_moved h.low, put_top, credit-same p cs ds r put_key put_many put_capacity)

    put_long : Long p ds r → Long p cs r
    put_long l = record { low = l.low; live = rw put_key at l.live; long = rw put_many at l.long }

    put_words : words_of p ds r ≡ words_of p cs r
    put_words =
        words-same p cs ds r x.only.kept.long h.ok.room h.low (λ g a b. x.rest g b (omega arith))
        (λ m. long_fits p cs r h.ok (long m)) (λ m j a. x.only.kept.same _ (inr (omega arith)))
      where
        long : 4 < many p cs r → Long p cs r
        long m = record { low = h.low; live = has_live; long = m }

    put_run : Long p ds r → Run p ds r
    put_run l =
        let u = h.ok.runs r (put_long l) in
        record { fits = omega (arith, u.fits, put_many, put_capacity); below = omega (arith, u.below, put_place, put_capacity, put_top) }

    put_apart : (s : ℕ) → (s ≡ r → ⊥) → Long p ds r → Long p cs s
        → (place p ds r + capacity p ds r ≤ place p cs s) ⊎ (place p cs s + capacity p cs s ≤ place p ds r)
    put_apart s n a b = rw (put_place, put_capacity) (h.ok.apart r s (λ w. n (sym w)) (put_long a) b)

    put_at : record_of p ds k ≡ r + 1
    put_at = put_index.values k ∙ h.at

    put_ok : Pairing p ds
    put_ok =
        moved_ok p k r cs ds h.ok put_moved put_index.ok x.live.ar
        (λ _ t w.
        let q : t ≡ r = omega (arith, w, put_at) in
        rw q (record { low = h.low; key = put_key ∙ has_key }))
        (omega (arith, h.ok.even, put_index.busy, put_taken, put_free)) (omega (arith, h.ok.few, put_taken, put_made))
        (omega (arith, h.ok.slots, put_index.spent, put_made)) (omega (arith, h.ok.cells, put_spent, put_made))
        (omega (arith, h.ok.bound, put_made)) (omega (arith, put_top)) put_run put_apart

    put_done : (s : State) → record_state p ds r ≡ s → Updated p k r s cs ds
    put_done s e =
        record {
          has = record { ok = put_ok; pos = h.pos; at = put_at; low = h.low };
          change = record { here = state_has p ds k r put_at ∙ e; others = moved_state p k r cs ds h.ok put_moved };
          records = λ q w. put_index.values q;
          kept = kept_wide p.base (behind p) (omega arith) (omega arith) x.only.kept;
          same = put_made;
          less = omega (arith, put_spent);
        }

  pub count-put : (v : ℕ) (ds : List ℕ) → FieldPut (arena_at p) p.most r 1 v cs ds
      → Updated p k r (record { count = v; marks = (state p cs k).marks; words = (state p cs k).words }) cs ds
  unfolding record_state
  count-put v ds x =
      put_done 1 v ds x (omega arith) (omega arith) _ (rw (x.here, x.rest 2 (omega arith) (omega arith), put_words 1 v ds x (omega arith) (omega arith), has_state))

  pub marks_put : (v : ℕ) (ds : List ℕ) → v < 256 → FieldPut (arena_at p) p.most r 2 v cs ds
      → Updated p k r (record { count = (state p cs k).count; marks = v; words = (state p cs k).words }) cs ds
  unfolding record_state
  marks_put v ds b x =
      let m : v % 256 ≡ v = omega arith in
      put_done 2 v ds x (omega arith) (omega arith) _
      (rw (x.here, m, x.rest 1 (omega arith) (omega arith), put_words 2 v ds x (omega arith) (omega arith), has_state))
