-- A word more in a list: the invariant holds again, and no other state has changed. Assumes nothing.
use mathlib.Core.Path.{◌≡◌, refl, sym, ap, ◌∙◌}
use mathlib.Core.Bool.{Bool, true, false}
use mathlib.Core.List.{List, [], ◌∷◌, ◌++◌}
use mathlib.Core.Logic.{◌⊎◌, inl, inr}
use Prim.Native.Nat.{ℕ, ◌+◌, ◌*◌, ◌<◌, ◌≤◌}
use native.Mathlib.Omega.{arith}
use borrow.Author.Tests.{lt-ltb, le-ltb}
use lib.ListN.{length}
use Rattle.runs.specs.Parts.{nth, put, Kept}
use Rattle.runs.proofs.Parts.{nth-put, nth-put_other, part-more, part_ext}
use Rattle.runs.proofs.Frames.{kept_none, kept-put, kept_wide}
use Rattle.index.specs.Index.{SameIndex}
use Rattle.index.proofs.Clients.{index-kept}
use Rattle.records.specs.Records.{field, taken, free, CanPut, FieldPut}
use Rattle.states.specs.State.{last_is, noted}
use Rattle.pairs.specs.View.{arena_at, lists_at, data_at, behind, record_of, many, place, capacity, words_of, record_state, state, top, credit, spent}
use Rattle.pairs.specs.Pairs.{Tied, Run, Long, Has}
use Rattle.pairs.specs.declared.Pairs.{Pairs}
use Rattle.pairs.proofs.Moves.{Moved, state_has, moved_state, moved_spent, moved_ok}
use Rattle.notes.specs.Notes.{with_note, with_more, CanNote, Noted, AddShort, AddLong, Still, Ready}
use Rattle.fields.proofs.Fields.{has_key, has_live, has_state}
use Rattle.lists.proofs.Reading.{near_cell, words-short}
use Rattle.notes.proofs.Credits.{credit-short, credit_long}
use Rattle.notes.proofs.Steps.{top_cell, still_then, field_past, field_still, beyond-field, beyond-live, beyond_still}

-- A LIST CHANGED, from what is left to say of it
module _ (p : Pairs) (k r : ℕ) (was is : List ℕ) (c : CanNote p k r was) (t : Still p r was is) (grown : top p was ≤ top p is)
    (lists : (s j : ℕ) → (s ≡ r → ⊥) → Long p was s → j < many p was s → nth is (data_at p + place p was s + j) ≡ nth was (data_at p + place p was s + j))
    (run : Long p is r → Run p is r)
    (away : (s : ℕ) → (s ≡ r → ⊥) → Long p is r → Long p was s
    → (place p is r + capacity p is r ≤ place p was s) ⊎ (place p was s + capacity p was s ≤ place p is r))
    (cost : top p is + credit p is r ≤ top p was + credit p was r + 4) where
  index : SameIndex p.base p.cap was is
  index = index-kept p.base p.cap (arena_at p + 3) (behind p) was is c.has.ok.ix t.kept (inl (omega arith))

  moved : Moved p k r was is
  moved =
      record {
        records = λ q a n. index.values q;
        fields = t.others;
        lists = lists;
        owner = λ q a e. sym (c.has.ok.tied q r a e).key ∙ has_key p k r was c.has;
        long = t.kept.long;
      }

  taken-same : taken (arena_at p) is ≡ taken (arena_at p) was
  unfolding taken
  taken-same = t.kept.same (arena_at p) (inl (omega arith))

  free-same : free (arena_at p) is ≡ free (arena_at p) was
  unfolding free
  free-same = t.kept.same (arena_at p + 2) (inl (omega arith))

  spent_most : spent p is ≤ spent p was + 4
  spent_most = omega (arith, moved_spent p k r was is c.has.ok moved c.has.low, cost)

  tied : (s : ℕ) → record_of p is k ≡ s + 1 → Tied p k s is
  tied s e =
      let i : s ≡ r = omega (arith, e, index.values k, c.has.at) in
      rw i (record { low = c.has.low; key = t.mine 0 (omega arith) ∙ has_key p k r was c.has })

  has_anew : Has p k r is
  has_anew =
      let o = c.has.ok in
      record {
        ok = moved_ok p k r was is o moved index.ok t.live.ar (λ _ s e. tied s e)
            (omega (arith, o.even, index.busy, taken-same, free-same))
            (omega (arith, o.few, taken-same, t.same))
            (omega (arith, o.slots, index.spent, t.same))
            (omega (arith, spent_most, c.space, t.same))
            (omega (arith, o.bound, t.same)) grown run away;
        pos = c.has.pos;
        at = index.values k ∙ c.has.at;
        low = c.has.low;
      }

  state_anew : (ws : List ℕ) → words_of p is r ≡ ws → state p is k ≡ record { count = (state p was k).count; marks = (state p was k).marks; words = ws }
  unfolding record_state
  state_anew ws e =
      state_has p is k r has_anew.at ∙ rw (t.mine 1 (omega arith), t.mine 2 (omega arith), e, has_state p k r was c.has) refl

  pub noted_anew : (ws : List ℕ) → words_of p is r ≡ ws
      → Noted p k r (record { count = (state p was k).count; marks = (state p was k).marks; words = ws }) was is
  noted_anew ws e =
      record {
        has = has_anew;
        change = record { here = state_anew ws e; others = λ q a n. moved_state p k r was is c.has.ok moved q a n };
        records = λ q a. index.values q;
        kept = kept_wide p.base (behind p) (omega arith) (omega arith) t.kept;
        same = t.same;
        most = spent_most;
      }

-- IN THE RECORD
module _ (p : Pairs) (k r n w : ℕ) (cs ds es : List ℕ) (a : AddShort p k r n cs)
    (x : FieldPut (arena_at p) p.most r (4 + n) w cs ds) (y : FieldPut (arena_at p) p.most r 3 (n + 1) ds es) where
  short_still : Still p r cs es
  short_still = still_then (field_still p r (4 + n) w cs ds x (omega arith)) (field_still p r 3 (n + 1) ds es y (omega arith))

  short_past : (j : ℕ) → lists_at p ≤ j → nth es j ≡ nth cs j
  short_past j h = field_past p r 3 (n + 1) ds es y j h ∙ field_past p r (4 + n) w cs ds x j h

  short_top : top p es ≡ top p cs
  short_top = top_cell p es ∙ short_past (lists_at p) (omega arith) ∙ sym (top_cell p cs)

  short_near : (j : ℕ) → j < n → nth es (arena_at p + 3 + r * 8 + 4 + j) ≡ nth cs (arena_at p + 3 + r * 8 + 4 + j)
  short_near j h =
      let f = a.few in
      near_cell p r es y.live.live j
      ∙ y.rest (4 + j) (omega arith) (omega arith)
      ∙ x.rest (4 + j) (omega arith) (omega arith)
      ∙ sym (near_cell p r cs (has_live p k r cs a.can.has) j)

  short_last : nth es (arena_at p + 3 + r * 8 + 4 + n) ≡ w
  short_last = let f = a.few in near_cell p r es y.live.live n ∙ y.rest (4 + n) (omega arith) (omega arith) ∙ x.here

  short_words : words_of p es r ≡ (state p cs k).words ++ (w ∷ [])
  unfolding words_of
  short_words =
      let f = a.few in
      let h = a.can.has in
      let l = short_still.kept.long in
      rw (y.here, le-ltb 4 (n + 1) (omega arith))
      (part-more (arena_at p + 3 + r * 8 + 4) n es (omega (arith, h.low, h.ok.room, l))
      ∙ rw (
        short_last,
        words-short p k r cs h (omega (arith, a.many_is)),
        ← a.many_is,
        part_ext (arena_at p + 3 + r * 8 + 4) n es cs (omega (arith, h.low, h.ok.room, l)) l short_near,
      ) refl)

  short_cost : top p es + credit p es r ≤ top p cs + credit p cs r + 4
  short_cost =
      let f = a.few in
      omega (
        arith,
        short_top,
        y.here,
        a.many_is,
        credit-short p cs r (has_live p k r cs a.can.has) (omega (arith, a.many_is)),
        credit-short p es r y.live.live (omega (arith, y.here)),
      )

  pub added_short : Noted p k r (with_more w (state p cs k)) cs es
  added_short =
      let f = a.few in
      noted_anew p k r cs es a.can short_still (omega (arith, short_top)) (λ s j n l b. short_past _ (omega arith))
      (λ l. absurd (omega (arith, l.long, y.here))) (λ s n l m. absurd (omega (arith, l.long, y.here))) short_cost _ short_words

-- IN A RUN
module _ (p : Pairs) (k r n w at : ℕ) (cs ds es : List ℕ) (a : AddLong p k r n cs) (v : Ready p k r n cs ds) (ea : at ≡ field (arena_at p) ds r 4)
    (x : es ≡ put ds (data_at p + at + n) w) where
  long_in : data_at p + at + n < behind p
  long_in = omega (arith, ea, v.space, v.below, v.bound)

  long_kept : Kept (data_at p + at + n) (data_at p + at + n + 1) ds es
  long_kept = rw x (kept-put _ _ ds (data_at p + at + n) w (omega arith) (omega arith))

  pub can_number : CanPut (arena_at p) p.most r 3 es
  can_number =
      record { at = beyond-live p r _ _ ds es v.still.live long_kept (omega arith); some = omega arith; few = omega arith }

  module _ (fs : List ℕ) (y : FieldPut (arena_at p) p.most r 3 (n + 1) es fs) where
    long_still : Still p r cs fs
    long_still =
        still_then v.still
        (still_then (beyond_still p r _ _ ds es v.still.live long_kept (omega arith) (omega (arith, long_in)) (inl (omega arith)))
        (field_still p r 3 (n + 1) es fs y (omega arith)))

    -- every cell of the lists but the one of the word
    long_past : (j : ℕ) → lists_at p ≤ j → (j ≡ data_at p + at + n → ⊥) → nth fs j ≡ nth ds j
    long_past j h o = field_past p r 3 (n + 1) es fs y j h ∙ ap (λ (l : List ℕ). nth l j) x ∙ nth-put_other ds (data_at p + at + n) w j o

    long_top : top p fs ≡ top p ds
    long_top = top_cell p fs ∙ long_past (lists_at p) (omega arith) (omega arith) ∙ sym (top_cell p ds)

    long_field : (g : ℕ) → g < 8 → (g ≡ 3 → ⊥) → field (arena_at p) fs r g ≡ field (arena_at p) ds r g
    long_field g b o = y.rest g b o ∙ beyond-field p r _ _ ds es v.still.live long_kept (omega arith) g b

    long_place : place p fs r ≡ at
    long_place = long_field 4 (omega arith) (omega arith) ∙ sym ea

    long_lists : (s j : ℕ) → (s ≡ r → ⊥) → Long p cs s → j < many p cs s
        → nth fs (data_at p + place p cs s + j) ≡ nth cs (data_at p + place p cs s + j)
    long_lists s j o l b = long_past _ (omega arith) (out (v.apart s o l)) ∙ v.lists s j o l b
      where
        out : (place p ds r + capacity p ds r ≤ place p cs s) ⊎ (place p cs s + capacity p cs s ≤ place p ds r)
            → data_at p + place p cs s + j ≡ data_at p + at + n → ⊥
        out (inl h) e = omega (arith, h, e, ea, v.space)
        out (inr h) e = omega (arith, h, e, ea, b, (a.can.has.ok.runs s l).fits)

    long_last : nth fs (data_at p + at + n) ≡ w
    long_last =
        field_past p r 3 (n + 1) es fs y _ (omega arith)
        ∙ ap (λ (l : List ℕ). nth l (data_at p + at + n)) x
        ∙ nth-put ds (data_at p + at + n) w (omega (arith, long_in, a.can.has.ok.room, v.still.kept.long))

    long_words : words_of p fs r ≡ (state p cs k).words ++ (w ∷ [])
    unfolding words_of
    long_words =
        let f = a.least in
        let i = long_in in
        let o = a.can.has.ok.room in
        let l = long_still.kept.long in
        let m : length fs ≡ length ds = l ∙ sym v.still.kept.long in
        let ws = rw (← ea) at v.words in
        rw (y.here, lt-ltb 4 (n + 1) (omega arith), long_place)
        (part-more (data_at p + at) n fs (omega arith)
        ∙ rw (long_last, part_ext (data_at p + at) n fs ds (omega arith) m (λ j h. long_past _ (omega arith) (omega arith)), ws) refl)

    long_cost : top p fs + credit p fs r ≤ top p cs + credit p cs r + 4
    long_cost =
        let f = a.least in
        let q = long_field 5 (omega arith) (omega arith) in
        omega (arith, long_top, v.cost, y.here, q, credit_long p fs r y.live.live (omega (arith, y.here)))

    pub added_long : Noted p k r (with_more w (state p cs k)) cs fs
    added_long =
        let f = long_field 4 (omega arith) (omega arith) in
        let g = long_field 5 (omega arith) (omega arith) in
        noted_anew p k r cs fs a.can long_still (omega (arith, long_top, v.grown)) long_lists
        (λ l. record { fits = omega (arith, y.here, g, v.space); below = omega (arith, f, g, v.below, long_top) })
        (λ s o l m. rw (f, g) (v.apart s o m)) long_cost _ long_words

-- A NOTE, where the last word is told
module _ (p : Pairs) (k r w : ℕ) (cs : List ℕ) (b : Bool) (c : CanNote p k r cs) (e : b ≡ last_is w (state p cs k).words) where
  pub noted_seen : b ≡ true → Noted p k r (with_note w (state p cs k)) cs cs
  unfolding noted
  noted_seen t =
      record {
        has = c.has;
        change = record { here = rw (sym e ∙ t) refl; others = λ q a n. refl };
        records = λ q a. refl;
        kept = kept_none _ _ cs;
        same = refl;
        most = omega arith;
      }

  pub noted_new : (ds : List ℕ) → b ≡ false → Noted p k r (with_more w (state p cs k)) cs ds → Noted p k r (with_note w (state p cs k)) cs ds
  unfolding noted
  noted_new ds f x = rw (sym e ∙ f) x

-- which way
module _ (p : Pairs) (k r n : ℕ) (cs : List ℕ) (c : CanNote p k r cs) (e : n ≡ many p cs r) where
  pub can_short : n < 4 → AddShort p k r n cs
  can_short h = record { can = c; many_is = e; few = h }

  pub can_long : 4 ≤ n → AddLong p k r n cs
  can_long h = record { can = c; many_is = e; least = h }
