-- A list that moves into a new run at the top. Assumes nothing.
use mathlib.Core.Path.{◌≡◌, refl, sym, ap, ◌∙◌}
use mathlib.Core.List.{List}
use mathlib.Core.Logic.{inl, inr}
use Prim.Native.Nat.{ℕ, ◌+◌, ◌-◌, ◌*◌, ◌<◌, ◌≤◌}
use native.Mathlib.Omega.{arith}
use lib.ListN.{length}
use Rattle.runs.specs.Parts.{nth, put, part, laid, Kept}
use Rattle.runs.proofs.Parts.{nth-put, nth-put_other, length-part, part_ext, part-laid}
use Rattle.runs.proofs.Frames.{kept-put, kept-laid}
use Rattle.records.specs.Records.{field, CanPut, FieldPut}
use Rattle.pairs.specs.View.{arena_at, lists_at, data_at, many, place, state, top, credit}
use Rattle.pairs.specs.Pairs.{Long, Has}
use Rattle.pairs.specs.declared.Pairs.{Pairs}
use Rattle.pairs.proofs.Moves.{top-most}
use Rattle.notes.specs.Notes.{AddLong, Still, CanMove, MovedList, Ready}
use Rattle.fields.proofs.Fields.{has_live, has_record}
use Rattle.lists.proofs.Reading.{has_long, words-short, words_long, run_fits}
use Rattle.notes.proofs.Credits.{credit-short, credit_long, credit_space}
use Rattle.notes.proofs.Steps.{top_cell, still_none, still_then, field_past, field_still, beyond_still}

-- the new run lies in the room
pub move_room : (p : Pairs) (k r from n size t : ℕ) (cs : List ℕ) → CanMove p k r from n size cs → t ≡ nth cs (lists_at p) → data_at p + t + size ≤ length cs
move_room p k r from n size t cs c e = omega (arith, e, top_cell p cs, c.space, c.has.ok.room)

-- THE MOVE: the words copied above the top, the top raised, the record led there
module _ (p : Pairs) (k r from n size t : ℕ) (cs ds es : List ℕ) (c : CanMove p k r from n size cs) (et : t ≡ nth cs (lists_at p))
    (x : ds ≡ laid cs (data_at p + t) (part from n cs)) (y : es ≡ put ds (lists_at p) (t + size)) where
  move_many : length (part from n cs) ≡ n
  move_many = length-part from n cs c.source

  move_top : t ≡ top p cs
  move_top = et ∙ sym (top_cell p cs)

  move_fits : data_at p + t + length (part from n cs) ≤ length cs
  move_fits = omega (arith, move_many, move_top, c.fits, c.space, c.has.ok.room)

  move_kept : Kept (data_at p + t) (data_at p + t + n) cs ds
  move_kept = rw x (rw move_many at (kept-laid cs (data_at p + t) (part from n cs) move_fits))

  move_first : Still p r cs ds
  move_first =
      beyond_still p r _ _ cs ds (has_record p k r cs c.has) move_kept (omega arith) (omega (arith, move_top, c.fits, c.space)) (inl (omega arith))

  raise_kept : Kept (lists_at p) (lists_at p + 1) ds es
  raise_kept = rw y (kept-put _ _ ds (lists_at p) (t + size) (omega arith) (omega arith))

  move_second : Still p r cs es
  move_second = still_then move_first (beyond_still p r _ _ ds es move_first.live raise_kept (omega arith) (omega arith) (inr (omega arith)))

  pub can_lead : CanPut (arena_at p) p.most r 4 es
  can_lead = record { at = move_second.live; some = omega arith; few = omega arith }

  module _ (fs gs : List ℕ) (z : FieldPut (arena_at p) p.most r 4 t es fs) (u : FieldPut (arena_at p) p.most r 5 size fs gs) where
    move_still : Still p r cs gs
    move_still = still_then move_second (still_then (field_still p r 4 t es fs z (omega arith)) (field_still p r 5 size fs gs u (omega arith)))

    move_past : (j : ℕ) → lists_at p ≤ j → nth gs j ≡ nth es j
    move_past j h = field_past p r 5 size fs gs u j h ∙ field_past p r 4 t es fs z j h

    move_data : (j : ℕ) → lists_at p < j → nth gs j ≡ nth ds j
    move_data j h = move_past j (omega arith) ∙ ap (λ (l : List ℕ). nth l j) y ∙ nth-put_other ds (lists_at p) (t + size) j (omega arith)

    move_raised : top p gs ≡ top p cs + size
    move_raised =
        top_cell p gs
        ∙ move_past (lists_at p) (omega arith)
        ∙ ap (λ (l : List ℕ). nth l (lists_at p)) y
        ∙ nth-put ds (lists_at p) (t + size) (omega (arith, c.has.ok.room, move_first.kept.long))
        ∙ ap (λ (m : ℕ). m + size) move_top

    move_words : part (data_at p + t) n gs ≡ part from n cs
    move_words =
        let f = move_fits in
        let m = move_many in
        let l = move_still.kept.long in
        let d = move_first.kept.long in
        part_ext (data_at p + t) n gs ds (omega arith) (l ∙ sym d) (λ j h. move_data _ (omega arith))
        ∙ ap (λ (l : List ℕ). part (data_at p + t) n l) x
        ∙ ap (λ (i : ℕ). part (data_at p + t) i (laid cs (data_at p + t) (part from n cs))) (sym m)
        ∙ part-laid cs (data_at p + t) (part from n cs) f

    pub moved_list : MovedList p r from n size cs gs
    moved_list =
        record {
          still = move_still;
          place_is = u.rest 4 (omega arith) (omega arith) ∙ z.here ∙ move_top;
          capacity_is = u.here;
          top_is = move_raised;
          below = λ j h. move_data _ (omega arith) ∙ move_kept.same _ (inl (omega (arith, move_top)));
          words = rw (← move_top) move_words;
        }

-- A LIST WITH SPACE: one that has just moved
module _ (p : Pairs) (k r from n size : ℕ) (cs ds : List ℕ) (h : Has p k r cs) (m : MovedList p r from n size cs ds) (f : n < size)
    (space : top p cs + size ≤ 4 * p.most) (e : part from n cs ≡ (state p cs k).words)
    (cost : size + (4 * (n + 1) - 2 * size) ≤ credit p cs r + 4) where
  ready_moved : Ready p k r n cs ds
  ready_moved =
      record {
        still = m.still;
        space = omega (arith, m.capacity_is);
        below = omega (arith, m.place_is, m.capacity_is, m.top_is);
        grown = omega (arith, m.top_is);
        apart = λ s o l. inr (omega (arith, m.place_is, (h.ok.runs s l).below));
        lists = λ s j o l b.
            let i : data_at p + place p cs s + j ≡ data_at p + (place p cs s + j) = omega arith in
            let u = h.ok.runs s l in
            rw i (m.below (place p cs s + j) (omega (arith, b, u.fits, u.below)));
        words = rw m.place_is (m.words ∙ e);
        cost = omega (arith, m.capacity_is, m.top_is, cost);
        bound = omega (arith, m.top_is, space);
      }

-- four words, which stood in the record
module _ (p : Pairs) (k r n : ℕ) (cs : List ℕ) (a : AddLong p k r n cs) (four : n ≡ 4) where
  four_credit : credit p cs r ≡ 16
  four_credit = omega (arith, four, a.many_is, credit-short p cs r (has_live p k r cs a.can.has) (omega (arith, four, a.many_is)))

  four_space : top p cs + 8 ≤ 4 * p.most
  four_space = omega (arith, four_credit, credit_space p cs r a.can.has.ok a.can.has.low)

  pub can_spill : CanMove p k r (arena_at p + 3 + r * 8 + 4) 4 8 cs
  can_spill =
      let h = a.can.has in
      record { has = h; source = omega (arith, h.low, h.ok.room); fits = omega arith; space = four_space }

  pub ready_spilled : (ds : List ℕ) → MovedList p r (arena_at p + 3 + r * 8 + 4) 4 8 cs ds → Ready p k r n cs ds
  ready_spilled ds m =
      let e : many p cs r ≡ 4 = sym a.many_is ∙ four in
      rw four
      (ready_moved p k r (arena_at p + 3 + r * 8 + 4) 4 8 cs ds a.can.has m (omega arith) four_space
      (sym (words-short p k r cs a.can.has (omega (arith, e)) ∙ rw e refl)) (omega (arith, four_credit)))

-- more, which stood in a run
module _ (p : Pairs) (k r n c : ℕ) (cs : List ℕ) (a : AddLong p k r n cs) (more : n ≡ 4 → ⊥) (ec : c ≡ field (arena_at p) cs r 5) where
  more_long : Long p cs r
  more_long = has_long p k r cs a.can.has (omega (arith, more, a.many_is, a.least))

  more_credit : credit p cs r ≡ 4 * n - 2 * c
  more_credit = omega (arith, a.many_is, ec, credit_long p cs r more_long.live more_long.long)

  -- with space
  pub ready_same : (n ≡ c → ⊥) → Ready p k r n cs cs
  ready_same o =
      let h = a.can.has in
      let u = h.ok.runs r more_long in
      record {
        still = still_none p r cs (has_record p k r cs h);
        space = omega (arith, a.many_is, ec, u.fits);
        below = u.below;
        grown = omega arith;
        apart = λ s w l. h.ok.apart r s (λ e. w (sym e)) more_long l;
        lists = λ s j w l b. refl;
        words = sym (words_long p k r cs h more_long.long ∙ rw (← a.many_is) refl);
        cost = omega (arith, more_credit, ec);
        bound = top-most p cs h.ok;
      }

  -- or full
  module _ (at : ℕ) (full : n ≡ c) (ea : at ≡ field (arena_at p) cs r 4) where
    more_space : top p cs + 2 * n ≤ 4 * p.most
    more_space = omega (arith, more_credit, full, credit_space p cs r a.can.has.ok a.can.has.low)

    pub can_grow : CanMove p k r (data_at p + at) n (2 * n) cs
    can_grow =
        let h = a.can.has in
        record { has = h; source = omega (arith, ea, a.many_is, run_fits p k r cs h more_long.long); fits = omega arith; space = more_space }

    pub ready_grown : (ds : List ℕ) → MovedList p r (data_at p + at) n (2 * n) cs ds → Ready p k r n cs ds
    ready_grown ds m =
        ready_moved p k r (data_at p + at) n (2 * n) cs ds a.can.has m (omega (arith, a.least)) more_space
        (sym (words_long p k r cs a.can.has more_long.long ∙ rw (← a.many_is, ea) refl)) (omega (arith, more_credit, full))
