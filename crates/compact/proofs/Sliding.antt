-- The laws of sliding words down. Assumes nothing.
use mathlib.Core.Path.{◌≡◌, refl, sym, ap, ◌∙◌}
use mathlib.Core.List.{List, map}
use mathlib.Core.Logic.{◌⊎◌, inl, inr}
use Prim.Native.Nat.{ℕ, ◌+◌, ◌*◌, ◌≤◌, ◌<◌}
use native.Mathlib.Omega.{arith}
use lib.ListN.{length}
use Rattle.runs.specs.Parts.{nth, part, laid, Kept}
use Rattle.runs.proofs.Parts.{same_or_not, below_or_not, nth-put, nth-put_other, length-part, part-laid, part_ext}
use Rattle.runs.proofs.Frames.{kept_none, kept_then, kept-laid}
use Rattle.rule.specs.Seeding.{Entry}
use Rattle.rule.specs.Sums.{in_use}
use Rattle.word.specs.Layout.{symbol_in, symbols_at, end_at, line, lines, corpus, entry_at, InLine, Words, Placed, words_in}
use Rattle.word.specs.declared.WordSet.{WordSet}
use Rattle.word.proofs.Views.{symbols_length, corpus_none, corpus_entry, corpus-more, corpus-lines, lines-same, length_moved, line_moved, line-same, in_use-append}
use Rattle.word.proofs.Sets.{word_symbols, words_room}
use Rattle.compact.specs.Compacting.{Compacted, Relocated, Moved, Sliding}

-- A WORD THAT IS WHERE IT SHALL BE, and one that is moved

module _ (w : WordSet) (k to s n : ℕ) (cs : List ℕ) (σ : Words w cs) (h : k < w.count) (p : Placed w k cs s) (en : n ≡ nth cs (s + 1)) where
  pub moved_not : to ≡ s → Moved w k to cs cs (to + 2 + n)
  moved_not e = record {
    place = sym p.place ∙ sym e;
    word = rw (e, p.place);
    size = rw (e, p.place);
    next = rw (← p.place, ← en);
    long = refl;
    same = λ j i d. refl;
  }

  pub moved : w.low ≤ to → to ≤ nth cs (w.starts + k) → (es : List ℕ) → Relocated (w.starts + k) s to (2 + n) cs es
      → Moved w k to cs es (to + 2 + n)
  moved low down es e = record {
    place = rw e.is (nth-put ds (w.starts + k) to (omega (arith, kept.long, σ.apart, p.low, p.high, σ.room)));
    word = rw (← p.place) (line_moved cs es s to old new (rw (← en) cells_are));
    size = rw (← p.place) (length_moved cs es s to old new (rw (← en) cells_are));
    next = rw (← p.place, ← en);
    long = long;
    same = same;
  }
    where
      ds : List ℕ
      ds = laid cs to (part s (2 + n) cs)

      size : length (part s (2 + n) cs) ≡ 2 + n
      size = length-part s (2 + n) cs (omega (arith, en, p.high, σ.room))

      fits : to + length (part s (2 + n) cs) ≤ length cs
      fits = omega (arith, size, en, p.place, p.high, σ.room)

      kept : Kept to (to + (2 + n)) cs ds
      kept = rw size at (kept-laid cs to (part s (2 + n) cs) fits)

      long : length es ≡ length cs
      long = e.long

      other : (j : ℕ) → (j ≡ w.starts + k → ⊥) → nth es j ≡ nth ds j
      other j i = rw e.is (nth-put_other ds (w.starts + k) to j i)

      cells_are : part to (2 + n) es ≡ part s (2 + n) cs
      cells_are =
          part_ext to (2 + n) es ds (omega (arith, long, fits, size)) (long ∙ sym kept.long) (λ j l. other (to + j) (omega (arith, σ.apart)))
          ∙ rw size at (part-laid cs to (part s (2 + n) cs) fits)

      old : end_at cs s ≤ length cs
      old = omega (arith, p.high, σ.room)

      new : to + (2 + nth cs (s + 1)) ≤ length es
      new = omega (arith, en, long, p.place, p.high, σ.room)

      same : (j : ℕ) → (j < to) ⊎ (end_at cs (nth cs (w.starts + k)) ≤ j) → (j ≡ w.starts + k → ⊥) → nth es j ≡ nth cs j
      same j (inl i) q = other j q ∙ kept.same j (inl i)
      same j (inr i) q = other j q ∙ kept.same j (inr (omega (arith, en, p.place, ap (λ (z : ℕ). nth cs (z + 1)) p.place)))

-- THE LOOP

pub sliding_start : (w : WordSet) (cs : List ℕ) → Words w cs → Sliding w 0 w.low cs cs
unfolding in_use
sliding_start w cs σ = record {
  set = σ;
  done = record { span = omega arith; first = λ k h. absurd (omega arith); last = λ k h. absurd (omega arith); order = λ i j h k. absurd (omega arith) };
  ahead = λ j l h. σ.in_line.first j h;
  tight = rw (corpus_none cs w.starts) (omega arith);
  whole = refl;
  kept = kept_none w.starts w.top cs;
}

module _ (w : WordSet) (k to : ℕ) (cs ds : List ℕ) (σ : Sliding w k to cs ds) where
  pub sliding_low : w.low ≤ to
  sliding_low = σ.done.span

  pub sliding_down : k < w.count → to ≤ nth ds (w.starts + k)
  sliding_down h = σ.ahead k (omega arith) h

  module _ (h : k < w.count) (es : List ℕ) (r : ℕ) (m : Moved w k to ds es r) where
    down : to ≤ nth ds (w.starts + k)
    down = sliding_down h

    -- the places but one are as they were
    place_other : (i : ℕ) → i < w.count → (i ≡ k → ⊥) → nth es (w.starts + i) ≡ nth ds (w.starts + i)
    place_other i l d = m.same (w.starts + i) (inl (omega (arith, σ.set.apart, sliding_low))) (omega arith)

    -- every other word lies below `to`, or behind the word as it stood
    cell_other : (i : ℕ) → i < w.count → (i ≡ k → ⊥) → (j : ℕ) → nth ds (w.starts + i) ≤ j → j < end_at ds (nth ds (w.starts + i)) → nth es j ≡ nth ds j
    cell_other i l d j lo hi = m.same j apart (omega (arith, σ.set.apart, σ.set.in_line.first i l))
      where
        apart : (j < to) ⊎ (end_at ds (nth ds (w.starts + k)) ≤ j)
        apart =
            below_or_not i k
            (λ u. inl (omega (arith, σ.done.last i u)))
            (λ u. inr (omega (arith, σ.set.in_line.order k i (omega arith) l)))

    line_other : (i : ℕ) → i < w.count → (i ≡ k → ⊥) → line es (nth es (w.starts + i)) ≡ line ds (nth ds (w.starts + i))
    line_other i l d =
        rw (place_other i l d)
        (line-same ds es (nth ds (w.starts + i)) m.long (omega (arith, σ.set.in_line.last i l, σ.set.room)) (cell_other i l d))

    whole_on : lines es w.starts w.count ≡ lines ds w.starts w.count
    whole_on =
        lines-same ds es w.starts w.count
        (λ i l. same_or_not i k (λ d. rw (d, m.place) m.word) (λ d. line_other i l d))

    -- where the words end
    end_this : end_at es (nth es (w.starts + k)) ≡ r
    end_this = rw (m.place, m.next, m.size)

    end_other : (i : ℕ) → i < w.count → (i ≡ k → ⊥) → end_at es (nth es (w.starts + i)) ≡ end_at ds (nth ds (w.starts + i))
    end_other i l d =
        rw (place_other i l d)
        (ap (λ (n : ℕ). nth ds (w.starts + i) + 2 + n)
        (cell_other i l d (nth ds (w.starts + i) + 1) (omega arith) (omega arith)))

    within : r ≤ end_at ds (nth ds (w.starts + k))
    within = omega (arith, m.next, down)

    -- the first k words, and this one
    done_on : InLine es w.starts (k + 1) w.low r
    done_on = record { span = omega (arith, sliding_low, m.next); first = first; last = last; order = order }
      where
        first : (i : ℕ) → i < k + 1 → w.low ≤ nth es (w.starts + i)
        first i l =
            same_or_not i k
            (λ d. rw (d, m.place) sliding_low)
            (λ d. rw (place_other i (omega arith) d) (σ.done.first i (omega arith)))

        last : (i : ℕ) → i < k + 1 → end_at es (nth es (w.starts + i)) ≤ r
        last i l =
            same_or_not i k
            (λ d. rw d (omega (arith, end_this)))
            (λ d. omega (arith, end_other i (omega arith) d, σ.done.last i (omega arith), m.next))

        order : (i j : ℕ) → i < j → j < k + 1 → end_at es (nth es (w.starts + i)) ≤ nth es (w.starts + j)
        order i j l u =
            same_or_not j k
            (λ d. rw (d, m.place) (omega (arith, end_other i (omega arith) (omega arith), σ.done.last i (omega arith))))
            (λ d. omega (arith, end_other i (omega arith) (omega arith), place_other j (omega arith) d, σ.done.order i j l (omega arith)))

    in_line_lem : InLine es w.starts w.count w.low w.top
    in_line_lem = record { span = σ.set.in_line.span; first = first; last = last; order = order }
      where
        first : (i : ℕ) → i < w.count → w.low ≤ nth es (w.starts + i)
        first i l =
            same_or_not i k
            (λ d. rw (d, m.place) sliding_low)
            (λ d. rw (place_other i l d) (σ.set.in_line.first i l))

        last : (i : ℕ) → i < w.count → end_at es (nth es (w.starts + i)) ≤ w.top
        last i l =
            same_or_not i k
            (λ d. rw d (omega (arith, end_this, within, σ.set.in_line.last k h)))
            (λ d. omega (arith, end_other i l d, σ.set.in_line.last i l))

        order : (i j : ℕ) → i < j → j < w.count → end_at es (nth es (w.starts + i)) ≤ nth es (w.starts + j)
        order i j l u =
            same_or_not j k
            (λ d. rw (d, m.place) (omega (arith, end_other i (omega arith) (omega arith), σ.done.last i (omega arith))))
            (λ d.
            same_or_not i k
            (λ c. rw c (omega (arith, end_this, within, place_other j u d, σ.set.in_line.order k j (omega arith) u)))
            (λ c. omega (arith, end_other i (omega arith) c, place_other j u d, σ.set.in_line.order i j l u)))

    corpus_on : words_in w es ≡ words_in w ds
    corpus_on = corpus-lines ds es w.starts w.count whole_on

    -- the word's length is that of the word with its number when all began
    size_is : length (map symbol_in (line cs (nth cs (w.starts + k))).symbols) ≡ nth ds (nth ds (w.starts + k) + 1)
    unfolding symbols_at
    size_is =
        sym (ap (λ (e : Entry). length e.symbols) (corpus_entry cs w.starts w.count k h))
        ∙ sym (ap (λ (l : List Entry). length (entry_at l k).symbols) (corpus-lines cs ds w.starts w.count σ.whole))
        ∙ ap length (word_symbols w ds σ.set k h)
        ∙ symbols_length (nth ds (w.starts + k) + 2) (nth ds (nth ds (w.starts + k) + 1)) ds (omega (arith, σ.set.in_line.last k h, σ.set.room))

    tight_on : r ≡ w.low + in_use (corpus cs w.starts (k + 1)) + 2 * (k + 1)
    unfolding in_use
    tight_on = rw (corpus-more cs w.starts k, in_use-append) (omega (arith, m.next, σ.tight, size_is))

    kept_on : Kept w.starts w.top ds es
    kept_on = record { long = m.long; same = same }
      where
        same : (j : ℕ) → (j < w.starts) ⊎ (w.top ≤ j) → nth es j ≡ nth ds j
        same j (inl i) = m.same j (inl (omega (arith, σ.set.apart, sliding_low))) (omega arith)
        same j (inr i) = m.same j (inr (omega (arith, σ.set.in_line.last k h))) (omega (arith, σ.set.apart, σ.set.in_line.span))

    pub sliding_turn : Sliding w (k + 1) r cs es
    sliding_turn = record {
      set = record {
        small = rw m.long σ.set.small;
        room = rw m.long σ.set.room;
        apart = σ.set.apart;
        in_line = in_line_lem;
        used = rw corpus_on σ.set.used;
      };
      done = done_on;
      ahead = λ j l u. omega (arith, within, place_other j u (omega arith), σ.set.in_line.order k j (omega arith) u);
      tight = tight_on;
      whole = whole_on ∙ σ.whole;
      kept = kept_then σ.kept kept_on;
    }

  pub sliding_end : k ≤ w.count → w.count ≤ k → Words w cs → Compacted w cs ds (record { starts = w.starts; count = w.count; low = w.low; top = to; live = w.live })
  sliding_end a b τ = record {
    numbers = record { starts_is = refl; count_is = refl; low_is = refl; top_is = top_is; live_is = refl };
    lower = omega (arith, top_is, words_room w ds σ.set);
    set = record {
      small = σ.set.small;
      room = omega (arith, top_is, words_room w ds σ.set, σ.set.room);
      apart = σ.set.apart;
      in_line = rw z at σ.done;
      used = σ.set.used;
    };
    view = corpus-lines cs ds w.starts w.count σ.whole;
    whole = σ.whole;
    kept = σ.kept;
  }
    where
      z : k ≡ w.count
      z = omega arith

      top_is : to ≡ w.low + w.live + 2 * w.count
      top_is = omega (arith, σ.tight, τ.used, ap (λ (j : ℕ). in_use (corpus cs w.starts j)) z)
