-- The laws of a word set: where its words lie, that it is as it was where its cells are, and how much room it takes. Assumes nothing.
use mathlib.Core.Path.{◌≡◌, sym, ap}
use mathlib.Core.List.{List, [], map}
use mathlib.Core.Logic.{◌⊎◌, inl, inr}
use Prim.Native.Nat.{ℕ, zero, suc, ◌+◌, ◌*◌, ◌^◌, ◌≤◌, ◌<◌}
use native.Mathlib.Omega.{arith}
use lib.ListN.{length}
use Rattle.runs.specs.Parts.{nth, part, Kept}
use Rattle.runs.proofs.Frames.{kept-part}
use Rattle.rule.specs.Seeding.{Entry}
use Rattle.rule.specs.Sums.{in_use}
use Rattle.word.specs.Layout.{symbol_in, symbols_at, end_at, lines, corpus, entry_at, SameIn, InLine, Words, Numbers, Placed, Found, words_in}
use Rattle.word.specs.declared.WordSet.{WordSet}
use Rattle.word.proofs.Views.{symbols_length, symbols_same, corpus_none, corpus_cons, corpus_entry, corpus-lines, lines-same, line-same}

-- WHERE A WORD LIES

module _ (w : WordSet) (cs : List ℕ) (σ : Words w cs) (k : ℕ) (h : k < w.count) where
  pub word_low : w.low ≤ nth cs (w.starts + k)
  word_low = σ.in_line.first k h

  pub word_high : end_at cs (nth cs (w.starts + k)) ≤ w.top
  word_high = σ.in_line.last k h

  pub word_inside : end_at cs (nth cs (w.starts + k)) ≤ length cs
  word_inside = omega (arith, word_high, σ.room)

  pub word_symbols : (entry_at (words_in w cs) k).symbols ≡ symbols_at (nth cs (w.starts + k) + 2) (nth cs (nth cs (w.starts + k) + 1)) cs
  unfolding symbols_at
  word_symbols = ap (λ (e : Entry). e.symbols) (corpus_entry cs w.starts w.count k h)

  pub word_frequency : (entry_at (words_in w cs) k).frequency ≡ nth cs (nth cs (w.starts + k))
  word_frequency = ap (λ (e : Entry). e.frequency) (corpus_entry cs w.starts w.count k h)

  pub placed : (s : ℕ) → s ≡ nth cs (w.starts + k) → Placed w k cs s
  placed s e = record { place = e; low = rw e word_low; high = rw e word_high }

-- as the code reads it, from its place s
module _ (w : WordSet) (cs : List ℕ) (σ : Words w cs) (k s : ℕ) (h : k < w.count) (p : Placed w k cs s) where
  pub frequency_read : (v : ℕ) → v ≡ nth cs s → v ≡ (entry_at (words_in w cs) k).frequency
  frequency_read v f = rw (word_frequency w cs σ k h, ← p.place) f

  pub word_found : (n : ℕ) → n ≡ nth cs (s + 1) → Found w k cs (record { start = s + 2; length = n })
  word_found n f = record {
    symbols = rw (word_symbols w cs σ k h, ← p.place, ← f);
    place = rw p.place;
    long = rw (word_symbols w cs σ k h, ← p.place, ← f) (sym (symbols_length (s + 2) n cs room));
    room = room;
  }
    where
      room : s + 2 + n ≤ length cs
      room = omega (arith, p.high, σ.room)

-- CELLS THAT ARE AS THEY WERE

module _ (cs ds : List ℕ) (starts n lo hi : ℕ) (l : InLine cs starts n lo hi) where
  -- words with the same places, and no word longer, lie in line
  pub in_line_shorter : ((k : ℕ) → k < n → nth ds (starts + k) ≡ nth cs (starts + k))
      → ((k : ℕ) → k < n → nth ds (nth cs (starts + k) + 1) ≤ nth cs (nth cs (starts + k) + 1))
      → InLine ds starts n lo hi
  in_line_shorter f g = record {
    span = l.span;
    first = λ k h. rw (f k h) (l.first k h);
    last = λ k h. rw (f k h) (omega (arith, l.last k h, g k h));
    order = λ i j h k. rw (f i (omega arith), f j k) (omega (arith, l.order i j h k, g i (omega arith)));
  }

  module _ (p : SameIn starts (starts + n) cs ds) (q : SameIn lo hi cs ds) where
    pub places-same : (k : ℕ) → k < n → nth ds (starts + k) ≡ nth cs (starts + k)
    places-same k h = p (starts + k) (omega arith) (omega arith)

    pub in_line_same : InLine ds starts n lo hi
    in_line_same =
        in_line_shorter places-same
        (λ k h. let e = q (nth cs (starts + k) + 1) (omega (arith, l.first k h)) (omega (arith, l.last k h)) in omega arith)

    pub lines_in_line : hi ≤ length cs → length ds ≡ length cs → lines ds starts n ≡ lines cs starts n
    lines_in_line r e =
        lines-same cs ds starts n
        (λ k h. rw (places-same k h)
        (line-same cs ds (nth cs (starts + k)) e (omega (arith, l.last k h))
        (λ j a b. q j (omega (arith, l.first k h)) (omega (arith, l.last k h)))))

module _ (w : WordSet) (cs ds : List ℕ) (σ : Words w cs) (e : length ds ≡ length cs)
    (p : SameIn w.starts (w.starts + w.count) cs ds) (q : SameIn w.low w.top cs ds) where
  pub corpus_as_it_was : words_in w ds ≡ words_in w cs
  corpus_as_it_was =
      corpus-lines cs ds w.starts w.count
      (lines_in_line cs ds w.starts w.count w.low w.top σ.in_line p q σ.room e)

  pub words_as_they_were : Words w ds
  words_as_they_were = record {
    small = rw e σ.small;
    room = rw e σ.room;
    apart = σ.apart;
    in_line = in_line_same cs ds w.starts w.count w.low w.top σ.in_line p q;
    used = rw corpus_as_it_was σ.used;
  }

-- A CHANGE ELSEWHERE: above the set, or below it
module _ (w : WordSet) (cs ds : List ℕ) (lo hi : ℕ) (σ : Words w cs) (k : Kept lo hi cs ds) (o : (hi ≤ w.starts) ⊎ (w.top ≤ lo)) where
  outside : (j : ℕ) → w.starts ≤ j → j < w.top → nth ds j ≡ nth cs j
  outside j a b = go o
    where
      go : (hi ≤ w.starts) ⊎ (w.top ≤ lo) → nth ds j ≡ nth cs j
      go (inl u) = k.same j (inr (omega arith))
      go (inr u) = k.same j (inl (omega arith))

  places : SameIn w.starts (w.starts + w.count) cs ds
  places j a b = outside j a (omega (arith, σ.apart, σ.in_line.span))

  inside : SameIn w.low w.top cs ds
  inside j a b = outside j (omega (arith, σ.apart)) b

  pub words-kept : Words w ds
  words-kept = words_as_they_were w cs ds σ k.long places inside

  pub corpus-kept : words_in w ds ≡ words_in w cs
  corpus-kept = corpus_as_it_was w cs ds σ k.long places inside

-- and some symbols that a change leaves out are as they were
pub symbols_kept : {lo hi : ℕ} {cs ds : List ℕ} (at n : ℕ) → Kept lo hi cs ds → at + n ≤ length cs → (at + n ≤ lo) ⊎ (hi ≤ at)
    → symbols_at at n ds ≡ symbols_at at n cs
symbols_kept {lo} {hi} {cs} {ds} at n k h o = symbols_same at n cs ds (kept-part at n k h o)

-- NO WORDS

module _ (r : WordSet) (starts low : ℕ) (cs : List ℕ) (n : Numbers r starts 0 low low 0) where
  pub corpus_empty : words_in r cs ≡ []
  corpus_empty = rw n.count_is (corpus_none cs r.starts)

  pub words_empty : starts ≤ low → low ≤ length cs → length cs < 2 ^ 61 → Words r cs
  unfolding in_use
  words_empty a h s = record {
    small = s;
    room = omega (arith, n.top_is);
    apart = omega (arith, n.starts_is, n.count_is, n.low_is);
    in_line = record {
      span = omega (arith, n.low_is, n.top_is);
      first = λ k l. absurd (omega (arith, n.count_is));
      last = λ k l. absurd (omega (arith, n.count_is));
      order = λ i j k l. absurd (omega (arith, n.count_is));
    };
    used = rw corpus_empty n.live_is;
  }

-- ROOM: the symbols in use, and two cells a word, lie between the bounds
pub line_room : (cs : List ℕ) (starts n lo hi : ℕ) → InLine cs starts n lo hi → hi ≤ length cs → lo + in_use (corpus cs starts n) + 2 * n ≤ hi
unfolding symbols_at in_use
line_room cs starts zero lo hi l r = rw (corpus_none cs starts) (omega (arith, l.span))
line_room cs starts (suc n) lo hi l r =
    let z : starts + 0 ≡ starts = omega arith in
    let f : lo ≤ nth cs starts = rw z at (l.first 0 (omega arith)) in
    let g : end_at cs (nth cs starts) ≤ hi = rw z at (l.last 0 (omega arith)) in
    let s : (k : ℕ) → starts + 1 + k ≡ starts + suc k = λ k. omega arith in
    let rest : InLine cs (starts + 1) n (end_at cs (nth cs starts)) hi = record {
      span = g;
      first = λ k h. rw (s k) (rw z at (l.order 0 (suc k) (omega arith) (omega arith)));
      last = λ k h. rw (s k) (l.last (suc k) (omega arith));
      order = λ i j h k. rw (s i, s j) (l.order (suc i) (suc j) (omega arith) (omega arith));
    } in
    let i = line_room cs (starts + 1) n (end_at cs (nth cs starts)) hi rest r in
    let m : length (map symbol_in (part (nth cs starts + 2) (nth cs (nth cs starts + 1)) cs)) ≡ nth cs (nth cs starts + 1) =
    symbols_length (nth cs starts + 2) (nth cs (nth cs starts + 1)) cs (omega arith) in
    rw (corpus_cons cs starts n) (omega arith)

pub words_room : (w : WordSet) (cs : List ℕ) → Words w cs → w.low + w.live + 2 * w.count ≤ w.top
words_room w cs σ = rw σ.used (line_room cs w.starts w.count w.low w.top σ.in_line σ.room)

pub words_span : (w : WordSet) (cs : List ℕ) → Words w cs → (w.low + w.live + 2 * w.count ≤ w.top) × (w.top < 2 ^ 61)
words_span w cs σ = (words_room w cs σ, omega (arith, σ.room, σ.small))

pub live_fits : (w : WordSet) (cs : List ℕ) (n : ℕ) → Words w cs → w.top + 2 + n ≤ length cs → w.live + n < 2 ^ 64
live_fits w cs n σ h = omega (arith, words_room w cs σ, σ.small)
