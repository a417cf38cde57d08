-- The laws of merging a word, and all words, of a set. Assumes nothing.
use mathlib.Core.Path.{◌≡◌, refl, sym, ap, ◌∙◌}
use mathlib.Core.List.{List}
use mathlib.Core.Logic.{◌⊎◌, inl, inr}
use Prim.Native.Nat.{ℕ, ◌+◌, ◌-◌, ◌^◌, ◌≤◌, ◌<◌}
use native.Mathlib.Omega.{arith}
use lib.ListN.{length, length-map}
use Rattle.runs.specs.Parts.{nth, part, Kept}
use Rattle.runs.proofs.Parts.{same_or_not, below_or_not, length-part}
use Rattle.runs.proofs.Frames.{kept_none, kept_then, kept_wide}
use Rattle.rule.specs.Rewriting.{rewrite, rewrites}
use Rattle.rule.specs.Sums.{in_use}
use Rattle.rule.specs.Training.{rewrite_all}
use Rattle.rule.proofs.Rewriting.{length-rewrite}
use Rattle.word.specs.Layout.{symbol_in, symbols_at, end_at, line, lines, corpus, entry_at, Words, Numbers, Placed, words_in}
use Rattle.word.specs.declared.WordSet.{WordSet}
use Rattle.word.proofs.Views.{symbols_length, corpus-length, line-same}
use Rattle.word.proofs.Sets.{word_symbols, in_line_shorter}
use Rattle.merge.specs.Cells.{rewrite_cells, RewrittenWord}
use Rattle.merge.specs.Merging.{change_at, rewrite_first, MergedWord, MergedAll, Merging}
use Rattle.merge.specs.declared.Merged.{Merged}
use Rattle.merge.proofs.Runs.{rewrite_cells_lem}
use Rattle.merge.proofs.Changes.{change_symbols, lines_changed, in_use-rewrite, first_none, first-more, first_all}

module _ (a b x : ℕ) (w : WordSet) (k s n m : ℕ) (cs ds : List ℕ) (σ : Words w cs) (h : k < w.count) (p : Placed w k cs s) (en : n ≡ nth cs (s + 1))
    (r : RewrittenWord a b x s n cs ds m) (small : x < 2 ^ 32) where
  room : s + 2 + n ≤ length cs
  room = omega (arith, p.high, σ.room)

  symbols_are : (entry_at (words_in w cs) k).symbols ≡ symbols_at (s + 2) n cs
  symbols_are = word_symbols w cs σ k h ∙ rw (← p.place, ← en)

  rewrites_are : n - m ≡ rewrites a b (entry_at (words_in w cs) k).symbols
  unfolding symbols_at
  rewrites_are =
      rw symbols_are
      (omega (
        arith,
        length-part (s + 2) m ds (omega (arith, r.fewer, r.kept.long, room)),
        ap length r.cells_is,
        length-map (rewrite_cells a b x (part (s + 2) n cs)) symbol_in,
        ap length (rewrite_cells_lem a b x small (part (s + 2) n cs)),
        length-rewrite a b x (symbols_at (s + 2) n cs),
        symbols_length (s + 2) n cs room,
      ))

  -- the word loses symbols that were in use
  in_use_lem : in_use (change_at (rewrite a b x) k (words_in w cs)) + (n - m) ≡ w.live
  in_use_lem =
      rw (rewrites_are, σ.used) (in_use-rewrite a b x k (words_in w cs) (omega (arith, corpus-length cs w.starts w.count)))

  pub rewrites-live : n - m ≤ w.live
  rewrites-live = omega (arith, in_use_lem)

  -- the places, the word itself, and every other
  places : (i : ℕ) → i < w.count → nth ds (w.starts + i) ≡ nth cs (w.starts + i)
  places i l = r.kept.same (w.starts + i) (inl (omega (arith, σ.apart, p.low)))

  this_line : line ds (nth ds (w.starts + k)) ≡ record { frequency = nth cs (nth cs (w.starts + k)); symbols = rewrite_cells a b x (line cs (nth cs (w.starts + k))).symbols }
  this_line = rw (places k h, ← p.place, ← en, r.length_is, r.kept.same s (inl (omega arith)), r.cells_is)

  apart : (i j : ℕ) → i < w.count → (i ≡ k → ⊥) → nth cs (w.starts + i) ≤ j → j < end_at cs (nth cs (w.starts + i)) → (j < s + 1) ⊎ (s + 2 + m ≤ j)
  apart i j l d lo hi =
      below_or_not i k
      (λ u. inl (omega (arith, σ.in_line.order i k u h, p.place)))
      (λ u. inr (omega (arith, σ.in_line.order k i (omega arith) l, p.place, ap (λ (z : ℕ). nth cs (z + 1)) p.place, r.fewer)))

  other_line : (i : ℕ) → i < w.count → (i ≡ k → ⊥) → line ds (nth ds (w.starts + i)) ≡ line cs (nth cs (w.starts + i))
  other_line i l d =
      rw (places i l)
      (line-same cs ds (nth cs (w.starts + i)) r.kept.long (omega (arith, σ.in_line.last i l, σ.room)) (λ j lo hi. r.kept.same j (apart i j l d lo hi)))

  lines_are : lines ds w.starts w.count ≡ change_at (rewrite_cells a b x) k (lines cs w.starts w.count)
  lines_are = lines_changed (rewrite_cells a b x) cs ds w.starts w.count k h this_line other_line

  view : words_in w ds ≡ change_at (rewrite a b x) k (words_in w cs)
  unfolding corpus
  view = rw lines_are (change_symbols (rewrite a b x) (rewrite_cells a b x) (rewrite_cells_lem a b x small) k (lines cs w.starts w.count))

  -- no word is longer
  lengths : (i : ℕ) → i < w.count → nth ds (nth cs (w.starts + i) + 1) ≤ nth cs (nth cs (w.starts + i) + 1)
  lengths i l =
      same_or_not i k
      (λ d. rw (d, ← p.place) (omega (arith, r.length_is, r.fewer)))
      (λ d. let q = r.kept.same (nth cs (w.starts + i) + 1) (apart i (nth cs (w.starts + i) + 1) l d (omega arith) (omega arith)) in omega arith)

  pub word_merged : MergedWord a b x w k cs ds (record {
    words = record { starts = w.starts; count = w.count; low = w.low; top = w.top; live = w.live - (n - m) };
    rewrites = n - m;
  })
  word_merged = record {
    rewritten = rewrites_are;
    numbers = record { starts_is = refl; count_is = refl; low_is = refl; top_is = refl; live_is = refl };
    set = record {
      small = rw r.kept.long σ.small;
      room = rw r.kept.long σ.room;
      apart = σ.apart;
      in_line = in_line_shorter cs ds w.starts w.count w.low w.top σ.in_line places lengths;
      used = rw view (omega (arith, in_use_lem));
    };
    view = view;
    cells_are = lines_are;
    kept = rw (← p.place, r.length_is) r.kept;
  }

-- what changes lies between the words' bounds
pub merged-within : (a b x : ℕ) (w : WordSet) (k : ℕ) (cs ds : List ℕ) (r : Merged) → Words w cs → k < w.count → MergedWord a b x w k cs ds r → Kept w.low w.top cs ds
merged-within a b x w k cs ds r σ h m = kept_wide w.low w.top (omega (arith, low)) high m.kept
  where
    low : w.low ≤ nth cs (w.starts + k)
    low = σ.in_line.first k h

    place : nth ds (w.starts + k) ≡ nth cs (w.starts + k)
    place = m.kept.same (w.starts + k) (inl (omega (arith, σ.apart, low)))

    high : end_at ds (nth cs (w.starts + k)) ≤ w.top
    high =
        rw (m.numbers.starts_is, place, m.numbers.top_is) at (m.set.in_line.last k (omega (arith, m.numbers.count_is)))

-- ALL WORDS

pub merging_start : (a b x : ℕ) (w : WordSet) (cs : List ℕ) → Words w cs → Merging a b x w 0 cs cs w
merging_start a b x w cs σ = record {
  numbers = record { starts_is = refl; count_is = refl; low_is = refl; top_is = refl; live_is = refl };
  set = σ;
  view = sym (first_none a b x (words_in w cs));
  kept = kept_none w.low w.top cs;
}

module _ (a b x : ℕ) (w : WordSet) (k : ℕ) (cs ds : List ℕ) (v : WordSet) (σ : Merging a b x w k cs ds v) where
  pub merging_turn : k < w.count → (es : List ℕ) (r : Merged) → MergedWord a b x v k ds es r → Merging a b x w (k + 1) cs es r.words
  merging_turn h es r m = record { numbers = numbers; set = m.set; view = view; kept = kept }
    where
      numbers : Numbers r.words w.starts w.count w.low w.top r.words.live
      numbers = record {
        starts_is = m.numbers.starts_is ∙ σ.numbers.starts_is;
        count_is = m.numbers.count_is ∙ σ.numbers.count_is;
        low_is = m.numbers.low_is ∙ σ.numbers.low_is;
        top_is = m.numbers.top_is ∙ σ.numbers.top_is;
        live_is = refl;
      }

      view : words_in r.words es ≡ rewrite_first a b x (k + 1) (words_in w cs)
      view =
          m.view
          ∙ ap (change_at (rewrite a b x) k) σ.view
          ∙ first-more a b x k (words_in w cs) (omega (arith, corpus-length cs w.starts w.count))

      within : Kept v.low v.top ds es
      within = merged-within a b x v k ds es r σ.set (omega (arith, σ.numbers.count_is)) m

      kept : Kept w.low w.top cs es
      kept = kept_then σ.kept (kept_wide w.low w.top (omega (arith, σ.numbers.low_is)) (omega (arith, σ.numbers.top_is)) within)

  pub merging_end : w.count ≤ k → MergedAll a b x w cs ds v
  merging_end h = record {
    numbers = record {
      starts_is = σ.numbers.starts_is;
      count_is = σ.numbers.count_is;
      low_is = σ.numbers.low_is;
      top_is = σ.numbers.top_is;
      live_is = σ.set.used ∙ ap in_use view;
    };
    set = σ.set;
    view = view;
    kept = σ.kept;
  }
    where
      view : words_in v ds ≡ rewrite_all a b x (words_in w cs)
      view = σ.view ∙ first_all a b x k (words_in w cs) (omega (arith, corpus-length cs w.starts w.count))
