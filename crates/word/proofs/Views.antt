-- The laws of symbols in cells, and of the words that some cells hold. Assumes nothing.
use mathlib.Core.Path.{◌≡◌, refl, sym, ap, ◌∙◌}
use mathlib.Core.List.{List, [], ◌∷◌, ◌++◌, map-append}
use Prim.Native.Nat.{ℕ, zero, suc, ◌+◌, ◌-◌, ◌%◌, ◌^◌, ◌≤◌, ◌<◌}
use native.Mathlib.Omega.{arith}
use native.Mathlib.Numerals.{add-one}
use lib.ListN.{length, drop, length-map, get_or-map}
use lib.Seq.{drop-cons}
use Rattle.runs.specs.Parts.{nth, part}
use Rattle.runs.proofs.Parts.{length-part, nth-part, part_none, part-more, part_cons, part-part, part_ext}
use Rattle.rule.specs.Seeding.{Entry}
use Rattle.rule.specs.Sums.{Under, AllUnder, in_use}
use Rattle.word.specs.Layout.{symbol_in, symbols_at, end_at, line, lines, by_symbols, corpus, entry_at}

-- SYMBOLS

pub symbol_alone : (v : ℕ) → v < 2 ^ 32 → symbol_in v ≡ v
unfolding symbol_in
symbol_alone v h = omega arith

-- as the code reads one
pub symbol_of : (v : ℕ) (cs : List ℕ) (at : ℕ) → v ≡ nth cs at → v % 4294967296 ≡ symbol_in (nth cs at)
unfolding symbol_in
symbol_of v cs at e = rw e

module _ (at n : ℕ) (cs : List ℕ) where
  pub symbols_length : at + n ≤ length cs → length (symbols_at at n cs) ≡ n
  unfolding symbols_at
  symbols_length h = length-map (part at n cs) symbol_in ∙ length-part at n cs h

  pub nth_symbols : (j : ℕ) → j < n → nth (symbols_at at n cs) j ≡ symbol_in (nth cs (at + j))
  unfolding symbols_at nth symbol_in
  nth_symbols j h = get_or-map symbol_in (part at n cs) j 0 ∙ ap symbol_in (nth-part at n cs j h)

  pub symbols_more : at + n < length cs → symbols_at at (n + 1) cs ≡ symbols_at at n cs ++ (symbol_in (nth cs (at + n)) ∷ [])
  unfolding symbols_at
  symbols_more h = rw (part-more at n cs h) (map-append symbol_in (part at n cs) (nth cs (at + n) ∷ []))

  pub symbols_cons : at < length cs → symbols_at at (n + 1) cs ≡ symbol_in (nth cs at) ∷ symbols_at (at + 1) n cs
  unfolding symbols_at
  symbols_cons h = rw (part_cons at n cs h)

-- two symbols and the rest, and the same without the first
module _ (at n : ℕ) (cs : List ℕ) (h : 1 < n) (l : at + n ≤ length cs) where
  pub symbols_two : symbols_at at n cs ≡ symbol_in (nth cs at) ∷ symbol_in (nth cs (at + 1)) ∷ symbols_at (at + 1 + 1) (n - 2) cs
  symbols_two =
      let e : n ≡ n - 2 + 1 + 1 = omega arith in
      ap (λ (m : ℕ). symbols_at at m cs) e
      ∙ rw (symbols_cons at (n - 2 + 1) cs (omega arith), symbols_cons (at + 1) (n - 2) cs (omega arith))

  pub symbols_next : symbols_at (at + 1) (n - 1) cs ≡ symbol_in (nth cs (at + 1)) ∷ symbols_at (at + 1 + 1) (n - 2) cs
  symbols_next =
      let e : n - 1 ≡ n - 2 + 1 = omega arith in
      ap (λ (m : ℕ). symbols_at (at + 1) m cs) e ∙ symbols_cons (at + 1) (n - 2) cs (omega arith)

pub symbols_none : (at : ℕ) (cs : List ℕ) → symbols_at at 0 cs ≡ []
unfolding symbols_at
symbols_none at cs = rw (part_none at cs)

-- the same cells hold the same symbols
pub symbols_same : (at n : ℕ) (cs ds : List ℕ) → part at n ds ≡ part at n cs → symbols_at at n ds ≡ symbols_at at n cs
unfolding symbols_at
symbols_same at n cs ds e = rw e

-- WORDS, by their numbers

pub lines_none : (cs : List ℕ) (starts : ℕ) → lines cs starts 0 ≡ []
unfolding lines
lines_none cs starts = refl

pub lines-length : (cs : List ℕ) (starts n : ℕ) → length (lines cs starts n) ≡ n
unfolding lines
lines-length cs starts zero = refl
lines-length cs starts (suc n) = ap suc (lines-length cs (starts + 1) n)

pub corpus-length : (cs : List ℕ) (starts n : ℕ) → length (corpus cs starts n) ≡ n
unfolding corpus
corpus-length cs starts n = length-map (lines cs starts n) by_symbols ∙ lines-length cs starts n

pub corpus_none : (cs : List ℕ) (starts : ℕ) → corpus cs starts 0 ≡ []
unfolding corpus lines
corpus_none cs starts = refl

pub corpus_cons : (cs : List ℕ) (starts n : ℕ) → corpus cs starts (suc n) ≡ by_symbols (line cs (nth cs starts)) ∷ corpus cs (starts + 1) n
unfolding corpus lines
corpus_cons cs starts n = refl

pub corpus_entry : (cs : List ℕ) (starts n k : ℕ) → k < n → entry_at (corpus cs starts n) k ≡ by_symbols (line cs (nth cs (starts + k)))
unfolding corpus lines entry_at
corpus_entry cs starts zero k h = absurd (omega arith)
corpus_entry cs starts (suc n) zero h = let e : starts + 0 ≡ starts = omega arith in rw e
corpus_entry cs starts (suc n) (suc k) h =
    let e : starts + 1 + k ≡ starts + suc k = omega arith in
    rw (← e) (corpus_entry cs (starts + 1) n k (omega arith))

pub drop_entry : (es : List Entry) (k : ℕ) → k < length es → drop k es ≡ entry_at es k ∷ drop (k + 1) es
unfolding entry_at
drop_entry es k h = rw (add-one k) (drop-cons es k (record { frequency = 0; symbols = [] }) h)

-- one word more, at the end
pub lines-more : (cs : List ℕ) (starts n : ℕ) → lines cs starts (n + 1) ≡ lines cs starts n ++ (line cs (nth cs (starts + n)) ∷ [])
unfolding lines
lines-more cs starts zero = let e : starts + 0 ≡ starts = omega arith in rw (add-one 0, e)
lines-more cs starts (suc n) =
    let e : starts + 1 + n ≡ starts + suc n = omega arith in
    let f : suc n + 1 ≡ suc (n + 1) = omega arith in
    rw (f, ← e) (ap (λ (l : List Entry). line cs (nth cs starts) ∷ l) (lines-more cs (starts + 1) n))

pub corpus-more : (cs : List ℕ) (starts n : ℕ) → corpus cs starts (n + 1) ≡ corpus cs starts n ++ (by_symbols (line cs (nth cs (starts + n))) ∷ [])
unfolding corpus
corpus-more cs starts n = rw (lines-more cs starts n) (map-append by_symbols (lines cs starts n) (line cs (nth cs (starts + n)) ∷ []))

-- the same lines are the same words
pub corpus-lines : (cs ds : List ℕ) (starts n : ℕ) → lines ds starts n ≡ lines cs starts n → corpus ds starts n ≡ corpus cs starts n
unfolding corpus
corpus-lines cs ds starts n e = rw e

-- words are equal word by word
pub lines-same : (cs ds : List ℕ) (starts n : ℕ)
    → ((k : ℕ) → k < n → line ds (nth ds (starts + k)) ≡ line cs (nth cs (starts + k)))
    → lines ds starts n ≡ lines cs starts n
unfolding lines
lines-same cs ds starts zero f = refl
lines-same cs ds starts (suc n) f =
    let e : starts + 0 ≡ starts = omega arith in
    let h : line ds (nth ds starts) ≡ line cs (nth cs starts) = rw e at (f 0 (omega arith)) in
    let i = lines-same cs ds (starts + 1) n (λ k l. let g : starts + 1 + k ≡ starts + suc k = omega arith in rw g (f (suc k) (omega arith))) in
    ap (λ (x : Entry). x ∷ lines ds (starts + 1) n) h ∙ ap (λ (l : List Entry). line cs (nth cs starts) ∷ l) i

-- A LINE AT ANOTHER PLACE: the same cells are the same word
module _ (cs ds : List ℕ) (s t : ℕ) (h : end_at cs s ≤ length cs) (k : t + (2 + nth cs (s + 1)) ≤ length ds)
    (e : part t (2 + nth cs (s + 1)) ds ≡ part s (2 + nth cs (s + 1)) cs) where
  cell_moved : (j : ℕ) → j < 2 + nth cs (s + 1) → nth ds (t + j) ≡ nth cs (s + j)
  cell_moved j l =
      sym (nth-part t (2 + nth cs (s + 1)) ds j l) ∙ ap (λ (p : List ℕ). nth p j) e ∙ nth-part s (2 + nth cs (s + 1)) cs j l

  pub length_moved : nth ds (t + 1) ≡ nth cs (s + 1)
  length_moved = cell_moved 1 (omega arith)

  pub line_moved : line ds t ≡ line cs s
  line_moved = rw (first, length_moved, rest)
    where
      first : nth ds t ≡ nth cs s
      first = let a : t + 0 ≡ t = omega arith in let b : s + 0 ≡ s = omega arith in rw (a, b) at (cell_moved 0 (omega arith))

      rest : part (t + 2) (nth cs (s + 1)) ds ≡ part (s + 2) (nth cs (s + 1)) cs
      rest =
          sym (part-part 2 (nth cs (s + 1)) t (2 + nth cs (s + 1)) ds (omega arith) k)
          ∙ ap (λ (p : List ℕ). part 2 (nth cs (s + 1)) p) e
          ∙ part-part 2 (nth cs (s + 1)) s (2 + nth cs (s + 1)) cs (omega arith) (omega arith)

-- and where they stand
pub line-same : (cs ds : List ℕ) (s : ℕ) → length ds ≡ length cs → end_at cs s ≤ length cs
    → ((j : ℕ) → s ≤ j → j < end_at cs s → nth ds j ≡ nth cs j)
    → line ds s ≡ line cs s
line-same cs ds s l h f =
    line_moved cs ds s s h (omega arith)
    (part_ext s (2 + nth cs (s + 1)) ds cs (omega arith) l (λ j k. f (s + j) (omega arith) (omega arith)))

-- SYMBOLS IN USE

pub in_use-append : (es fs : List Entry) → in_use (es ++ fs) ≡ in_use es + in_use fs
unfolding in_use
in_use-append [] fs = omega arith
in_use-append (e ∷ es) fs = let h = in_use-append es fs in omega arith

-- what the symbols of all words are below, those of each are
pub under_at : (m : ℕ) (es : List Entry) (k : ℕ) → AllUnder m es → k < length es → Under m (entry_at es k).symbols
unfolding AllUnder entry_at
under_at m [] k b h = absurd (omega arith)
under_at m (e ∷ es) zero b h = b.0
under_at m (e ∷ es) (suc k) b h = under_at m es k b.1 (omega arith)
