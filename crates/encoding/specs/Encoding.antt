-- What a unit, a word and all words do to the three runs: the pieces that are interned, and the words in their numbers.
use Rattle.std.specs.Prelude.{◌≡◌, ℕ, ◌+◌, ◌*◌, ◌<◌, ◌≤◌, length, Result, Ok, Err}
use mathlib.Core.List.{List, [], ◌∷◌, ◌++◌, map, flat_map, foldl}
use Rattle.runs.specs.Parts.{nth}
use Rattle.numbers.specs.Little.{numbers}
use Rattle.cells.specs.Cells.{cells}
use Rattle.rule.specs.Table.{units_of, total}
use Rattle.rule.specs.Spelling.{decorate}
use Rattle.rule.specs.Seeding.{Entry, intern, number_of, keep, kept_with}
use Rattle.intern.specs.Pieces.{pieces}
use Rattle.intern.specs.Many.{Ran, Exceed}
use Rattle.error.specs.declared.NoRoom.{NoRoom}
use Rattle.vocab.specs.declared.Filled.{Filled}
use Rattle.word.specs.Layout.{symbols_at, Words, words_in}
use Rattle.pushing.specs.Pushing.{Takes}
use Rattle.word.specs.declared.WordSet.{WordSet}
use Rattle.encoding.specs.declared.Worded.{Worded}
use Rattle.encoding.specs.declared.Encoded.{Encoded}

-- "each word's decorated units in word order", of seeding, prefix, suffix, word bytes and word ends: word by word
unfoldable pub all_decorated : ℕ → List ℕ → List ℕ → List ℕ → List ℕ → List (List (List ℕ))
all_decorated seeding p s ws es = map (decorate p s) (units_of seeding ws es)

-- and one behind the other
unfoldable pub decorated_units : ℕ → List ℕ → List ℕ → List ℕ → List ℕ → List (List ℕ)
decorated_units seeding p s ws es = flat_map (λ w. w) (all_decorated seeding p s ws es)

-- the pieces that there are once the spellings ss are interned behind n others
abbrev pub after : List ℕ → List ℕ → ℕ → List (List ℕ) → List (List ℕ)
after xs ys n ss = foldl intern (pieces xs ys n) ss

-- the set w has the words es, and the open word at its top has the frequency f and the n symbols ss
pub record Open (w : WordSet) (es : List Entry) (f n : ℕ) (ss cs : List ℕ) : Type 0 where
  pub set : Words w cs
  pub view : words_in w cs ≡ es
  pub frequency : nth cs w.top ≡ f
  pub symbols : symbols_at (w.top + 2) n cs ≡ ss

-- A UNIT spelled s is interned, and its number is one more symbol of the open word of n symbols
unfoldable pub UnitDone : Result Filled NoRoom → WordSet → ℕ → ℕ → ℕ → ℕ → ℕ → List ℕ → List ℕ → List ℕ → List ℕ → List ℕ → List ℕ → List ℕ → Type 0
UnitDone (Ok f) w n base cap c u s rs xs ys qs vs ws =
    Ran base cap c u (after xs ys c (s ∷ [])) [] xs ys (cells qs) vs ws f.count f.used
    × Open w (words_in w (cells rs)) (nth (cells rs) w.top) (n + 1)
    (symbols_at (w.top + 2) n (cells rs) ++ (number_of (after xs ys c (s ∷ [])) s ∷ [])) (cells qs)
UnitDone (Err e) w n base cap c u s rs xs ys qs vs ws = Exceed (after xs ys c (s ∷ [])) xs ys

-- A WORD'S UNITS us are interned with their decoration, and their numbers are the symbols of the open word
unfoldable pub WordDone : Result Worded NoRoom → WordSet → ℕ → ℕ → ℕ → ℕ → List ℕ → List ℕ → List (List ℕ) → List ℕ → List ℕ → List ℕ → List ℕ → List ℕ → List ℕ → Type 0
WordDone (Ok r) w base cap c u p s us rs xs ys qs vs ws =
    Ran base cap c u (after xs ys c (decorate p s us)) [] xs ys (cells qs) vs ws r.filled.count r.filled.used
    × (r.symbols ≡ length us)
    × Open w (words_in w (cells rs)) (nth (cells rs) w.top) r.symbols (map (number_of (after xs ys c (decorate p s us))) (decorate p s us)) (cells qs)
WordDone (Err e) w base cap c u p s us rs xs ys qs vs ws = Exceed (after xs ys c (decorate p s us)) xs ys

-- A WORD of frequency f is behind those of the set, if it is kept
unfoldable pub EntryDone : Result Encoded NoRoom → WordSet → ℕ → ℕ → ℕ → ℕ → ℕ → List ℕ → List ℕ → List (List ℕ) → List ℕ → List ℕ → List ℕ → List ℕ → List ℕ → List ℕ → Type 0
EntryDone (Ok r) w base cap c u f p s us rs xs ys qs vs ws =
    Ran base cap c u (after xs ys c (decorate p s us)) [] xs ys (cells qs) vs ws r.filled.count r.filled.used
    × Takes w (length us) r.words
    × Words r.words (cells qs)
    × (words_in r.words (cells qs)
    ≡ words_in w (cells rs) ++ keep f (map (number_of (after xs ys c (decorate p s us))) (decorate p s us)) [])
EntryDone (Err e) w base cap c u f p s us rs xs ys qs vs ws = Exceed (after xs ys c (decorate p s us)) xs ys

-- an empty set below the table, with room for all words: two cells for each unit, and a place for every two
pub record Fits (w : WordSet) (base seeding : ℕ) (ws es cs : List ℕ) : Type 0 where
  pub set : Words w cs
  pub none : w.count ≡ 0
  pub words : w.top + 2 + 2 * total (map length (units_of seeding ws es)) ≤ base
  pub places : 2 * w.starts + total (map length (units_of seeding ws es)) < 2 * w.low

-- ALL WORDS, of frequencies fs and decorated units ds: their units are interned, and the set has the words that are kept, in the numbers of their pieces,
-- two cells for each unit at most
unfoldable pub WordsDone : Result Encoded NoRoom → WordSet → ℕ → ℕ → ℕ → ℕ → List ℕ → List (List (List ℕ)) → List ℕ → List ℕ → List ℕ → List ℕ → List ℕ → List ℕ → Type 0
WordsDone (Ok r) w base cap c u fs ds rs xs ys qs vs ws =
    Ran base cap c u (after xs ys c (flat_map (λ d. d) ds)) [] xs ys (cells qs) vs ws r.filled.count r.filled.used
    × Words r.words (cells qs)
    × (words_in r.words (cells qs) ≡ kept_with (after xs ys c (flat_map (λ d. d) ds)) (numbers 8 fs) ds)
    × (r.words.starts ≡ w.starts)
    × (r.words.low ≡ w.low)
    × (r.words.top ≤ w.top + 2 * total (map length ds))
WordsDone (Err e) w base cap c u fs ds rs xs ys qs vs ws = Exceed (after xs ys c (flat_map (λ d. d) ds)) xs ys
