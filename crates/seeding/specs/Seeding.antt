-- Seeding in its stages, and as a whole: "the pieces before the first merge, and the words in their numbers".
use Rattle.std.specs.Prelude.{◌≡◌, true, ◌⊎◌, ℕ, ◌+◌, ◌*◌, ◌/◌, ◌<◌, ◌≤◌, length, Result, Ok, Err}
use mathlib.Core.List.{List, [], ◌++◌, map, flat_map, foldl}
use Rattle.runs.specs.Parts.{Kept}
use Rattle.numbers.specs.Little.{numbers}
use Rattle.cells.specs.Cells.{cells}
use Rattle.rule.specs.Shapes.{parts_by, shaped}
use Rattle.rule.specs.Table.{Task, A, U, chars, units_of, total, room_for}
use Rattle.rule.specs.Seeding.{intern, first_seeds, seeds, kept_with, kept}
use Rattle.rule.specs.Layout.{piece_bytes}
use Rattle.table.specs.declared.Table.{Table}
use Rattle.intern.specs.Pieces.{pieces, Held}
use Rattle.intern.specs.Intern.{Pieces}
use Rattle.intern.specs.Many.{Ran, Exceed}
use Rattle.error.specs.declared.NoRoom.{NoRoom}
use Rattle.vocab.specs.declared.Filled.{Filled}
use Rattle.units.specs.Gathering.{all_units, Heaped}
use Rattle.word.specs.Layout.{Words, words_in}
use Rattle.word.specs.declared.WordSet.{WordSet}
use Rattle.encoding.specs.Encoding.{decorated_units}
use Rattle.encoding.specs.declared.Encoded.{Encoded}
use Rattle.layout.specs.Layout.{units_at, table_at, cells_for}

-- a table and its marks as a task: seeding asks for no other setting
unfoldable pub table : List ℕ → List ℕ → List ℕ → List ℕ → List ℕ → List ℕ → List ℕ → ℕ → Task
table ws es fs al ae p s seeding = record {
  word_bytes = ws;
  word_ends = es;
  frequency_bytes = fs;
  alphabet_bytes = al;
  alphabet_ends = ae;
  prefix = p;
  suffix = s;
  seeding = seeding;
  vocab_size = 0;
  min_frequency = 0;
  max_piece_length = 0;
}

-- the same of a table as it is lent
abbrev pub lent : Table → Task
lent t = table t.words.now t.word_ends.now t.frequencies.now t.alphabet.now t.alphabet_ends.now t.prefix.now t.suffix.now t.seeding

-- THE SEEDS THAT COME FIRST are counted in a room that document 01 asks for, whatever the alphabet
pub record Counting (seeding units : ℕ) (ws es rs : List ℕ) : Type 0 where
  pub words-shaped : shaped ws es ≡ true
  pub units_few : units ≤ 268435456
  pub units_are : units ≡ length (all_units seeding ws es)
  pub room : cells_for units 0 ≤ length (cells rs)

-- n come first; under Chars they stand behind the words
pub record Counted (seeding units : ℕ) (ws es cs : List ℕ) (n : ℕ) : Type 0 where
  pub count : n ≡ length (first_seeds seeding (units_of seeding ws es))
  pub heaped : chars seeding ≡ true → Heaped (units_at units) n (all_units seeding ws es) cs

-- and are interned into an empty table
pub record CanBegin (seeding units base cap n : ℕ) (ws es cs xs ys : List ℕ) : Type 0 where
  pub units_few : units ≤ 268435456
  pub counted : Counted seeding units ws es cs n
  pub ok : Pieces base cap 0 0 cs xs ys
  pub slots : n < cap
  pub below : chars seeding ≡ true → units_at units + 2 * n ≤ base

unfoldable pub FirstDone : Result Filled NoRoom → ℕ → ℕ → List (List ℕ) → List ℕ → List ℕ → List ℕ → List ℕ → List ℕ → Type 0
FirstDone (Ok f) base cap ss xs ys ds vs ws = Ran base cap 0 0 (foldl intern (pieces xs ys 0) ss) [] xs ys ds vs ws f.count f.used
FirstDone (Err e) base cap ss xs ys ds vs ws = Exceed (foldl intern (pieces xs ys 0) ss) xs ys

-- THE INITIAL ALPHABET AND THE WORDS come behind them
pub record CanGoOn (base cap c u units seeding : ℕ) (wb we fs al ae p s rs xs ys : List ℕ) : Type 0 where
  pub ok : Pieces base cap c u (cells rs) xs ys
  pub slots : length (foldl intern (pieces xs ys c) (parts_by al ae ++ decorated_units seeding p s wb we)) < cap
  pub words-shaped : shaped wb we ≡ true
  pub symbols_shaped : shaped al ae ≡ true
  pub counts : length we / 4 ≡ length fs / 8
  pub units_few : units ≤ 268435456
  pub units_are : units ≡ total (map length (units_of seeding wb we))
  pub place : base ≡ table_at units

unfoldable pub RestDone : Result Encoded NoRoom → ℕ → ℕ → ℕ → ℕ → ℕ → List (List ℕ) → List (List (List ℕ)) → List ℕ → List ℕ → List ℕ → List ℕ → List ℕ → List ℕ → Type 0
RestDone (Ok r) base cap c u units al ds fs xs ys cs vs ws =
    Ran base cap c u (foldl intern (pieces xs ys c) (al ++ flat_map (λ d. d) ds)) [] xs ys cs vs ws r.filled.count r.filled.used
    × Words r.words cs
    × (words_in r.words cs ≡ kept_with (foldl intern (pieces xs ys c) (al ++ flat_map (λ d. d) ds)) (numbers 8 fs) ds)
    × (r.words.top ≤ units_at units)
RestDone (Err e) base cap c u units al ds fs xs ys cs vs ws = Exceed (foldl intern (pieces xs ys c) (al ++ flat_map (λ d. d) ds)) xs ys

-- ALL OF IT, of a table that rows 1 to 7 do not refuse
pub record CanSeed (t : Task) (units : ℕ) (rs : List ℕ) : Type 0 where
  pub words-shaped : shaped t.word_bytes t.word_ends ≡ true
  pub symbols_shaped : shaped t.alphabet_bytes t.alphabet_ends ≡ true
  pub counts : length t.word_ends / 4 ≡ length t.frequency_bytes / 8
  pub bytes_few : length t.word_bytes ≤ 268435456
  pub symbols_few : A t ≤ 65536
  pub symbol_bytes_few : length t.alphabet_bytes ≤ 1048576
  pub prefix_short : length t.prefix ≤ 255
  pub suffix_short : length t.suffix ≤ 255
  pub units_are : units ≡ U t
  pub units_few : units ≤ 268435456
  pub room : room_for units (A t) ≤ length rs

-- the seeds in the piece room and their ends, and the kept words as a set behind which the room is free
pub record Sown (t : Task) (units : ℕ) (xs ys cs vs ws : List ℕ) (c u : ℕ) (w : WordSet) : Type 0 where
  pub held : Held c u vs ws
  pub are : pieces vs ws c ≡ seeds t
  pub bytes : Kept 0 u xs vs
  pub ends : Kept 0 (c * 4) ys ws
  pub words : Words w cs
  pub view : words_in w cs ≡ kept t
  pub top : w.top ≤ units_at units

unfoldable pub SeedDone : Result Encoded NoRoom → Task → ℕ → List ℕ → List ℕ → List ℕ → List ℕ → List ℕ → Type 0
SeedDone (Ok r) t units xs ys cs vs ws = Sown t units xs ys cs vs ws r.filled.count r.filled.used r.words
SeedDone (Err e) t units xs ys cs vs ws = (length ys < length (seeds t) * 4) ⊎ (length xs < length (piece_bytes (seeds t)))
