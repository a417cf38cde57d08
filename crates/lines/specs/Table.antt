-- What reading a text as a word table answers, and what is in the three lent runs then.
use Rattle.std.specs.Prelude.{◌≡◌, Bool, true, cond, ◌||◌, ℕ, ◌+◌, ◌*◌, ltb, length, Result, Ok, Err}
use mathlib.Core.List.{List, map, flat_map}
use Rattle.runs.specs.Parts.{part, laid}
use Rattle.numbers.specs.Little.{numbers}
use Rattle.rule.specs.Shapes.{spell_all, ends_from, parts_by, shaped}
use Rattle.lines.specs.Lines.{lines, word_of, frequency_of, too_long, first_bad}
use Rattle.lines.specs.declared.Parsed.{Parsed}
use Rattle.lines.specs.declared.ParseError.{ParseError}
use Rattle.lines.specs.declared.ParseError.TheVariants.{NoRoom, TooLong, BadLine}

-- "the word bytes end to end"
unfoldable pub word_bytes : List (List ℕ) → List ℕ
word_bytes ls = flat_map word_of ls

-- "the word ends, 4 bytes each", of words that begin at a place
unfoldable pub end_bytes : ℕ → List (List ℕ) → List ℕ
end_bytes from ls = spell_all 4 (ends_from from (map word_of ls))

-- "the frequencies, 8 bytes each"
unfoldable pub frequency_bytes : List (List ℕ) → List ℕ
frequency_bytes ls = spell_all 8 (map frequency_of ls)

-- a run is too short for the table of 64 lines and 1,024 bytes
unfoldable pub no_room : ℕ → ℕ → ℕ → Bool
no_room words ends frequencies = ltb words 1024 || (ltb ends 256 || ltb frequencies 512)

-- the answer that is a table
abbrev pub table : ℕ → ℕ → Result Parsed ParseError
table count bytes = Ok (record { count = count; bytes = bytes })

-- "Over 1,024 bytes or 64 lines it writes `too long`; else for the first malformed line `bad line N` from 1"; else how many words and bytes there are.
-- A run that is too short is told before all of this.
unfoldable pub parsed : List ℕ → ℕ → ℕ → ℕ → Result Parsed ParseError
parsed text words ends frequencies =
    cond (no_room words ends frequencies) (Err NoRoom) (
    cond (too_long text) (Err TooLong) (
    cond (ltb (first_bad text) (length (lines text))) (Err (BadLine (first_bad text + 1))) (
    table (length (lines text)) (length (word_bytes (lines text))))))

-- what an answer leaves of a run: a table is laid at its start, any other leaves it as it was
unfoldable pub leaves : Result Parsed ParseError → List ℕ → List ℕ → List ℕ
leaves (Ok t) was new = laid was 0 new
leaves (Err why) was new = was

-- the answer r to a text, and the three runs before and after it
pub record Read (text : List ℕ) (r : Result Parsed ParseError) (w e f w' e' f' : List ℕ) : Type 0 where
  pub is : r ≡ parsed text (length w) (length e) (length f)
  pub words : w' ≡ leaves r w (word_bytes (lines text))
  pub ends : e' ≡ leaves r e (end_bytes 0 (lines text))
  pub frequencies : f' ≡ leaves r f (frequency_bytes (lines text))

-- the table as it is written, of runs that have room; r are the bytes of its words
pub record Filled (all : List (List ℕ)) (r : ℕ) (w e f w' e' f' : List ℕ) : Type 0 where
  pub is : r ≡ length (word_bytes all)
  pub words : w' ≡ laid w 0 (word_bytes all)
  pub ends : e' ≡ laid e 0 (end_bytes 0 all)
  pub frequencies : f' ≡ laid f 0 (frequency_bytes all)

-- WHAT A TABLE TELLS: the fronts of the three runs are a word table, with the words and the frequencies of the text's lines
pub record Told (text : List ℕ) (count bytes : ℕ) (w e f : List ℕ) : Type 0 where
  pub shape : shaped (part 0 bytes w) (part 0 (count * 4) e) ≡ true
  pub words : parts_by (part 0 bytes w) (part 0 (count * 4) e) ≡ map word_of (lines text)
  pub frequencies : numbers 8 (part 0 (count * 8) f) ≡ map frequency_of (lines text)
