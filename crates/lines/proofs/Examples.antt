-- Texts and what they are read as: one table, one proof.
use mathlib.Core.Path.{◌≡◌, refl}
use mathlib.Core.List.{List, [], ◌∷◌, ◌++◌, map, flat_map}
use Prim.Native.Nat.{ℕ}
use lib.ListN.{replicate}
use Rattle.order.specs.Order.{same}
use Rattle.rule.specs.Shapes.{spell_all, ends_from, first}
use Rattle.numbers.specs.Little.{spell}
use Rattle.lines.specs.declared.Parsed.{Parsed}
use Rattle.std.specs.Prelude.{Result, Err}
use Rattle.lines.specs.declared.ParseError.{ParseError}
use Rattle.lines.specs.declared.ParseError.TheVariants.{NoRoom, TooLong, BadLine}
use Rattle.lines.specs.Lines.{ahead, lines, before, is_digit, digits, decimal, word_of, digits_of, frequency_of, well_formed, too_long, bad_among, first_bad}
use Rattle.lines.specs.Table.{word_bytes, end_bytes, frequency_bytes, no_room, table, parsed}

-- a text, and its answer in runs of the sizes asked for
record Example : Type 0 where
  text : List ℕ
  answer : Result Parsed ParseError

abbrev is : List ℕ → Result Parsed ParseError → Example
is t r = record { text = t; answer = r }

-- so many times a text
abbrev times : ℕ → List ℕ → List ℕ
times n t = flat_map (λ u. u) (replicate n t)

-- "aab 3", "ab 2", "cab 4"
abbrev document : List ℕ
document = 97 ∷ 97 ∷ 98 ∷ 32 ∷ 51 ∷ 10 ∷ 97 ∷ 98 ∷ 32 ∷ 50 ∷ 10 ∷ 99 ∷ 97 ∷ 98 ∷ 32 ∷ 52 ∷ 10 ∷ []

-- `a 1` with LF
abbrev a1 : List ℕ
a1 = 97 ∷ 32 ∷ 49 ∷ 10 ∷ []

abbrev examples : List Example
examples =
    -- the input of document 01, and nothing at all
    is document (table 3 8)
    ∷ is [] (table 0 0)
    -- no LF; two spaces; a space before the word; a space behind the digits
    ∷ is (97 ∷ 32 ∷ 49 ∷ []) (Err (BadLine 1))
    ∷ is (97 ∷ 32 ∷ 32 ∷ 49 ∷ 10 ∷ []) (Err (BadLine 1))
    ∷ is (32 ∷ 97 ∷ 32 ∷ 49 ∷ 10 ∷ []) (Err (BadLine 1))
    ∷ is (97 ∷ 32 ∷ 49 ∷ 32 ∷ 10 ∷ []) (Err (BadLine 1))
    -- 18 digits, and 19
    ∷ is (97 ∷ 32 ∷ (replicate 18 57 ++ (10 ∷ []))) (table 1 1)
    ∷ is (97 ∷ 32 ∷ (replicate 19 57 ++ (10 ∷ []))) (Err (BadLine 1))
    -- no word; no digits; no space; an empty line
    ∷ is (32 ∷ 49 ∷ 10 ∷ []) (Err (BadLine 1))
    ∷ is (97 ∷ 32 ∷ 10 ∷ []) (Err (BadLine 1))
    ∷ is (97 ∷ 10 ∷ []) (Err (BadLine 1))
    ∷ is (10 ∷ []) (Err (BadLine 1))
    -- CR before LF; a letter among the digits; the bytes next to the digits
    ∷ is (97 ∷ 32 ∷ 49 ∷ 13 ∷ 10 ∷ []) (Err (BadLine 1))
    ∷ is (97 ∷ 32 ∷ 49 ∷ 98 ∷ 50 ∷ 10 ∷ []) (Err (BadLine 1))
    ∷ is (97 ∷ 32 ∷ 47 ∷ 10 ∷ []) (Err (BadLine 1))
    ∷ is (97 ∷ 32 ∷ 58 ∷ 10 ∷ []) (Err (BadLine 1))
    -- any other byte may stand in a word: NUL, CR, FF; and digits
    ∷ is (0 ∷ 13 ∷ 255 ∷ 32 ∷ 48 ∷ 10 ∷ []) (table 1 3)
    ∷ is (49 ∷ 32 ∷ 49 ∷ 10 ∷ []) (table 1 1)
    -- the first malformed line is told, from 1
    ∷ is (a1 ++ (98 ∷ 10 ∷ 99 ∷ 10 ∷ [])) (Err (BadLine 2))
    ∷ is (a1 ++ (a1 ++ (97 ∷ []))) (Err (BadLine 3))
    -- 64 lines, and 65; 1,024 bytes, and 1,025
    ∷ is (times 64 a1) (table 64 64)
    ∷ is (times 65 a1) (Err TooLong)
    ∷ is (replicate 1024 97) (Err (BadLine 1))
    ∷ is (replicate 1025 97) (Err TooLong)
    ∷ []

abbrev answers : List (Result Parsed ParseError)
answers = map (λ x. parsed x.text 1024 256 512) examples

-- each has its answer; and of the input of document 01 the words, their ends and their frequencies
pub examples_hold : ◌≡◌ {A = List (Result Parsed ParseError) × List (Result Parsed ParseError) × List ℕ × List ℕ × List ℕ} (
  answers,
  parsed document 1023 256 512 ∷ parsed document 1024 255 512 ∷ parsed document 1024 256 511 ∷ [],
  word_bytes (lines document),
  end_bytes 0 (lines document),
  map frequency_of (lines document),
) (
  map (λ x. x.answer) examples,
  Err NoRoom ∷ Err NoRoom ∷ Err NoRoom ∷ [],
  97 ∷ 97 ∷ 98 ∷ 97 ∷ 98 ∷ 99 ∷ 97 ∷ 98 ∷ [],
  3 ∷ 0 ∷ 0 ∷ 0 ∷ 5 ∷ 0 ∷ 0 ∷ 0 ∷ 8 ∷ 0 ∷ 0 ∷ 0 ∷ [],
  3 ∷ 2 ∷ 4 ∷ [],
)
unfolding flat_map same first spell spell_all ends_from ahead lines before is_digit digits decimal word_of digits_of frequency_of well_formed too_long bad_among first_bad
    word_bytes end_bytes frequency_bytes no_room parsed
examples_hold = refl
