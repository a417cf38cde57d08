-- The output of document 01 as a text of codes, and other cases: one table, one proof.
use mathlib.Core.Path.{◌≡◌, refl}
use mathlib.Core.List.{List, [], ◌∷◌, ◌++◌, flat_map}
use Prim.Native.Nat.{ℕ}
use Rattle.runs.specs.Parts.{part}
use Rattle.numbers.specs.Little.{little, spell, load, loads, numbers}
use Rattle.rule.specs.Shapes.{spell_all, rise_to, shaped}
use Rattle.rule.specs.Layout.{piece_shape, piece_count, piece_start, piece_length, piece_at}
use Rattle.rule.specs.Outcome.{look_up}
use Rattle.vocab.specs.Reading.{piece_given}
use Rattle.std.specs.Prelude.{Result, Ok, Err}
use Rattle.error.specs.declared.NoRoom.{NoRoom}
use Rattle.codes.specs.Codes.{version, code_line, left_of, right_of, line_of, lines_of, codes_text}
use Rattle.codes.specs.Writing.{written}

-- the pieces `a`, `b</w>`, `c`, `ab</w>`
abbrev pieces : List ℕ
pieces = 97 ∷ 98 ∷ 60 ∷ 47 ∷ 119 ∷ 62 ∷ 99 ∷ 97 ∷ 98 ∷ 60 ∷ 47 ∷ 119 ∷ 62 ∷ []

abbrev ends : List ℕ
ends = spell_all 4 (1 ∷ 6 ∷ 7 ∷ 13 ∷ [])

-- three merges, and a fourth whose left number has no piece
abbrev merges : List ℕ
merges = spell_all 4 (0 ∷ 1 ∷ 2 ∷ 3 ∷ 0 ∷ 3 ∷ 4 ∷ 0 ∷ [])

-- "#version: 0.2"
abbrev head : List ℕ
head = 35 ∷ 118 ∷ 101 ∷ 114 ∷ 115 ∷ 105 ∷ 111 ∷ 110 ∷ 58 ∷ 32 ∷ 48 ∷ 46 ∷ 50 ∷ 10 ∷ []

-- "a b</w>", "c ab</w>", "a ab</w>"
abbrev three : List ℕ
three =
    (97 ∷ 32 ∷ 98 ∷ 60 ∷ 47 ∷ 119 ∷ 62 ∷ 10 ∷ [])
    ++ (99 ∷ 32 ∷ 97 ∷ 98 ∷ 60 ∷ 47 ∷ 119 ∷ 62 ∷ 10 ∷ [])
    ++ (97 ∷ 32 ∷ 97 ∷ 98 ∷ 60 ∷ 47 ∷ 119 ∷ 62 ∷ 10 ∷ [])

-- texts of no, three and four merges; ends that are no table; rooms that just do and do not suffice, and too few merges
pub examples_hold : ◌≡◌ {A = List (List ℕ) × List (Result ℕ NoRoom)} (
  codes_text pieces ends merges 0
      ∷ codes_text pieces ends merges 3
      ∷ codes_text pieces ends merges 4
      ∷ codes_text pieces [] merges 1
      ∷ [],
  written 40 pieces ends merges 3 ∷ written 39 pieces ends merges 3 ∷ written 100 pieces ends merges 5 ∷ [],
) (
  head
      ∷ (head ++ three)
      ∷ (head ++ three ++ (32 ∷ 97 ∷ 10 ∷ []))
      ∷ (head ++ (32 ∷ 10 ∷ []))
      ∷ [],
  Ok 40 ∷ Err (record {}) ∷ Err (record {}) ∷ [],
)
unfolding flat_map part little spell load loads numbers spell_all rise_to shaped piece_shape piece_count piece_start piece_length piece_at look_up piece_given
    version code_line left_of right_of line_of lines_of codes_text written
examples_hold = refl
