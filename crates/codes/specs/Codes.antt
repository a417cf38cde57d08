-- Document 01, "The demonstration program": what is written. "the codes layout published with subword-nmt: `#version: 0.2`, then a line per merge, left and
-- right spelling with a space between, LF after each line".
use mathlib.Core.List.{List, [], ◌∷◌, ◌++◌, flat_map}
use Rattle.std.specs.Prelude.{ℕ, zero, suc, ◌+◌, ◌*◌, get_or}
use Rattle.numbers.specs.Little.{load}
use Rattle.rule.specs.Training.{Merge}
use Rattle.vocab.specs.Reading.{piece_given}

-- "`#version: 0.2`"
unfoldable pub version : List ℕ
version = 35 ∷ 118 ∷ 101 ∷ 114 ∷ 115 ∷ 105 ∷ 111 ∷ 110 ∷ 58 ∷ 32 ∷ 48 ∷ 46 ∷ 50 ∷ []

-- "left and right spelling with a space between, LF after each line"
unfoldable pub code_line : List ℕ → List ℕ → List ℕ
code_line left right = left ++ (32 ∷ (right ++ (10 ∷ [])))

-- "merges (left then right number, 4 bytes each)": the two numbers of the i-th
unfoldable pub left_of : List ℕ → ℕ → ℕ
left_of merges i = load 4 merges (i * 8)

unfoldable pub right_of : List ℕ → ℕ → ℕ
right_of merges i = load 4 merges (i * 8 + 4)

-- the line of the i-th merge; a number that has no piece has an empty spelling
unfoldable pub line_of : List ℕ → List ℕ → List ℕ → ℕ → List ℕ
line_of pieces ends merges i = code_line (piece_given pieces ends (left_of merges i)) (piece_given pieces ends (right_of merges i))

-- the lines of n merges from the i-th on
unfoldable pub lines_of : List ℕ → List ℕ → List ℕ → ℕ → ℕ → List ℕ
lines_of pieces ends merges i zero = []
lines_of pieces ends merges i (suc n) = line_of pieces ends merges i ++ lines_of pieces ends merges (suc i) n

-- THE TEXT of the first `count` merges
unfoldable pub codes_text : List ℕ → List ℕ → List ℕ → ℕ → List ℕ
codes_text pieces ends merges count = version ++ (10 ∷ lines_of pieces ends merges 0 count)

-- the same lines, of pieces and merges before they are bytes
unfoldable pub merge_lines : List (List ℕ) → List Merge → List ℕ
merge_lines ps ms = flat_map (λ m. code_line (get_or ps m.left []) (get_or ps m.right [])) ms
