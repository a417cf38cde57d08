-- What the trainer writes, in bytes. How a piece's spelling is written and read is here, and nowhere else.
use Rattle.std.specs.Prelude.{Bool, ℕ, ◌-◌, ◌/◌, length, get_or}
use mathlib.Core.List.{List, ◌∷◌, ◌++◌, map, flat_map}
use Rattle.runs.specs.Parts.{part}
use Rattle.numbers.specs.Little.{spell, numbers}
use Rattle.rule.specs.Shapes.{spell_all, ends_from, shaped}
use Rattle.rule.specs.Training.{Merge}

-- HOW PIECES ARE WRITTEN: "piece bytes"
unfoldable pub piece_bytes : List (List ℕ) → List ℕ
piece_bytes ps = flat_map (λ p. p) ps

-- "piece ends (4 bytes)"
unfoldable pub piece_records : List (List ℕ) → List ℕ
piece_records ps = spell_all 4 (ends_from 0 ps)

-- HOW A PIECE IS READ: "the same shape rules"
unfoldable pub piece_shape : List ℕ → List ℕ → Bool
piece_shape bytes records = shaped bytes records

-- how many there are
unfoldable pub piece_count : List ℕ → ℕ
piece_count records = length records / 4

-- a piece starts at the end before it, the first at 0
unfoldable pub piece_start : List ℕ → ℕ → ℕ
piece_start records n = get_or (0 ∷ numbers 4 records) n 0

-- and goes to its own
unfoldable pub piece_length : List ℕ → ℕ → ℕ
piece_length records n = get_or (numbers 4 records) n 0 - piece_start records n

-- its spelling: the part of the bytes there
unfoldable pub piece_at : List ℕ → List ℕ → ℕ → List ℕ
piece_at bytes records n = part (piece_start records n) (piece_length records n) bytes

-- "merges (left then right number, 4 bytes each)"
unfoldable pub merge_bytes : List Merge → List ℕ
merge_bytes ms = flat_map (λ m. spell 4 m.left ++ spell 4 m.right) ms

-- "savings (8 bytes, one for each merge)"
unfoldable pub saving_bytes : List Merge → List ℕ
saving_bytes ms = spell_all 8 (map (λ m. m.saved) ms)
