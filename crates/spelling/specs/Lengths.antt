-- The length of a spelling before it is written.
use Rattle.std.specs.Prelude.{List, ℕ, ◌+◌, length}
use Rattle.rule.specs.Spelling.{strip_prefix}

-- WHAT IS MEASURED of two spellings joined, of which the left one is so long: "the left spelling, then the right one without one leading prefix if it has it"
abbrev pub joined_length : ℕ → List ℕ → List ℕ → ℕ
joined_length left prefix right = left + length (strip_prefix prefix right)
