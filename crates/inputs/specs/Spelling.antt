-- Bytes that a text spells in hexadecimal digits, two for each.
use Rattle.std.specs.Prelude.{List, ℕ, cond, ◌&&◌, leb, ◌+◌, ◌-◌, ◌*◌, slice_index}

-- the value of a digit, `0` (48) to `9` or `a` (97) to `f`: 0 of any other byte
abbrev pub digit_of : ℕ → ℕ
digit_of b = cond (leb 48 b && leb b 57) (b - 48) (cond (leb 97 b && leb b 102) (b - 87) 0)

-- the k-th byte that a line spells
abbrev pub byte_of : List ℕ → ℕ → ℕ
byte_of line k = digit_of (slice_index line (2 * k)) * 16 + digit_of (slice_index line (2 * k + 1))
