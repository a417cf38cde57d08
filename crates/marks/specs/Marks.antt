-- The marks of a pair as the binary digits of one number, the lowest at the place 0.
use Rattle.std.specs.Prelude.{Bool, cond, ℕ, zero, suc, ◌+◌, ◌*◌, ◌/◌, ◌%◌, eqb}

-- "The marks touched, gained and blocked share one number in a pair's record": the place of each
abbrev pub touched : ℕ
touched = 0

abbrev pub gained : ℕ
gained = 1

abbrev pub blocked : ℕ
blocked = 2

-- "test each mark": whether the digit at a place is 1
unfoldable pub marked : ℕ → ℕ → Bool
marked zero m = eqb (m % 2) 1
marked (suc k) m = marked k (m / 2)

-- "set, clear .. each mark": the number with the digit at a place made 1 or 0, and every other digit as it is
unfoldable pub marking : ℕ → Bool → ℕ → ℕ
marking zero b m = m / 2 * 2 + cond b 1 0
marking (suc k) b m = marking k b (m / 2) * 2 + m % 2
