-- Document 01, "The demonstration program": what is read. "lines of a non-empty word without a space, one space, 1 to 18 decimal digits, LF".
use Rattle.std.specs.Prelude.{Bool, cond, not, ◌&&◌, ◌||◌, List, [], ◌∷◌, ◌++◌, map, ℕ, ◌+◌, ◌-◌, ◌*◌, eqb, ltb, leb, length, drop}
use Rattle.order.specs.Order.{same}
use Rattle.rule.specs.Shapes.{first}

-- a byte put before the first line
unfoldable pub ahead : ℕ → List (List ℕ) → List (List ℕ)
ahead b [] = (b ∷ []) ∷ []
ahead b (l ∷ ls) = (b ∷ l) ∷ ls

-- THE LINES of a text, each with its LF (10): "A last line without LF counts as one"
unfoldable pub lines : List ℕ → List (List ℕ)
lines [] = []
lines (b ∷ bs) = cond (eqb b 10) ((b ∷ []) ∷ lines bs) (ahead b (lines bs))

-- the bytes in front of the first one that is `byte`, all where none is
unfoldable pub before : ℕ → List ℕ → List ℕ
before byte [] = []
before byte (b ∷ bs) = cond (eqb b byte) [] (b ∷ before byte bs)

-- "decimal digits": `0` (48) to `9` (57)
unfoldable pub is_digit : ℕ → Bool
is_digit b = leb 48 b && leb b 57

-- the digits that some bytes begin with
unfoldable pub digits : List ℕ → List ℕ
digits [] = []
digits (b ∷ bs) = cond (is_digit b) (b ∷ digits bs) []

-- what they come to, behind digits that come to v
unfoldable pub decimal : ℕ → List ℕ → ℕ
decimal v [] = v
decimal v (d ∷ ds) = decimal (v * 10 + (d - 48)) ds

-- a line's "word without a space": what stands before its first space (32)
unfoldable pub word_of : List ℕ → List ℕ
word_of line = before 32 line

-- the digits right behind that space
unfoldable pub digits_of : List ℕ → List ℕ
digits_of line = digits (drop (length (word_of line) + 1) line)

-- the number that they are
unfoldable pub frequency_of : List ℕ → ℕ
frequency_of line = decimal 0 (digits_of line)

-- "a non-empty word without a space, one space, 1 to 18 decimal digits, LF"
unfoldable pub well_formed : List ℕ → Bool
well_formed line =
    leb 1 (length (word_of line))
    && (leb 1 (length (digits_of line))
    && (leb (length (digits_of line)) 18
    && same line (word_of line ++ (32 ∷ (digits_of line ++ (10 ∷ []))))))

-- "Over 1,024 bytes or 64 lines"
unfoldable pub too_long : List ℕ → Bool
too_long text = ltb 1024 (length text) || ltb 64 (length (lines text))

-- the place of "the first malformed line" among some lines, from 0; their number where none is
unfoldable pub bad_among : List (List ℕ) → ℕ
bad_among ls = first (map (λ l. not (well_formed l)) ls)

-- of a text
unfoldable pub first_bad : List ℕ → ℕ
first_bad text = bad_among (lines text)
