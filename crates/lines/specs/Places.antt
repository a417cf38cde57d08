-- What a pass over a text carries: places in it, and the lines that are still to come.
use Rattle.std.specs.Prelude.{◌≡◌, true, List, ◌∷◌, ℕ, ◌+◌, ◌-◌, ◌*◌, ◌^◌, ◌<◌, ◌≤◌, length, take, drop, Option, MatchOption}
use Rattle.runs.specs.Parts.{laid}
use Rattle.numbers.specs.Little.{store}
use Rattle.lines.specs.Lines.{lines, before, digits, decimal, word_of, frequency_of, well_formed, bad_among}
use Rattle.lines.specs.Table.{word_bytes, end_bytes, frequency_bytes}

-- where the first `byte` from a place on stands, the end where none does
unfoldable pub place_of : ℕ → List ℕ → ℕ → ℕ
place_of byte run i = i + length (before byte (drop i run))

-- where the digits from a place on end
unfoldable pub digits_end : List ℕ → ℕ → ℕ
digits_end run i = i + length (digits (drop i run))

-- what the digits from a place on come to, behind digits that come to v
unfoldable pub value_at : List ℕ → ℕ → ℕ → ℕ
value_at run v i = decimal v (digits (drop i run))

-- it has 18 digits at most with those that come to v
unfoldable pub Fits : List ℕ → ℕ → ℕ → Type 0
Fits run v i = (v + 1) * 10 ^ length (digits (drop i run)) ≤ 10 ^ 18

-- the lines from a place on, where one begins
unfoldable pub lines_from : List ℕ → ℕ → List (List ℕ)
lines_from text at = lines (drop at text)

-- the place of the first of n that is sought, if there is one: it is `at`, and without one `at` is n
unfoldable pub Sought : Option ℕ → ℕ → ℕ → Type 0
Sought r at n = MatchOption r (n ≤ at) (λ i. (i ≡ at) × (i < n))

-- the line at `at` goes to r
pub record Line (text : List ℕ) (at r : ℕ) : Type 0 where
  pub cut : lines_from text at ≡ take (r - at) (drop at text) ∷ lines_from text r
  pub later : at < r
  pub inside : r ≤ length text

-- A LINE OF THE TABLE, number n, with `used` bytes of words before it: it can be written
pub record CanWrite (line : List ℕ) (n used words ends frequencies : ℕ) : Type 0 where
  pub good : well_formed line ≡ true
  pub word : used + length (word_of line) ≤ words
  pub small : used + length (word_of line) ≤ 1024
  pub end : n * 4 + 4 ≤ ends
  pub frequency : n * 8 + 8 ≤ frequencies

-- and it is; r are the bytes of words then
pub record Wrote (line : List ℕ) (n used r : ℕ) (w e f w' e' f' : List ℕ) : Type 0 where
  pub word : w' ≡ laid w used (word_of line)
  pub end : e' ≡ store 4 e (n * 4) (used + length (word_of line))
  pub frequency : f' ≡ store 8 f (n * 8) (frequency_of line)
  pub behind : r ≡ used + length (word_of line)

-- THE TABLE of the lines `all`, of which `ls` are still to be written: what is there, with the rest laid behind it, is the whole
pub record Going (all ls : List (List ℕ)) (w e f : List ℕ) (n used : ℕ) (w' e' f' : List ℕ) : Type 0 where
  pub words : laid w 0 (word_bytes all) ≡ laid w' used (word_bytes ls)
  pub ends : laid e 0 (end_bytes 0 all) ≡ laid e' (n * 4) (end_bytes used ls)
  pub frequencies : laid f 0 (frequency_bytes all) ≡ laid f' (n * 8) (frequency_bytes ls)
  pub bytes : used + length (word_bytes ls) ≡ length (word_bytes all)
  pub small : length (word_bytes all) ≤ 1024
  pub few : n + length ls ≤ 64
  pub good : length ls ≤ bad_among ls
  pub word_room : 1024 ≤ length w'
  pub end_room : 256 ≤ length e'
  pub frequency_room : 512 ≤ length f'
  pub word_long : length w' ≡ length w
  pub end_long : length e' ≡ length e
  pub frequency_long : length f' ≡ length f
