-- What writing a text of codes answers, and what is in the lent run then.
use Rattle.std.specs.Prelude.{◌≡◌, cond, ◌||◌, List, ℕ, ◌+◌, ◌-◌, ◌*◌, ◌≤◌, ltb, length, Result, Ok, Err}
use Rattle.runs.specs.Parts.{laid}
use Rattle.codes.specs.Codes.{lines_of, codes_text}
use Rattle.error.specs.declared.NoRoom.{NoRoom}

-- there are fewer merges than asked for, or the text has no room
unfoldable pub written : ℕ → List ℕ → List ℕ → List ℕ → ℕ → Result ℕ NoRoom
written room pieces ends merges count =
    cond (ltb (length merges) (count * 8) || ltb room (length (codes_text pieces ends merges count))) (Err (record {})) (
    Ok (length (codes_text pieces ends merges count)))

-- what an answer leaves of the run
unfoldable pub leaves : Result ℕ NoRoom → List ℕ → List ℕ → List ℕ
leaves (Ok n) was new = laid was 0 new
leaves (Err e) was new = was

-- the answer r, and the run before and after it
pub record Wrote (out : List ℕ) (pieces ends merges : List ℕ) (count : ℕ) (r : Result ℕ NoRoom) (out' : List ℕ) : Type 0 where
  pub is : r ≡ written (length out) pieces ends merges count
  pub run : out' ≡ leaves r out (codes_text pieces ends merges count)

-- THE LOOPS: the lines from the i-th on that are still to come
unfoldable pub lines_to : List ℕ → List ℕ → List ℕ → ℕ → ℕ → List ℕ
lines_to pieces ends merges count i = lines_of pieces ends merges i (count - i)

-- `new` at a place of a run, and r the place behind it
pub record Placed (was is-now : List ℕ) (at : ℕ) (new : List ℕ) (r : ℕ) : Type 0 where
  pub is : is-now ≡ laid was at new
  pub behind : r ≡ at + length new

-- what is written of `new` from a place on, with `rest` laid behind it, is the whole
pub record Going (was is-now : List ℕ) (from at : ℕ) (new rest : List ℕ) : Type 0 where
  pub is : laid was from new ≡ laid is-now at rest
  pub behind : at + length rest ≡ from + length new
  pub room : at + length rest ≤ length is-now
  pub long : length is-now ≡ length was
