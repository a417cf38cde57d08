-- A spelling written into a run.
use Rattle.std.specs.Prelude.{◌≡◌, List, ℕ, ◌+◌, length}
use Rattle.runs.specs.Parts.{laid}

-- the spelling `new` of n bytes at a place of a run, and r the place behind it
pub record Written (was is-now : List ℕ) (at : ℕ) (new : List ℕ) (n r : ℕ) : Type 0 where
  pub is : is-now ≡ laid was at new
  pub long : length new ≡ n
  pub behind : r ≡ at + n
