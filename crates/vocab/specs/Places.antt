-- The numbers of a run, from a place on.
use Rattle.std.specs.Prelude.{List, ℕ, drop}
use Rattle.numbers.specs.Little.{numbers}

-- the numbers of w bytes that a run holds, from the i-th on
unfoldable pub numbers_from : ℕ → List ℕ → ℕ → List ℕ
numbers_from w xs i = drop i (numbers w xs)
