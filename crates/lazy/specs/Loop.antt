-- What holds between two turns of a loop that runs the lazy rule.
use Rattle.std.specs.Prelude.{◌≡◌, List, ◌++◌, ℕ, ◌+◌, ◌*◌, ◌≤◌, length}
use Rattle.rule.specs.Table.{Task}
use Rattle.rule.specs.Seeding.{Entry}
use Rattle.rule.specs.Sums.{in_use}
use Rattle.rule.specs.Training.{Choice, Merge}
use Rattle.lazy.specs.Lazy.{Took, lazy}
use Rattle.lazy.specs.Sums.{potential}
use Rattle.lazy.specs.Invariant.{Inv}

-- merges and entries of before, put before those of a run
unfoldable pub grown : List Merge → ℕ → Took → Took
grown ms c r = record { merges = ms ++ r.merges; taken = c + r.taken }

-- k counts down from five times the symbols; n counts the merges that there is still room for; ms and c are the merges made and the entries taken; u
-- is the symbols at the start
pub record Loop (t : Task) (u : ℕ) (whole : Took) (k n : ℕ) (ps : List (List ℕ)) (es : List Entry) (qu : List Choice) (ms : List Merge) (c : ℕ) : Type 0 where
  pub is : whole ≡ grown ms c (lazy t k n ps es qu)
  pub inv : Inv t ps es qu
  pub fuel : potential es qu ≤ k
  pub few : length qu + 2 * in_use es ≤ 3 * u
