-- `census::count_pairs` meets its contract: the words before k are counted.
use mathlib.Core.Path.{◌≡◌}
use lib.ListN.{length}
use Rattle.cells.specs.Cells.{cells}
use Rattle.census.specs.Census.{CanCount, Counting}
use Rattle.census.proofs.count_pairs.Given as goal

abbrev pub invariant-loop-k : goal.invariant-loop-k
invariant-loop-k l = (length l.room ≡ length l.initial.room)
    × CanCount l.w l.p (cells l.initial.room)
    × Counting l.w l.p l.k (cells l.initial.room) (cells l.room) l.n
