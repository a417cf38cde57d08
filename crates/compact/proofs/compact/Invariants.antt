-- `compact::compact` meets its contract: the first k words lie without gaps, and the others above them.
use mathlib.Core.Path.{◌≡◌}
use lib.ListN.{length}
use Rattle.cells.specs.Cells.{cells}
use Rattle.compact.specs.Compacting.{Sliding}
use Rattle.compact.proofs.compact.Given as goal

abbrev pub invariant-loop-k : goal.invariant-loop-k
invariant-loop-k l = (length l.room ≡ length l.initial.room) × Sliding l.fn.w l.k l.to (cells l.initial.room) (cells l.room)
