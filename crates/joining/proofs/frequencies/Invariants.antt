-- `joining::frequencies` meets its contract.
use mathlib.Core.Path.{◌≡◌}
use lib.ListN.{length}
use Rattle.cells.specs.Cells.{cells}
use Rattle.joining.specs.Visiting.{Weights}
use Rattle.joining.proofs.frequencies.Given as goal

abbrev pub invariant-loop-j : goal.invariant-loop-j
invariant-loop-j l = (length l.fs ≡ 16) × Weights l.w l.pair.pairs l.pair.key l.i l.j (cells l.room) l.fs
