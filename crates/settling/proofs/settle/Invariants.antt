-- `settling::settle` meets its contract: the first j on the list are settled.
use mathlib.Core.Path.{◌≡◌}
use lib.ListN.{length}
use Rattle.cells.specs.Cells.{cells}
use Rattle.settling.specs.Settling.{CanSettle, Settling}
use Rattle.settling.proofs.settle.Given as goal

abbrev pub invariant-loop-j : goal.invariant-loop-j
invariant-loop-j l = (length l.room ≡ length l.initial.room)
    × CanSettle l.p l.q l.m l.n (cells l.initial.room)
    × Settling l.p l.q l.m l.n l.j (cells l.initial.room) (cells l.room) l.w
