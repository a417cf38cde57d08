-- `choosing::next_merge` meets its contract: a run of turns, of which each takes one away.
use mathlib.Core.Path.{◌≡◌}
use Prim.Native.Nat.{◌≤◌}
use lib.ListN.{length}
use Rattle.cells.specs.Cells.{cells}
use Rattle.intern.specs.Pieces.{Held}
use Rattle.intern.specs.Pieces as rooms
use Rattle.choosing.specs.Turns.{Run}
use Rattle.choosing.proofs.next_merge.Given as goal

abbrev pub invariant-loop-h : goal.invariant-loop-h
invariant-loop-h l = (length l.room ≡ length l.initial.room)
    × (1 ≤ l.least)
    × Held l.p.filled.count l.p.filled.used l.p.bytes.now l.p.ends.now
    × Run l.initial.h l.p.filled.count l.prefix l.limit (rooms.pieces l.p.bytes.now l.p.ends.now l.p.filled.count) (cells l.initial.room) l.h (cells l.room)

abbrev pub decreases-loop-h : goal.decreases-loop-h
decreases-loop-h l = l.h.turns
