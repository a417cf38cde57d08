-- `counting::count_in` meets its contract: the positions passed, and those of the rest, are those of the whole.
use mathlib.Core.Path.{◌≡◌}
use Prim.Native.Nat.{◌+◌, ◌-◌, ◌^◌, ◌≤◌, ◌<◌}
use lib.ListN.{length}
use Rattle.cells.specs.Cells.{cells}
use Rattle.rule.specs.Rewriting.{count_in}
use Rattle.word.specs.Layout.{symbols_at}
use Rattle.counting.proofs.count_in.Given as goal

abbrev pub invariant-loop-i : goal.invariant-loop-i
invariant-loop-i l = (l.fn.at.start + l.fn.at.length ≤ length (cells l.fn.room))
    × (length (cells l.fn.room) < 2 ^ 61)
    × (l.i ≤ l.fn.at.length + 1)
    × (l.hits + 1 ≤ l.i)
    × (count_in l.fn.p l.fn.q (symbols_at l.fn.at.start l.fn.at.length (cells l.fn.room))
    ≡ l.hits + count_in l.fn.p l.fn.q (symbols_at (l.fn.at.start + l.i - 1) (l.fn.at.length + 1 - l.i) (cells l.fn.room)))
