-- `census::count_word` meets its contract: the positions passed are reported, and those of the rest complete the word's.
use mathlib.Core.Path.{◌≡◌}
use Prim.Native.Nat.{◌+◌, ◌-◌, ◌≤◌}
use lib.ListN.{length}
use Rattle.cells.specs.Cells.{cells}
use Rattle.census.specs.Census.{Raising}
use Rattle.census.proofs.count_word.Given as goal

abbrev pub invariant-loop-i : goal.invariant-loop-i
invariant-loop-i l = (length l.room ≡ length l.initial.room)
    × (l.i ≤ l.at.length + 1)
    × Raising l.p l.k l.fn.n l.f l.at.start l.at.length (cells l.initial.room) (cells l.room) (l.at.start + l.i - 1) (l.at.length + 1 - l.i) l.m
