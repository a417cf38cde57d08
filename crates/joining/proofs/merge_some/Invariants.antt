-- `joining::merge_some` meets its contract: a frequency that was read before is the word's still when its turn comes.
use mathlib.Core.Path.{◌≡◌}
use Prim.Native.Nat.{◌+◌}
use lib.ListN.{length}
use Rattle.cells.specs.Cells.{cells}
use Rattle.states.specs.State as states
use Rattle.joining.specs.Visiting.{Weights, Visiting}
use Rattle.joining.proofs.merge_some.Given as goal

abbrev pub invariant-loop-j : goal.invariant-loop-j
invariant-loop-j l = (length l.room ≡ length l.initial.room)
    × (l.pair.key ≡ states.key l.rule.a l.rule.b)
    × (length l.fs ≡ 16)
    × Weights l.fn.begun.words l.pair.pairs l.pair.key l.i l.some (cells l.initial.room) l.fs
    × Visiting l.rule.a l.rule.b l.rule.x l.fn.begun.words l.pair.pairs l.pair.number l.i (l.i + l.j) l.now.touched l.now.words (cells l.initial.room) (cells l.room)
