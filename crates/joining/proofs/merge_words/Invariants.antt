-- `joining::merge_words` meets its contract: the words of the list that are visited hold the pair no more, and no other word does.
use mathlib.Core.Path.{◌≡◌}
use Prim.Native.Nat.{◌-◌, ◌≤◌}
use lib.ListN.{length}
use Rattle.cells.specs.Cells.{cells}
use Rattle.states.specs.State as states
use Rattle.pairs.specs.View.{state}
use Rattle.joining.specs.Visiting.{Visiting}
use Rattle.joining.proofs.merge_words.Given as goal

abbrev pub invariant-loop-i : goal.invariant-loop-i
invariant-loop-i l = (length l.room ≡ length l.initial.room)
    × (l.many ≡ length (state l.fn.p (cells l.initial.room) (states.key l.rule.a l.rule.b)).words)
    × (l.i ≤ l.many)
    × Visiting l.rule.a l.rule.b l.rule.x l.fn.w l.fn.p l.fn.r 0 l.i l.now.touched l.now.words (cells l.initial.room) (cells l.room)

abbrev pub decreases-loop-i : goal.decreases-loop-i
decreases-loop-i l = l.many - l.i
