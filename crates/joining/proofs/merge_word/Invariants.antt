-- `joining::merge_word` meets its contract: the states follow what is written and what is still to be read as one word.
use mathlib.Core.Path.{◌≡◌}
use lib.ListN.{length}
use Rattle.cells.specs.Cells.{cells}
use Rattle.joining.specs.Running.{Running}
use Rattle.joining.proofs.merge_word.Given as goal

abbrev pub invariant-loop-left : goal.invariant-loop-left
invariant-loop-left l = (length l.room ≡ length l.initial.room)
    × Running l.rule.a l.rule.b l.rule.x l.now.words l.p l.k l.now.touched l.here.start l.here.length l.f l.kept l.at l.left l.m l.previous (cells l.initial.room) (cells l.room)

abbrev pub decreases-loop-left : goal.decreases-loop-left
decreases-loop-left l = l.left
