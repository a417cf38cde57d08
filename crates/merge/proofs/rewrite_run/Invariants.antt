-- `merge::rewrite_run` meets its contract: what is written, and what rewriting the rest gives, is what rewriting the whole gives.
use mathlib.Core.Path.{◌≡◌}
use lib.ListN.{length}
use Rattle.cells.specs.Cells.{cells}
use Rattle.merge.specs.Cells.{Run}
use Rattle.merge.proofs.rewrite_run.Given as goal

abbrev pub invariant-loop-left : goal.invariant-loop-left
invariant-loop-left l = (length l.room ≡ length l.initial.room) × Run l.rule.a l.rule.b l.rule.x l.start l.n l.kept l.at l.left (cells l.initial.room) (cells l.room)

abbrev pub decreases-loop-left : goal.decreases-loop-left
decreases-loop-left l = l.left
