-- `merge::merge_all` meets its contract: the first k words are rewritten.
use mathlib.Core.Path.{◌≡◌}
use lib.ListN.{length}
use Rattle.cells.specs.Cells.{cells}
use Rattle.merge.specs.Merging.{Merging}
use Rattle.merge.proofs.merge_all.Given as goal

abbrev pub invariant-loop-k : goal.invariant-loop-k
invariant-loop-k l = (length l.room ≡ length l.initial.room) × Merging l.rule.a l.rule.b l.rule.x l.fn.w l.k (cells l.initial.room) (cells l.room) l.v
