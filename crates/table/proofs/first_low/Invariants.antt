-- `table::first_low` meets its contract: the whole answer is the answer from the k-th end on.
use mathlib.Core.Path.{◌≡◌}
use mathlib.Core.Bool.{true}
use Prim.Native.Nat.{◌≤◌}
use lib.ListN.{length}
use Rattle.rule.specs.Shapes.{rise_to}
use Rattle.rule.specs.Refusals.{misplaced}
use Rattle.vocab.specs.Places.{numbers_from}
use Rattle.table.specs.Answers.{first_place}
use Rattle.table.proofs.Order.{low_from}
use Rattle.table.proofs.first_low.Given as goal

abbrev pub invariant-loop-k : goal.invariant-loop-k
invariant-loop-k l = (l.from ≤ l.to)
    × (rise_to (length l.words) l.to (numbers_from 4 l.ends l.k) ≡ true)
    × (first_place (misplaced l.words l.ends) ≡ low_from l.words l.from l.to l.ends l.k)
