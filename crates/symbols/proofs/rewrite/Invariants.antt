-- `symbols::rewrite` meets its contract: of both runs the front is written, and what is to come is the definitions at the rest of the word.
use Prim.Native.Nat.{◌/◌, ◌-◌}
use lib.ListN.{length}
use Rattle.symbols.specs.Merging.{Going}
use Rattle.symbols.proofs.rewrite.Given as goal

abbrev pub invariant-loop-i : goal.invariant-loop-i
invariant-loop-i l = Going l.rule.a l.rule.b l.rule.x l.initial.symbols l.initial.changes l.symbols l.changes l.i l.kept l.at l.last

abbrev pub decreases-loop-i : goal.decreases-loop-i
decreases-loop-i l = length l.initial.symbols / 4 - l.i
