use borrow.Author.Rules.{rules}
use Rattle.runs.proofs.Copying.{copying_start, copying_turn, copying_end}
use Rattle.runs.proofs.copy.Goals as goal

ruleset laws = (copying_start, copying_turn, copying_end, rules)

pub loop-k-init : goal.loop-k-init
loop-k-init c = search laws

pub loop-k-preserved : goal.loop-k-preserved
loop-k-preserved c = search laws

pub returns : goal.returns
returns c = search laws
