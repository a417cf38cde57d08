use borrow.Author.Rules.{rules}
use Rattle.recount.proofs.Scanning.{nothing-weighed, choose_start, choose-turn, choose_end}
use Rattle.recount.proofs.next_merge.Goals as goal

ruleset laws = (nothing-weighed, choose_start, choose-turn, choose_end, rules)

pub loop-k-init : goal.loop-k-init
loop-k-init c = search laws

pub loop-k-preserved : goal.loop-k-preserved
loop-k-preserved c = search laws

pub returns : goal.returns
returns c = search laws
