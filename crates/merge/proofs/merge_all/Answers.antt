use borrow.Author.Rules.{rules}
use Rattle.merge.proofs.Merging.{merging_start, merging_turn, merging_end}
use Rattle.merge.proofs.merge_all.Goals as goal

ruleset laws = (merging_start, merging_turn, merging_end, rules)

pub loop-k-init : goal.loop-k-init
loop-k-init c = search laws

pub loop-k-preserved : goal.loop-k-preserved
loop-k-preserved c = search laws

pub returns : goal.returns
returns c = search laws
