use borrow.Author.Rules.{rules}
use Rattle.settling.proofs.Loop.{settle_start, settle_can, settle_turn, settle_end}
use Rattle.settling.proofs.settle.Goals as goal

ruleset laws = (settle_start, settle_can, settle_turn, settle_end, rules)

pub loop-j-init : goal.loop-j-init
loop-j-init c = search laws

pub settle_one-w-requires : goal.settle_one-w-requires
settle_one-w-requires c = search laws

pub loop-j-preserved : goal.loop-j-preserved
loop-j-preserved c = search laws

pub returns : goal.returns
returns c = search laws
