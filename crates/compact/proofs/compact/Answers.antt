use borrow.Author.Rules.{rules}
use Rattle.compact.proofs.Sliding.{sliding_start, sliding_low, sliding_down, sliding_turn, sliding_end}
use Rattle.compact.proofs.compact.Goals as goal

ruleset laws = (sliding_start, sliding_low, sliding_down, sliding_turn, sliding_end, rules)

pub loop-k-init : goal.loop-k-init
loop-k-init c = search laws

pub loop-k-preserved : goal.loop-k-preserved
loop-k-preserved c = search laws

pub returns : goal.returns
returns c = search laws
