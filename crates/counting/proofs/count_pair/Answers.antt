use borrow.Author.Rules.{rules}
use Rattle.counting.proofs.Counts.{sum_start, sum-turn, sum_end}
use Rattle.counting.proofs.count_pair.Goals as goal

ruleset laws = (sum_start, sum-turn, sum_end, rules)

pub loop-k-preserved : goal.loop-k-preserved
loop-k-preserved c = search laws

pub returns : goal.returns
returns c = search laws
