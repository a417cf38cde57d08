use borrow.Author.Rules.{rules}
use Rattle.symbols.proofs.Passes.{count_start, count-turn, count_end}
use Rattle.symbols.proofs.count_reports.Goals as goal

ruleset laws = (count_start, count-turn, count_end, rules)

pub loop-i-init : goal.loop-i-init
loop-i-init c = search laws

pub loop-i-preserved : goal.loop-i-preserved
loop-i-preserved c = search laws

pub returns : goal.returns
returns c = search laws
