use borrow.Author.Rules.{rules}
use Rattle.lines.proofs.Cuts.{count_start, count-turn, count_end}
use Rattle.lines.proofs.count_lines.Goals as goal

ruleset laws = (count_start, count-turn, count_end, rules)

pub loop-at-init : goal.loop-at-init
loop-at-init c = search laws

pub returns : goal.returns
returns c = search laws
