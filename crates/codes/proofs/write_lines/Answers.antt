use borrow.Author.Rules.{rules}
use Rattle.codes.proofs.Laying.{going_start, going_can, going_turn, going_end}
use Rattle.codes.proofs.write_lines.Goals as goal

ruleset laws = (going_start, going_can, going_turn, going_end, rules)

pub write_line-at-requires : goal.write_line-at-requires
write_line-at-requires c = search laws

pub loop-i-preserved : goal.loop-i-preserved
loop-i-preserved c = search laws

pub returns : goal.returns
returns c = search laws
