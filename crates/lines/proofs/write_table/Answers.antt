use borrow.Author.Rules.{rules}
use Rattle.lines.proofs.Writing.{going_start, going_can, going_turn, going_end}
use Rattle.lines.proofs.write_table.Goals as goal

ruleset laws = (going_start, going_can, going_turn, going_end, rules)

pub loop-at-init : goal.loop-at-init
loop-at-init c = search laws

pub write_line-used-requires : goal.write_line-used-requires
write_line-used-requires c = search laws

pub loop-at-preserved : goal.loop-at-preserved
loop-at-preserved c = search laws

pub returns : goal.returns
returns c = search laws
