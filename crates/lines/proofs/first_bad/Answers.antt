use borrow.Author.Rules.{rules}
use Rattle.lines.proofs.Cuts.{count_start, count-turn, bad_start, bad_out, bad_turn, bad_end}
use Rattle.lines.proofs.first_bad.Goals as goal

ruleset laws = (count_start, count-turn, bad_start, bad_out, bad_turn, bad_end, rules)

pub loop-at-init : goal.loop-at-init
loop-at-init c = search laws

pub returns-then-not-is_well_formed-clause-sought : goal.returns-then-not-is_well_formed-clause-sought
returns-then-not-is_well_formed-clause-sought c = search laws

pub loop-at-preserved : goal.loop-at-preserved
loop-at-preserved c = search laws

pub returns-clause-sought : goal.returns-clause-sought
returns-clause-sought c = search laws
