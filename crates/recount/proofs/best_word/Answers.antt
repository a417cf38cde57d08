use borrow.Author.Rules.{rules}
use Rattle.recount.proofs.Scanning.{under_before, under_this, under_more, under_start, scan_start, scan_turn, scan_end}
use Rattle.recount.proofs.best_word.Goals as goal

ruleset laws = (under_before, under_this, under_more, under_start, scan_start, scan_turn, scan_end, rules)

pub loop-i-init : goal.loop-i-init
loop-i-init c = search laws

pub try_pair-d-requires-clause-s_lt_count : goal.try_pair-d-requires-clause-s_lt_count
try_pair-d-requires-clause-s_lt_count c = search laws

pub loop-i-preserved : goal.loop-i-preserved
loop-i-preserved c = search laws

pub returns : goal.returns
returns c = search laws
