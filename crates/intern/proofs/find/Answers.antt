use borrow.Author.Rules.{rules}
use Rattle.intern.proofs.Interning.{home_lt, find_start, find_vacant, find_at, find_next, find_none, slot_number}
use Rattle.intern.proofs.find.Goals as goal

ruleset laws = (home_lt, find_start, find_vacant, find_at, find_next, find_none, slot_number, rules)

pub loop-init : goal.loop-init
loop-init c = search laws

pub returns-then-x-eq0 : goal.returns-then-x-eq0
returns-then-x-eq0 c = search laws

pub returns-then-is_spelled : goal.returns-then-is_spelled
returns-then-is_spelled c = search laws

pub loop-preserved : goal.loop-preserved
loop-preserved c = search laws

pub returns : goal.returns
returns c = search laws
