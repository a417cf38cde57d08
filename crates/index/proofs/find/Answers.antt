use borrow.Author.Rules.{rules}
use Rattle.index.proofs.Slots.{find_start, find_at, find_vacant, find_next, find_none}
use Rattle.index.proofs.find.Goals as goal

ruleset laws = (find_start, find_at, find_vacant, find_next, find_none, rules)

pub loop-init : goal.loop-init
loop-init c = search laws

pub returns-then-x-key : goal.returns-then-x-key
returns-then-x-key c = search laws

pub returns-then-x-eq0 : goal.returns-then-x-eq0
returns-then-x-eq0 c = search laws

pub loop-preserved : goal.loop-preserved
loop-preserved c = search laws

pub returns : goal.returns
returns c = search laws
