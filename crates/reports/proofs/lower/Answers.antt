-- `reports::lower` meets its contract: a count and a touch of the record that the pair has.
use borrow.Author.Rules.{rules}
use Rattle.reports.proofs.Changes.{lower_find, lower_some, lower_has, lower_enough, lower-touch, lower_done}
use Rattle.reports.proofs.lower.Goals as goal

ruleset laws = (lower_enough, lower-touch, lower_done, rules)

pub find-requires : goal.find-requires
find-requires c = lower_find c.requires c.key-k.ensures

pub unwrap-requires : goal.unwrap-requires
unwrap-requires c = lower_some c.requires c.key-k.ensures _ c.find.ensures

pub count-c-requires : goal.count-c-requires
count-c-requires c = lower_has c.requires c.key-k.ensures _ c.find.ensures _ c.unwrap.ensures

pub set_count-requires : goal.set_count-requires
set_count-requires c = lower_has c.requires c.key-k.ensures _ c.find.ensures _ c.unwrap.ensures

pub returns : goal.returns
returns c = search laws
