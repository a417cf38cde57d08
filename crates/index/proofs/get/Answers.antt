-- `index::get` meets its contract: a key that is not found has no value.
use borrow.Author.Rules.{rules}
use Rattle.index.proofs.Changes.{found_at, get_vacant, get_full}
use Rattle.index.proofs.get.Goals as goal

ruleset laws = (found_at, get_vacant, get_full, rules)

pub value_in-requires : goal.value_in-requires
value_in-requires c = search laws

pub returns-in-Vacant : goal.returns-in-Vacant
returns-in-Vacant c = search laws

pub returns-in-Full : goal.returns-in-Full
returns-in-Full c = search laws
