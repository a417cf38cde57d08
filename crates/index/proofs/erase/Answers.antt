-- `index::erase` meets its contract: a key with a value is found, and its value is 0 then.
use borrow.Author.Rules.{rules}
use Rattle.index.proofs.Changes.{found_at, erase_pos, erased_at, erased_vacant, erased_full}
use Rattle.index.proofs.erase.Goals as goal

ruleset laws = (found_at, erase_pos, erased_at, erased_vacant, erased_full, rules)

pub put_value-requires : goal.put_value-requires
put_value-requires c = search laws

pub returns-in-Vacant : goal.returns-in-Vacant
returns-in-Vacant c = search laws

pub returns-in-Full : goal.returns-in-Full
returns-in-Full c = search laws
