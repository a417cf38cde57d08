-- `index::insert` meets its contract: a key keeps its slot, or takes the vacant one where its lookup ends.
use borrow.Author.Rules.{rules}
use Rattle.index.proofs.Changes.{found_at, found_vacant, inserted_at, inserted_new, inserted_full}
use Rattle.index.proofs.insert.Goals as goal

ruleset laws = (found_at, found_vacant, inserted_at, inserted_new, inserted_full, rules)

pub put_value-requires : goal.put_value-requires
put_value-requires c = search laws

pub put_key-requires : goal.put_key-requires
put_key-requires c = search laws

pub returns-in-Full : goal.returns-in-Full
returns-in-Full c = search laws
