-- `lists::load` meets its contract: five fields, the count and the marks are the state by value.
use borrow.Author.Rules.{rules}
use Rattle.fields.proofs.Fields.{has_get}
use Rattle.lists.proofs.Reading.{loaded}
use Rattle.lists.proofs.load.Goals as goal

ruleset laws = (has_get, loaded, rules)

pub get-n-requires : goal.get-n-requires
get-n-requires c = search laws

pub get-a-requires : goal.get-a-requires
get-a-requires c = search laws

pub get-b-requires : goal.get-b-requires
get-b-requires c = search laws

pub get-c-requires : goal.get-c-requires
get-c-requires c = search laws

pub get-d-requires : goal.get-d-requires
get-d-requires c = search laws

pub returns : goal.returns
returns c = search laws
