-- `fields::count` meets its contract: the count is a field of the pair's record.
use borrow.Author.Rules.{rules}
use Rattle.fields.proofs.Fields.{has_get, count_is}
use Rattle.fields.proofs.count.Goals as goal

ruleset laws = (has_get, count_is, rules)

pub get-requires : goal.get-requires
get-requires c = search laws

pub returns : goal.returns
returns c = search laws
