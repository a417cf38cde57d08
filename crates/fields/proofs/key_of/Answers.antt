-- `fields::key_of` meets its contract: the key is a field of a record that was taken.
use borrow.Author.Rules.{rules}
use Rattle.fields.proofs.Fields.{can_get}
use Rattle.fields.proofs.key_of.Goals as goal

ruleset laws = (can_get, rules)

pub get-requires : goal.get-requires
get-requires c = search laws
