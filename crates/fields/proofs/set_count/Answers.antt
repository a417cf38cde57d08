-- `fields::set_count` meets its contract: only a field of the pair's record has changed.
use borrow.Author.Rules.{rules}
use Rattle.fields.proofs.Fields.{can_put, count-put}
use Rattle.fields.proofs.set_count.Goals as goal

ruleset laws = (can_put, count-put, rules)

pub returns : goal.returns
returns c = search laws
