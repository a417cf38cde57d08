-- `fields::set_marks` meets its contract: only a field of the pair's record has changed.
use borrow.Author.Rules.{rules}
use Rattle.fields.proofs.Fields.{can_put, marks_put}
use Rattle.fields.proofs.set_marks.Goals as goal

ruleset laws = (can_put, marks_put, rules)

pub returns : goal.returns
returns c = search laws
