-- `fields::marks` meets its contract: the marks are the low byte of a field of the pair's record.
use borrow.Author.Rules.{rules}
use Rattle.fields.proofs.Fields.{has_get, marks_is}
use Rattle.fields.proofs.marks.Goals as goal

ruleset laws = (has_get, marks_is, rules)

pub get-requires : goal.get-requires
get-requires c = search laws

pub returns : goal.returns
returns c = search laws
