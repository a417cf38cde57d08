-- `vocab::look` meets its contract: each answer by the tests that lead to it.
use borrow.Author.Rules.{rules}
use Rattle.vocab.proofs.Reading.{look_misshapen, look-many, look_past, look_up_lem, look_at}
use Rattle.vocab.proofs.look.Goals as goal

ruleset laws = (look_misshapen, look-many, look_past, look_up_lem, look_at, rules)

pub returns-then-not-is_shaped : goal.returns-then-not-is_shaped
returns-then-not-is_shaped c = search laws

pub returns-then-count-gt-MOST_ENDS : goal.returns-then-count-gt-MOST_ENDS
returns-then-count-gt-MOST_ENDS c = search laws

pub returns-then-count-number : goal.returns-then-count-number
returns-then-count-number c = search laws

pub overflow_sub-length : goal.overflow_sub-length
overflow_sub-length c = search laws

pub returns : goal.returns
returns c = search laws
