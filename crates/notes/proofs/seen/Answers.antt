-- `notes::seen` meets its contract: the last of n words is the one at n - 1.
use borrow.Author.Rules.{rules}
use Rattle.fields.proofs.Fields.{has_get}
use Rattle.lists.proofs.Reading.{seen_none, seen_some, last_low}
use Rattle.notes.proofs.seen.Goals as goal

ruleset laws = (has_get, seen_none, seen_some, last_low, rules)

pub get-n-requires : goal.get-n-requires
get-n-requires c = search laws

pub returns-then-n-eq0 : goal.returns-then-n-eq0
returns-then-n-eq0 c = search laws

pub word_at-requires : goal.word_at-requires
word_at-requires c = search laws

pub returns : goal.returns
returns c = search laws
