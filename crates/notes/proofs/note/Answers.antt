-- `notes::note` meets its contract: nothing where the word was noted last, else it is put behind the others.
use borrow.Author.Rules.{rules}
use Rattle.fields.proofs.Fields.{has_get}
use Rattle.notes.proofs.Adding.{noted_seen, noted_new, can_short, can_long}
use Rattle.notes.proofs.note.Goals as goal

ruleset laws = (has_get, noted_seen, noted_new, can_short, can_long, rules)

pub returns-then-seen : goal.returns-then-seen
returns-then-seen c = search laws

pub get-n-requires : goal.get-n-requires
get-n-requires c = search laws

pub returns-then-n-lt4 : goal.returns-then-n-lt4
returns-then-n-lt4 c = search laws

pub returns-else-n-lt4 : goal.returns-else-n-lt4
returns-else-n-lt4 c = search laws
