-- `text::count_units` meets its contract, seeding by seeding.
use borrow.Author.Rules.{rules}
use Rattle.text.proofs.Loops.{count_bytes, count-chars}
use Rattle.text.proofs.count_units.Goals as goal

ruleset laws = (count_bytes, count-chars, rules)

pub returns-in-Bytes : goal.returns-in-Bytes
returns-in-Bytes c = search laws

pub returns-in-Chars : goal.returns-in-Chars
returns-in-Chars c = search laws
