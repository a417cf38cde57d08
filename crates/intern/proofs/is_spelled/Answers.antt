-- `intern::is_spelled` meets its contract: the hash, then the bytes between the two ends.
use borrow.Author.Rules.{rules}
use Rattle.intern.proofs.Interning.{spelt_other, spelt_piece}
use Rattle.intern.proofs.is_spelled.Goals as goal

ruleset laws = (spelt_other, spelt_piece, rules)

pub returns-then-x-hash : goal.returns-then-x-hash
returns-then-x-hash c = search laws

pub returns : goal.returns
returns c = search laws
