-- `vocab::piece` meets its contract: the part that the answer names is the piece.
use borrow.Author.Rules.{rules}
use Rattle.vocab.proofs.Reading.{part_piece}
use Rattle.vocab.proofs.piece.Goals as goal

ruleset laws = (part_piece, rules)

pub returns : goal.returns
returns c = search laws
