-- `door::rindovesh_piece` meets its contract: each way through it is one case of document 01's outcome.
use borrow.Author.Rules.{rules}
use Rattle.door.proofs.Training.{piece_short, piece_found, piece_refused}
use Rattle.door.proofs.rindovesh_piece.Goals as goal

ruleset laws = (piece_short, piece_found, piece_refused, rules)

pub returns-then-answer-lt64 : goal.returns-then-answer-lt64
returns-then-answer-lt64 c = search laws

pub returns-in-Ok : goal.returns-in-Ok
returns-in-Ok c = search laws

pub returns-in-Err : goal.returns-in-Err
returns-in-Err c = search laws
