-- `door::rindovesh_merge_symbols` meets its contract: each way through it is one case of document 01's outcome.
use borrow.Author.Rules.{rules}
use Rattle.door.proofs.Doors.{short_answer, refused, success}
use Rattle.door.proofs.rindovesh_merge_symbols.Goals as goal

ruleset laws = (short_answer, refused, success, rules)

pub returns-then-answer-lt64 : goal.returns-then-answer-lt64
returns-then-answer-lt64 c = search laws

pub returns-in-Err : goal.returns-in-Err
returns-in-Err c = search laws

pub returns-in-Ok : goal.returns-in-Ok
returns-in-Ok c = search laws
