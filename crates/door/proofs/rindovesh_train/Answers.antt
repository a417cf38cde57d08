-- `door::rindovesh_train` meets its contract: each way through it is one case of document 01's outcome.
use borrow.Author.Rules.{rules}
use Rattle.door.proofs.Training.{train_short, train_success, train_refused}
use Rattle.door.proofs.rindovesh_train.Goals as goal

ruleset laws = (train_short, train_success, train_refused, rules)

pub returns-then-answer-lt64 : goal.returns-then-answer-lt64
returns-then-answer-lt64 c = search laws

pub returns-in-Ok : goal.returns-in-Ok
returns-in-Ok c = search laws

pub returns-in-Err : goal.returns-in-Err
returns-in-Err c = search laws
