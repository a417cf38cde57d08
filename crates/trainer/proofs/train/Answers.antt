-- `trainer::train` meets its contract: rows 1 to 7 as the table's judgement has them, and the rest.
use mathlib.Core.Path.{refl}
use Rattle.std.proofs.lemmas.Result.{err_from_is_err_and}
use Rattle.trainer.proofs.Whole.{train_refused, train_can, train_done}
use Rattle.trainer.proofs.train.Goals as goal

pub train_rooms-requires : goal.train_rooms-requires
train_rooms-requires c = train_can _ _ _ _ _ _ _ _ _ _ _ _ c.args.pieces.now c.args.piece_ends.now c.args.merges.now c.args.savings.now _ _ refl c.judge.ensures _ c.in_ok-units.was

pub returns-in_err-units : goal.returns-in_err-units
returns-in_err-units c =
    let p = err_from_is_err_and c.from_residual.result c.from_residual.ensures.1 in
    rw (p.1, p.2) (train_refused _ _ _ _ _ _ _ _ _ _ _ _ _ _ _ _ _ _ refl c.judge.ensures _ c.in_err-units.was)

pub returns : goal.returns
returns c = train_done _ _ _ _ _ _ _ _ _ _ _ _ _ _ _ _ _ _ refl c.judge.ensures _ c.in_ok-units.was _ _ c.train_rooms.ensures
