-- `trainer::train_rooms` meets its contract: zeros, then the table, then zeros where they must be.
use native.Mathlib.Omega.{arith}
use mathlib.Core.Path.{refl, sym, ◌∙◌}
use Rattle.trainer.proofs.Rooms.{wiped-length, rooms_done, rooms-out}
use Rattle.trainer.proofs.train_rooms.Goals as goal

pub returns-then-is_err : goal.returns-then-is_err
returns-then-is_err c = let w = c.wipe_outputs.ensures in
    let k = c.train_table-r.auto in
    let o = c.wipe_outputs.auto in
    let v = c.wipe_outputs-then-is_err.ensures in
    rooms-out _ _ _ _ w.0 w.1 w.2 w.3 _ c.train_table-r.ensures _ (c.wipe.ensures ∙ wiped-length _ _ (omega (arith, k))) (sym c.is_err.ensures.value ∙ c.if-is_err.true) _ refl
    (v.0 ∙ wiped-length _ _ (omega (arith, k, o))) (v.1 ∙ wiped-length _ _ (omega (arith, k, o))) (v.2 ∙ wiped-length _ _ (omega (arith, k, o))) (v.3 ∙ wiped-length _ _ (omega (arith, k, o)))

pub returns-else-is_err : goal.returns-else-is_err
returns-else-is_err c = let w = c.wipe_outputs.ensures in
    let k = c.train_table-r.auto in
    rooms_done _ _ _ _ w.0 w.1 w.2 w.3 _ c.train_table-r.ensures _ (c.wipe.ensures ∙ wiped-length _ _ (omega (arith, k))) (sym c.is_err.ensures.value ∙ c.if-is_err.false)
