-- `trainer::train_table` meets its contract: the seeds, then what grows of them.
use native.Mathlib.Omega.{arith}
use mathlib.Core.Path.{refl}
use Rattle.runs.proofs.Parts.{bytes_known}
use Rattle.trainer.proofs.Table.{can_seed, table-out, table_ready, table_done}
use Rattle.trainer.proofs.train_table.Goals as goal

pub seed-requires : goal.seed-requires
seed-requires c = can_seed _ _ _ _ _ _ _ _ _ _ _ _ _ c.requires

pub grow-requires-clause-can_grow : goal.grow-requires-clause-can_grow
grow-requires-clause-can_grow c = table_ready _ _ _ _ _ _ _ _ _ _ _ _ _ _ c.args.merges.now c.args.savings.now _ _ _ _ _ c.seed.ensures _ _ _ c.in-Ok.is c.requires _ refl (omega (arith, c.seed.auto))

pub returns-in-Err : goal.returns-in-Err
returns-in-Err c = table-out _ _ _ _ _ _ _ _ _ _ _ _ _ _ _ _ _ _ _ _ _ c.seed.ensures _ c.in-Err.is _

pub returns-in-Ok : goal.returns-in-Ok
returns-in-Ok c = table_done _ _ _ _ _ _ _ _ _ _ _ _ _ _ _ _ _ _ _ _ _ c.seed.ensures _ _ _ c.in-Ok.is _ _ _ _ _ c.grow.ensures (bytes_known _ (λ j. omega (arith, c.type_inv.piece_ends j))) _
