-- `engine::start` meets its contract: cleared, counted, settled.
use Rattle.engine.proofs.Starting.{count_can, settle_can, started}
use Rattle.engine.proofs.start.Goals as goal

pub count_pairs-n-requires : goal.count_pairs-n-requires
count_pairs-n-requires c = count_can _ _ _ _ _ c.requires c.clear.ensures

pub settle-requires : goal.settle-requires
settle-requires c = settle_can _ _ _ _ _ c.requires c.clear.ensures _ _ c.count_pairs-n.ensures _ c.end-queue.ensures

pub returns : goal.returns
returns c = started _ _ _ _ _ c.requires c.clear.ensures _ _ c.count_pairs-n.ensures _ _ _ c.end-queue.ensures c.settle.ensures
