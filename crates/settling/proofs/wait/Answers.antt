-- `settling::wait` meets its contract: a push, or nothing.
use Rattle.settling.proofs.One.{wait_room, waits-gained, waits_not}
use Rattle.settling.proofs.wait.Goals as goal

pub push-requires : goal.push-requires
push-requires c = wait_room _ _ _ _ _ c.is_set.ensures _ c.if-is_set.true c.requires

pub returns-then-is_set : goal.returns-then-is_set
returns-then-is_set c = waits-gained _ _ _ _ _ c.is_set.ensures _ _ c.if-is_set.true c.push.ensures

pub returns : goal.returns
returns c = waits_not _ _ _ _ _ c.is_set.ensures _ c.if-is_set.false c.requires
