-- `settling::clear` meets its contract: one mark after the other.
use Rattle.settling.proofs.One.{cleared_is}
use Rattle.settling.proofs.clear.Goals as goal

pub returns : goal.returns
returns c = cleared_is _ _ _ c.clear.ensures c.clear-2.ensures
