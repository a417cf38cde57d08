-- `engine::clear` meets its contract: what is 0 says that no pair is known.
use Rattle.engine.proofs.Starting.{cleared}
use Rattle.engine.proofs.clear.Goals as goal

pub returns : goal.returns
returns c = cleared _ _ _ _ _ c.requires c.clear_cells.ensures.is c.lists.ensures c.clear_cells-2.ensures.is
