-- `reports::swap` meets its contract: a lowering and a raise.
use Rattle.reports.proofs.Sides.{swap-lower, swap-raise, swap-done}
use Rattle.reports.proofs.swap.Goals as goal

pub lower-m-requires : goal.lower-m-requires
lower-m-requires c = swap-lower _ _ _ _ c.requires

pub raise-requires : goal.raise-requires
raise-requires c = swap-raise _ _ _ _ c.requires c.lower-m.ensures

pub returns : goal.returns
returns c = swap-done _ _ _ _ c.requires c.lower-m.ensures _ c.raise.ensures
