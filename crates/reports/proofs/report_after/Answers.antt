-- `reports::report_after` meets its contract: the two reports, or none where no symbol stands there.
use Rattle.rule.specs.Rewriting.{after}
use Rattle.reports.proofs.Sides.{side_none}
use Rattle.reports.proofs.report_after.Goals as goal

pub swap-requires : goal.swap-requires
unfolding after
swap-requires c = rw c.in-Some.is at c.requires

pub returns-in-Some : goal.returns-in-Some
unfolding after
returns-in-Some c = rw c.in-Some.is c.swap.ensures

pub returns-in-None : goal.returns-in-None
unfolding after
returns-in-None c = rw c.in-None.is (side_none _ (rw c.in-None.is at c.requires))
