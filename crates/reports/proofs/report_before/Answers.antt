-- `reports::report_before` meets its contract: the two reports, or none where no symbol stands there.
use Rattle.rule.specs.Rewriting.{before}
use Rattle.reports.proofs.Sides.{side_none}
use Rattle.reports.proofs.report_before.Goals as goal

pub swap-requires : goal.swap-requires
unfolding before
swap-requires c = rw c.in-Some.is at c.requires

pub returns-in-Some : goal.returns-in-Some
unfolding before
returns-in-Some c = rw c.in-Some.is c.swap.ensures

pub returns-in-None : goal.returns-in-None
unfolding before
returns-in-None c = rw c.in-None.is (side_none _ (rw c.in-None.is at c.requires))
