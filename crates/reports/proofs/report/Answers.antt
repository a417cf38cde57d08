-- `reports::report` meets its contract: both sides, one after the other.
use Rattle.reports.proofs.Sides.{report_first, report_second, report_done}
use Rattle.reports.proofs.report.Goals as goal

pub report_before-m-requires : goal.report_before-m-requires
report_before-m-requires c = report_first _ _ _ _ c.requires

pub report_after-requires : goal.report_after-requires
report_after-requires c = report_second _ _ _ _ _ c.requires c.report_before-m.ensures

pub returns : goal.returns
returns c = report_done _ _ _ _ _ c.report_before-m.ensures c.report_after.ensures
