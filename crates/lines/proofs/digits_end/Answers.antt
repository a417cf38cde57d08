-- `lines::digits_end` meets its contract.
use Rattle.lines.proofs.Scans.{passed, passed_all}
use Rattle.lines.proofs.digits_end.Goals as goal

pub returns-in-Some : goal.returns-in-Some
returns-in-Some c = passed _ _ c.requires _ c.find_other.ensures c.in-Some.i c.in-Some.is

pub returns-in-None : goal.returns-in-None
returns-in-None c = passed_all _ _ c.requires _ c.find_other.ensures c.in-None.is
