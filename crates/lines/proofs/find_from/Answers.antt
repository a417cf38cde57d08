-- `lines::find_from` meets its contract.
use Rattle.lines.proofs.Scans.{found, found_none}
use Rattle.lines.proofs.find_from.Goals as goal

pub returns-in-Some : goal.returns-in-Some
returns-in-Some c = found _ _ _ c.requires _ c.find.ensures c.in-Some.i c.in-Some.is

pub returns-in-None : goal.returns-in-None
returns-in-None c = found_none _ _ _ c.requires _ c.find.ensures c.in-None.is
