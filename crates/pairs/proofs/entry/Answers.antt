-- `pairs::entry` meets its contract: a key that has a record keeps it, another gets one.
use Rattle.pairs.proofs.Entries.{entered_old}
use Rattle.pairs.proofs.entry.Goals as goal

pub returns-in-Some : goal.returns-in-Some
returns-in-Some c = entered_old _ _ _ _ c.requires c.ask.ensures _ c.in-Some.ensures
