-- `notes::add_short` meets its contract: the word in a field of the record, then the number.
use Rattle.notes.proofs.Adding.{added_short}
use Rattle.notes.proofs.add_short.Goals as goal

pub returns : goal.returns
returns c = added_short _ _ _ _ _ _ _ _ c.requires c.put.ensures c.put-2.ensures
