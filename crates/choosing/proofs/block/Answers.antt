-- `choosing::block` meets its contract: a pair that counts has a record.
use Rattle.choosing.proofs.Small.{counts_found, counts_has}
use Rattle.choosing.proofs.block.Goals as goal

pub unwrap-requires : goal.unwrap-requires
unwrap-requires c = counts_found _ _ _ c.requires _ c.find.ensures

pub marks-requires : goal.marks-requires
marks-requires c = counts_has _ _ _ c.requires _ c.find.ensures _ c.unwrap.ensures

pub set_marks-requires : goal.set_marks-requires
set_marks-requires c = counts_has _ _ _ c.requires _ c.find.ensures _ c.unwrap.ensures
