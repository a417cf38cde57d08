-- `pairs::make` meets its contract: a record is taken that no key has, and the key gets it.
use Rattle.pairs.proofs.Entries.{can_insert, did_make}
use Rattle.pairs.proofs.make.Goals as goal

pub insert-requires : goal.insert-requires
insert-requires c = rw c.index.ensures (can_insert _ _ _ _ _ c.requires (rw c.arena.ensures at c.alloc-r.ensures))

pub returns : goal.returns
returns c = did_make _ _ _ _ _ c.requires (rw c.arena.ensures at c.alloc-r.ensures) _ (rw c.index.ensures at c.insert.ensures)
