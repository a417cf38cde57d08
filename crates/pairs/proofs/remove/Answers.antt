-- `pairs::remove` meets its contract: the key loses its record, which is given back.
use Rattle.pairs.proofs.Removals.{can_release, removed, removed_none}
use Rattle.pairs.proofs.remove.Goals as goal

pub release-requires : goal.release-requires
release-requires c = rw c.arena.ensures (can_release _ _ _ _ _ c.requires.0 c.requires.1 c.in-Some.ensures (rw c.index.ensures at c.erase.ensures))

pub returns-in-Some : goal.returns-in-Some
returns-in-Some c = removed _ _ _ _ _ c.requires.0 c.requires.1 c.in-Some.ensures (rw c.index.ensures at c.erase.ensures) _ (rw c.arena.ensures at c.release.ensures)

pub returns-in_default : goal.returns-in_default
returns-in_default c = removed_none _ _ _ c.requires.0 c.in_default.ensures
