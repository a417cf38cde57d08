-- `arena::claim_free` meets its contract: the first of the free list is live, and the next one is the first.
use borrow.Author.Rules.{rules}
use mathlib.Core.Path.{refl}
use Rattle.records.proofs.Laws.{free_is}
use Rattle.arena.proofs.Claims.{free-within, claimed_free}
use Rattle.arena.proofs.claim_free.Goals as goal

ruleset laws = (claimed_free, rules)

pub overflow_sub-c : goal.overflow_sub-c
overflow_sub-c c = let was = free_is _ _ _ c.cell-c.ensures in search rules

pub store-requires : goal.store-requires
store-requires c =
    free-within _ _ _ _ _ _ _ _ _ _ c.requires c.cell-h.ensures refl c.put_cell.ensures.is c.put_cell-2.ensures.is

pub returns : goal.returns
returns c = search laws
