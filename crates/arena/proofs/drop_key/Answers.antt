-- `arena::drop_key` meets its contract: the record is the first of the free list.
use borrow.Author.Rules.{rules}
use Rattle.records.proofs.Laws.{live_low, free_is}
use Rattle.arena.proofs.Claims.{dropped}
use Rattle.arena.proofs.drop_key.Goals as goal

ruleset laws = (live_low, dropped, rules)

pub store-requires : goal.store-requires
store-requires c = search laws

pub overflow_add-c : goal.overflow_add-c
overflow_add-c c = let was = free_is _ _ _ c.cell-c.ensures in search rules

pub returns : goal.returns
returns c = search laws
