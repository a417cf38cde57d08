-- `arena::claim_new` meets its contract: the first record that was never taken is live.
use borrow.Author.Rules.{rules}
use Rattle.records.proofs.Laws.{taken_is}
use Rattle.arena.proofs.Claims.{new_within, claimed_new}
use Rattle.arena.proofs.claim_new.Goals as goal

ruleset laws = (new_within, claimed_new, rules)

pub overflow_add-x : goal.overflow_add-x
overflow_add-x c = let was = taken_is _ _ _ c.cell-x.ensures in search rules

pub store-requires : goal.store-requires
store-requires c = search laws

pub returns : goal.returns
returns c = search laws
