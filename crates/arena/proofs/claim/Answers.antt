-- `arena::claim` meets its contract: either way a record is taken.
use borrow.Author.Rules.{rules}
use Rattle.arena.proofs.Claims.{can_new, can_free}
use Rattle.arena.proofs.claim.Goals as goal

ruleset laws = (can_new, can_free, rules)

pub claim_new-requires : goal.claim_new-requires
claim_new-requires c = search laws

pub claim_free-requires : goal.claim_free-requires
claim_free-requires c = search laws
