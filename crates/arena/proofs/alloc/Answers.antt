-- `arena::alloc` meets its contract: a record is taken, then emptied.
use borrow.Author.Rules.{rules}
use Rattle.arena.proofs.Claims.{allocated}
use Rattle.arena.proofs.alloc.Goals as goal

ruleset laws = (allocated, rules)

pub returns : goal.returns
returns c = search laws
