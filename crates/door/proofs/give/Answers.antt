-- `door::give` meets its contract: a run of zeros, and three numbers over its front.
use borrow.Author.Rules.{rules}
use Rattle.door.proofs.Given.{given}
use Rattle.door.proofs.give.Goals as goal

pub returns : goal.returns
returns c = given _ c.requires _ _ _ _ _ _ _ (c.fill.ensures.after (λ y h. search rules)) c.store8.ensures c.store8-2.ensures c.store8-3.ensures
