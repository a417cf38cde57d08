-- `index::start` meets its contract: the product fits, and its high half is below `cap`.
use borrow.Author.Rules.{rules}
use native.Mathlib.Omega.{arith}
use Rattle.index.proofs.Slots.{start_fits, start_beside, start_row}
use Rattle.index.proofs.start.Goals as goal

ruleset laws = (start_fits, rules)

pub returns-then-s-cap : goal.returns-then-s-cap
returns-then-s-cap c = start_beside _ _ _ c.hash-h.ensures.0 c.if-s-cap.true

pub returns-else-s-cap : goal.returns-else-s-cap
returns-else-s-cap c = start_row _ _ _ c.hash-h.ensures.0 c.requires.0 (omega (arith, c.if-s-cap.false))
