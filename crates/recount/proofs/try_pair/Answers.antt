-- `recount::try_pair` meets its contract: a pair that is known or over-long leaves the best as it is.
use borrow.Author.Rules.{rules}
use Rattle.recount.proofs.Scanning.{try_known, try_over, try_this}
use Rattle.recount.proofs.try_pair.Goals as goal

ruleset laws = (try_known, try_over, try_this, rules)

pub returns-then-is_known : goal.returns-then-is_known
returns-then-is_known c = search laws

pub returns-then-not-is_within : goal.returns-then-not-is_within
returns-then-not-is_within c = search laws

pub returns : goal.returns
returns c = search laws
