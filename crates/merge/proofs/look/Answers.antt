-- `merge::look` meets its contract: the step is by the first three symbols.
use borrow.Author.Rules.{rules}
use Rattle.merge.proofs.Runs.{looked}
use Rattle.merge.proofs.look.Goals as goal

ruleset laws = (looked, rules)

pub returns : goal.returns
returns c = search laws
