-- `symbols::look` meets its contract: the next three symbols decide the step.
use borrow.Author.Rules.{rules}
use Rattle.symbols.proofs.Passes.{looked}
use Rattle.symbols.proofs.look.Goals as goal

ruleset laws = (looked, rules)

pub returns : goal.returns
returns c = search laws
