-- `states::key` meets its contract: a pair as one number.
use borrow.Author.Rules.{rules}
use Rattle.states.proofs.Keys.{key-made}
use Rattle.states.proofs.key.Goals as goal

ruleset laws = (key-made, rules)

pub returns : goal.returns
returns c = search laws
