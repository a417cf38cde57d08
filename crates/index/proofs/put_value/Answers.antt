-- `index::put_value` meets its contract: one cell, that of the value.
use borrow.Author.Rules.{rules}
use Rattle.index.proofs.Puts.{did_put-value}
use Rattle.index.proofs.put_value.Goals as goal

ruleset laws = (did_put-value, rules)

pub returns : goal.returns
returns c = search laws
