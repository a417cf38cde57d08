-- `index::put_key` meets its contract: one cell, that of the key.
use borrow.Author.Rules.{rules}
use Rattle.index.proofs.Puts.{did_put-key}
use Rattle.index.proofs.put_key.Goals as goal

ruleset laws = (did_put-key, rules)

pub returns : goal.returns
returns c = search laws
