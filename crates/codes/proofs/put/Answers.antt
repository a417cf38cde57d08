-- `codes::put` meets its contract: the byte stands behind the spelling.
use borrow.Author.Rules.{rules}
use Rattle.codes.proofs.Laying.{put-laid}
use borrow.Author.Rules.{rules}
use Rattle.codes.proofs.put.Goals as goal

ruleset laws = (put-laid, rules)

pub returns : goal.returns
returns c = search laws
