-- `spelling::decorate` meets its contract: the three parts are laid one behind the other.
use borrow.Author.Rules.{rules}
use Rattle.spelling.proofs.Writing.{decorate-written}
use Rattle.spelling.proofs.decorate.Goals as goal

ruleset laws = (decorate-written, rules)

pub returns : goal.returns
returns c = search laws
