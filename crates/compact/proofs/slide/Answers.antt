-- `compact::slide` meets its contract: a word is where it shall be, or its cells are copied and its place is put.
use borrow.Author.Rules.{rules}
use Rattle.compact.proofs.Sliding.{moved_not, moved}
use Rattle.compact.proofs.slide.Goals as goal

ruleset laws = (moved_not, moved, rules)

pub returns : goal.returns
returns c = search laws
