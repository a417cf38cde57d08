-- `merge::merge` meets its contract: the word's symbols are rewritten and its length is put, and all else is as it was.
use borrow.Author.Rules.{rules}
use Rattle.merge.proofs.Merging.{rewrites-live, word_merged}
use Rattle.merge.proofs.merge.Goals as goal

ruleset laws = (rewrites-live, word_merged, rules)

pub overflow_sub-result-2 : goal.overflow_sub-result-2
overflow_sub-result-2 c = search laws

pub returns : goal.returns
returns c = search laws
