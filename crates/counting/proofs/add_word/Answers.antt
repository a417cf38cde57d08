-- `counting::add_word` meets its contract: a word's share is at most its weight.
use borrow.Author.Rules.{rules}
use Rattle.counting.proofs.Counts.{share_fits, sum_fits, counted}
use Rattle.counting.proofs.add_word.Goals as goal

ruleset laws = (share_fits, sum_fits, counted, rules)

pub overflow_mul-result : goal.overflow_mul-result
overflow_mul-result c = search laws

pub overflow_add-result : goal.overflow_add-result
overflow_add-result c = search laws

pub returns : goal.returns
returns c = search laws
