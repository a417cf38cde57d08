use borrow.Author.Rules.{rules}
use Rattle.census.proofs.Words.{count_start, word_can, word_turn, count_end}
use Rattle.census.proofs.count_pairs.Goals as goal

ruleset laws = (count_start, word_can, word_turn, count_end, rules)

pub loop-k-init : goal.loop-k-init
loop-k-init c = search laws

pub count_word-n-requires : goal.count_word-n-requires
count_word-n-requires c = search laws

pub loop-k-preserved : goal.loop-k-preserved
loop-k-preserved c = search laws

pub returns : goal.returns
returns c = search laws
