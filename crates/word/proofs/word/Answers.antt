-- `word::word` meets its contract: the cells before a word's symbols say how many they are.
use borrow.Author.Rules.{rules}
use Rattle.word.proofs.Sets.{word_found}
use Rattle.word.proofs.word.Goals as goal

ruleset laws = (word_found, rules)

pub returns : goal.returns
returns c = search laws
