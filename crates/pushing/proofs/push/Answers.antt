-- `pushing::push` meets its contract: a word is dropped, or its length and its place are put.
use borrow.Author.Rules.{rules}
use Rattle.word.proofs.Sets.{live_fits}
use Rattle.pushing.proofs.Pushing.{dropped, pushed_word}
use Rattle.pushing.proofs.push.Goals as goal

ruleset laws = (live_fits, dropped, pushed_word, rules)

pub returns-then-n-lt2 : goal.returns-then-n-lt2
returns-then-n-lt2 c = search laws

pub overflow_add-result-4 : goal.overflow_add-result-4
overflow_add-result-4 c = search laws

pub returns : goal.returns
returns c = search laws
