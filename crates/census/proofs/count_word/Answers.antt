use borrow.Author.Rules.{rules}
use Rattle.census.proofs.Word.{symbol_start, symbol_end, symbol_inside, symbol_can, symbol_turn}
use Rattle.census.proofs.count_word.Goals as goal

ruleset laws = (symbol_start, symbol_end, symbol_inside, symbol_can, symbol_turn, rules)

pub loop-i-init : goal.loop-i-init
loop-i-init c = search laws

pub raise-m-requires : goal.raise-m-requires
raise-m-requires c = search laws

pub loop-i-preserved : goal.loop-i-preserved
loop-i-preserved c = search laws

pub returns : goal.returns
returns c = search laws
