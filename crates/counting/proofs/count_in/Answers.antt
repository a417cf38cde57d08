use borrow.Author.Rules.{rules}
use Rattle.cells.proofs.Cells.{cells_small}
use Rattle.counting.proofs.Counts.{hits_start, hits-turn, hits_end}
use Rattle.counting.proofs.count_in.Goals as goal

ruleset laws = (hits_start, hits-turn, hits_end, cells_small, rules)

pub loop-i-init : goal.loop-i-init
loop-i-init c = search laws

pub loop-i-preserved : goal.loop-i-preserved
loop-i-preserved c = search laws

pub returns : goal.returns
returns c = search laws
