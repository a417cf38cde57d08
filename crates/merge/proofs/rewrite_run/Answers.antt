use borrow.Author.Rules.{rules}
use Rattle.cells.proofs.Cells.{cells_small}
use Rattle.merge.proofs.Runs.{run_start, run_turn, run_end}
use Rattle.merge.proofs.rewrite_run.Goals as goal

ruleset laws = (run_start, run_turn, run_end, cells_small, rules)

pub loop-left-init : goal.loop-left-init
loop-left-init c = search laws

pub loop-left-preserved : goal.loop-left-preserved
loop-left-preserved c = search laws

pub returns : goal.returns
returns c = search laws
