use borrow.Author.Rules.{rules}
use Rattle.choosing.proofs.Turns.{run_start, run_on, run_answer, run_none, run_can, turn-less}
use Rattle.choosing.proofs.next_merge.Goals as goal

ruleset laws = (run_start, run_on, run_answer, run_none, run_can, turn-less, rules)

pub loop-h-smaller : goal.loop-h-smaller
loop-h-smaller c = search laws

pub loop-h-preserved : goal.loop-h-preserved
loop-h-preserved c = search laws

pub returns-in-Break : goal.returns-in-Break
returns-in-Break c = search laws

pub returns : goal.returns
returns c = search laws
