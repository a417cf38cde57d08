-- `merge::rewrite_word` meets its contract: the symbols are rewritten, then the length is put.
use borrow.Author.Rules.{rules}
use native.Mathlib.Omega.{arith}
use Rattle.cells.proofs.Cells.{length-cells}
use Rattle.merge.proofs.Runs.{word_rewritten}
use Rattle.merge.proofs.rewrite_word.Goals as goal

ruleset laws = (word_rewritten, rules)

pub overflow_add-s : goal.overflow_add-s
overflow_add-s c = omega (arith, length-cells c.args.room.now)

pub overflow_add-s-2 : goal.overflow_add-s-2
overflow_add-s-2 c = omega (arith, length-cells c.args.room.now)

pub returns : goal.returns
returns c = search laws
