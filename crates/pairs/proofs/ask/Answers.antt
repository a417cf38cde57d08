-- `pairs::ask` meets its contract: one entry more is counted, and nothing else has changed.
use native.Mathlib.Omega.{arith}
use Rattle.pairs.proofs.Still.{asked_small, asked}
use Rattle.pairs.proofs.ask.Goals as goal

pub overflow_add-m : goal.overflow_add-m
overflow_add-m c = omega (arith, asked_small _ _ _ c.requires.0 c.requires.1 (rw c.lists-at.ensures at c.cell-m.ensures))

pub returns : goal.returns
returns c = asked _ _ _ c.requires.0 c.requires.1 (rw c.lists-at.ensures at c.cell-m.ensures) _ (rw c.lists-at.ensures at c.put_cell.ensures.is)
