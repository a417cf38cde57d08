-- `trainer::grow` meets its contract.
use borrow.Author.Rules.{rules}
use native.Mathlib.Omega.{arith}
use Rattle.trainer.proofs.Table.{grow_starts, grow_low, grow_out, grow_done}
use Rattle.trainer.proofs.grow.Goals as goal

ruleset laws = (grow_starts, grow_low, grow_out, grow_done, rules)

pub returns-then-settings-alphabet : goal.returns-then-settings-alphabet
returns-then-settings-alphabet c = search laws

pub returns-in-Ok : goal.returns-in-Ok
returns-in-Ok c = grow_done _ _ _ _ _ _ _ _ _ _ _ _ (omega (arith, c.if-settings-alphabet.false)) _ _ _ _ _ c.train_words-r.ensures _ c.in-Ok.is

pub returns-in-Err : goal.returns-in-Err
returns-in-Err c = grow_out _ _ _ _ _ _ _ _ _ _ _ _ (omega (arith, c.if-settings-alphabet.false)) _ _ _ _ _ c.train_words-r.ensures _ c.in-Err.is
