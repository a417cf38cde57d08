-- `vocab::rises` meets its contract: the whole answer is the answer from the i-th end on.
use mathlib.Core.Path.{◌≡◌}
use Rattle.numbers.specs.Little.{numbers}
use Rattle.rule.specs.Shapes.{rise_to}
use Rattle.vocab.specs.Places.{numbers_from}
use Rattle.vocab.proofs.rises.Given as goal

abbrev pub invariant-loop-i : goal.invariant-loop-i
invariant-loop-i l = rise_to l.bytes 0 (numbers 4 l.ends) ≡ rise_to l.bytes l.last (numbers_from 4 l.ends l.i)
