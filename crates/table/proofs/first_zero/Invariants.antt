-- `table::first_zero` meets its contract: the whole answer is the answer from the i-th frequency on.
use mathlib.Core.Path.{◌≡◌}
use Rattle.rule.specs.Refusals.{no_frequency}
use Rattle.table.specs.Answers.{first_place}
use Rattle.table.proofs.Rows.{zero_from}
use Rattle.table.proofs.first_zero.Given as goal

abbrev pub invariant-loop-i : goal.invariant-loop-i
invariant-loop-i l = first_place (no_frequency l.frequencies) ≡ zero_from l.frequencies l.i
