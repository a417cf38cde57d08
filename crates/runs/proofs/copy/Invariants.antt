-- `runs::copy` meets its contract: what is copied so far is laid over the run as it came.
use mathlib.Core.Path.{◌≡◌}
use lib.ListN.{length}
use Rattle.runs.specs.Parts.{laid, part}
use Rattle.runs.proofs.copy.Given as goal

abbrev pub invariant-loop-k : goal.invariant-loop-k
invariant-loop-k l = (length l.run ≡ length l.initial.run) × (l.run ≡ laid l.initial.run l.at (part 0 l.k l.other))
