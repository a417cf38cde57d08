-- `merges::words` is safe: no more cases than numbers.
use Rattle.std.proofs.Common.{◌≤◌}
use Rattle.merges.proofs.words.Given as goal

abbrev pub invariant-loop-t : goal.invariant-loop-t
invariant-loop-t g l = l.cases ≤ l.t
