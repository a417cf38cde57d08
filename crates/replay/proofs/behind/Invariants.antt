-- `replay::behind` is safe: what is left to pass and the place are at least as many as asked for.
use Rattle.std.proofs.Common.{◌+◌, ◌≤◌}
use Rattle.replay.proofs.behind.Given as goal

abbrev pub invariant-loop-at : goal.invariant-loop-at
invariant-loop-at l = l.k ≤ l.left + l.at
