-- `lines::value` meets its contract: the digits from the start come to what v and those to come do.
use Rattle.std.proofs.Common.{◌≡◌}
use Rattle.lines.specs.Places.{value_at, Fits}
use Rattle.lines.proofs.value.Given as goal

abbrev pub invariant-loop-b : goal.invariant-loop-b
invariant-loop-b l = Fits l.run l.v l.b-index × (value_at l.run 0 0 ≡ value_at l.run l.v l.b-index)
