-- `lines::first_bad` meets its contract: the lines passed are well formed, and the first malformed one is sought among those to come.
use mathlib.Core.Path.{◌≡◌}
use Prim.Native.Nat.{◌+◌, ◌-◌, ◌≤◌}
use lib.ListN.{length}
use Rattle.lines.specs.Lines.{lines, bad_among, first_bad}
use Rattle.lines.specs.Places.{lines_from}
use Rattle.lines.proofs.first_bad.Given as goal

abbrev pub invariant-loop-at : goal.invariant-loop-at
invariant-loop-at l = (l.at ≤ length l.text) × (l.n ≤ l.at) × (l.n + bad_among (lines_from l.text l.at) ≡ first_bad l.text)
    × (l.n + length (lines_from l.text l.at) ≡ length (lines l.text))

abbrev pub decreases-loop-at : goal.decreases-loop-at
decreases-loop-at l = length l.text - l.at
