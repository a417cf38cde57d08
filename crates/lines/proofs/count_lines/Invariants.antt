-- `lines::count_lines` meets its contract: the lines passed and those to come are all.
use mathlib.Core.Path.{◌≡◌}
use Prim.Native.Nat.{◌+◌, ◌-◌, ◌≤◌}
use lib.ListN.{length}
use Rattle.lines.specs.Lines.{lines}
use Rattle.lines.specs.Places.{lines_from}
use Rattle.lines.proofs.count_lines.Given as goal

abbrev pub invariant-loop-at : goal.invariant-loop-at
invariant-loop-at l = (l.at ≤ length l.text) × (l.n ≤ l.at) × (l.n + length (lines_from l.text l.at) ≡ length (lines l.text))

abbrev pub decreases-loop-at : goal.decreases-loop-at
decreases-loop-at l = length l.text - l.at
