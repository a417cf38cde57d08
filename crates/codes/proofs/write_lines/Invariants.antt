-- `codes::write_lines` meets its contract: what is written, with the lines to come laid behind it, is the whole.
use Prim.Native.Nat.{◌-◌, ◌≤◌}
use Rattle.codes.specs.Writing.{lines_to, Going}
use Rattle.codes.proofs.write_lines.Given as goal

abbrev pub invariant-loop-i : goal.invariant-loop-i
invariant-loop-i l = (l.i ≤ l.count) × Going l.initial.out l.out l.from l.at (lines_to l.pieces l.ends l.merges l.count 0) (lines_to l.pieces l.ends l.merges l.count l.i)

abbrev pub decreases-loop-i : goal.decreases-loop-i
decreases-loop-i l = l.count - l.i
