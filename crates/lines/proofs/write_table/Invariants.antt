-- `lines::write_table` meets its contract: what is written, with the lines to come laid behind it, is the whole table.
use Prim.Native.Nat.{◌-◌, ◌≤◌}
use lib.ListN.{length}
use Rattle.lines.specs.Lines.{lines}
use Rattle.lines.specs.Places.{lines_from, Going}
use Rattle.lines.proofs.write_table.Given as goal

abbrev pub invariant-loop-at : goal.invariant-loop-at
invariant-loop-at l = (l.at ≤ length l.text) × (l.n ≤ l.at) × Going (lines l.text) (lines_from l.text l.at) l.initial.words l.initial.word_ends l.initial.frequencies l.n l.used l.words l.word_ends l.frequencies

abbrev pub decreases-loop-at : goal.decreases-loop-at
decreases-loop-at l = length l.text - l.at
