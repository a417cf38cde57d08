-- `symbols::count_reports` meets its contract: what is counted and what is to come are all reports.
use Prim.Native.Nat.{◌/◌, ◌-◌}
use lib.ListN.{length}
use Rattle.numbers.specs.Little.{numbers}
use Rattle.symbols.specs.Merging.{Counting}
use Rattle.symbols.proofs.count_reports.Given as goal

abbrev pub invariant-loop-i : goal.invariant-loop-i
invariant-loop-i l = Counting l.rule.a l.rule.b l.rule.x (numbers 4 l.symbols) l.i l.count l.previous

abbrev pub decreases-loop-i : goal.decreases-loop-i
decreases-loop-i l = length l.symbols / 4 - l.i
