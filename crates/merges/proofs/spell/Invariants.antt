-- `merges::spell` is safe: the run keeps its room for n symbols.
use Rattle.std.proofs.Common.{◌≡◌, length}
use Rattle.merges.proofs.spell.Given as goal

abbrev pub invariant-loop-i : goal.invariant-loop-i
invariant-loop-i l = length l.run ≡ length l.initial.run
