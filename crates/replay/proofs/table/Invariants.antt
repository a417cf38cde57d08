-- `replay::table` is safe: the runs' ends stay within the room.
use Rattle.std.proofs.Common.{◌≡◌, ◌≤◌, length}
use Rattle.replay.proofs.table.Given as goal

abbrev pub invariant-loop-k : goal.invariant-loop-k
invariant-loop-k g l = (length l.room ≡ 1024) × (length l.ends ≡ 32) × (l.end ≤ 1024)
