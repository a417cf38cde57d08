-- `chars::followed` meets its contract: the whole answer is the answer from the k-th tail on.
use mathlib.Core.Path.{◌≡◌}
use Prim.Native.Nat.{◌+◌, ◌<◌}
use lib.ListN.{length}
use Rattle.rfc3629.specs.Rows.{follow}
use Rattle.chars.specs.Places.{rest, some_length}
use Rattle.chars.proofs.Places.{follow_from}
use Rattle.chars.proofs.followed.Given as goal

abbrev pub invariant-loop-k : goal.invariant-loop-k
invariant-loop-k l = (l.at + 1 + l.k < length l.word) × (some_length (follow l.low l.high l.n (rest (l.at + 1) l.word)) ≡ follow_from l.n l.word l.at l.k)
