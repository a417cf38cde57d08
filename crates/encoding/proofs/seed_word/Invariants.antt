-- `encoding::seed_word` meets its contract: the units from `at` on are still to come.
use mathlib.Core.Path.{◌≡◌}
use Prim.Native.Nat.{◌-◌, ◌≤◌}
use lib.ListN.{length}
use Rattle.runs.specs.Parts.{part}
use Rattle.rfc3629.specs.Cut.{units_by}
use Rattle.encoding.proofs.Wording.{Wording}
use Rattle.encoding.proofs.seed_word.Given as goal

abbrev pub invariant-loop-at : goal.invariant-loop-at
invariant-loop-at l = (l.at ≤ length l.word)
    × (l.n ≤ l.at)
    × (length l.room ≡ length l.initial.room)
    × Wording l.w l.ring.base l.ring.cap l.fn.filled.count l.fn.filled.used l.t.prefix.now l.t.suffix.now (units_by l.whole l.word) (units_by l.whole (part l.at (length l.word - l.at) l.word))
    l.initial.room l.initial.pieces l.initial.ends l.room l.pieces l.ends l.n l.so_far.count l.so_far.used

abbrev pub decreases-loop-at : goal.decreases-loop-at
decreases-loop-at l = length l.word - l.at
