-- `text::chars_in` meets its contract: the characters passed and those to come are all of them.
use mathlib.Core.Path.{◌≡◌}
use Prim.Native.Nat.{◌+◌, ◌-◌, ◌≤◌}
use lib.ListN.{length}
use mathlib.Core.Bool.{true}
use Rattle.rfc3629.specs.Cut.{well_formed, units_by}
use Rattle.chars.specs.Places.{rest}
use Rattle.text.proofs.chars_in.Given as goal

abbrev pub invariant-loop-i : goal.invariant-loop-i
invariant-loop-i l = (l.i ≤ length l.word)
    × (l.n ≤ l.i)
    × (well_formed l.word ≡ well_formed (rest l.i l.word))
    × (l.n + length (units_by true (rest l.i l.word)) ≡ length (units_by true l.word))

abbrev pub decreases-loop-i : goal.decreases-loop-i
decreases-loop-i l = length l.word - l.i
