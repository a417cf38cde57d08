-- `inputs::spell` meets its contract: what was spelled so far stands there, and all else is as it was.
use Rattle.std.proofs.Common.{◌≡◌, ℕ, ◌+◌, ◌-◌, ◌<◌, ◌≤◌, get_or}
use Rattle.inputs.specs.Spelling.{byte_of}
use Rattle.inputs.proofs.spell.Given as goal

abbrev pub invariant-loop-i : goal.invariant-loop-i
invariant-loop-i l =
    ((k : ℕ) → l.at ≤ k → k < l.at + l.i → get_or l.room k 0 ≡ byte_of l.line (k - l.at))
    × ((k : ℕ) → k < l.at → get_or l.room k 0 ≡ get_or l.initial.room k 0)
    × ((k : ℕ) → l.at + l.i ≤ k → get_or l.room k 0 ≡ get_or l.initial.room k 0)
