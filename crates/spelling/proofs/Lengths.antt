-- The laws of lengths that are told before a spelling is written. Assumes nothing.
use mathlib.Core.Path.{◌≡◌}
use mathlib.Core.List.{List}
use Prim.Native.Nat.{ℕ}
use lib.ListN.{length, length-append}
use Rattle.rule.specs.Spelling.{joined}
use Rattle.spelling.specs.Lengths.{joined_length}

pub joined_long : (p l r : List ℕ) → length (joined p l r) ≡ joined_length (length l) p r
unfolding joined
joined_long p l r = length-append l _
