-- `alphabet::seed_bytes` meets its contract: the byte values from b on are still to come.
use mathlib.Core.List.{foldl}
use Prim.Native.Nat.{◌-◌}
use Rattle.rule.specs.Seeding.{intern, byte_values}
use Rattle.intern.specs.Pieces.{pieces}
use Rattle.alphabet.specs.Seeds.{Going}
use Rattle.alphabet.proofs.seed_bytes.Given as goal

abbrev pub invariant-loop-b : goal.invariant-loop-b
invariant-loop-b l =
    Going l.ring.base l.ring.cap 0 0 (foldl intern (pieces l.initial.pieces l.initial.ends 0) (byte_values 256 0)) (byte_values (256 - l.b) l.b)
    l.initial.room l.initial.pieces l.initial.ends l.room l.pieces l.ends l.filled.count l.filled.used
