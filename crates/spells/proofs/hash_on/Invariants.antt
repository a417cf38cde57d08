-- `spells::hash_on` meets its contract: the whole hash is the hash of what is left, from x on.
use mathlib.Core.Path.{◌≡◌}
use Prim.Native.Nat.{◌<◌}
use Rattle.spells.specs.Hash.{hash_from}
use Rattle.spells.proofs.Hash.{hash_rest}
use Rattle.spells.proofs.hash_on.Given as goal

abbrev pub invariant-loop-b : goal.invariant-loop-b
invariant-loop-b l = (l.x < 4294967296) × (hash_from l.before l.s ≡ hash_rest l.x l.s l.b-index)
