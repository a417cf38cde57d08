-- `alphabet::seed_alphabet` meets its contract: the parts from the k-th on are still to come.
use mathlib.Core.Bool.{true}
use mathlib.Core.List.{foldl}
use mathlib.Core.Path.{◌≡◌}
use Prim.Native.Nat.{◌/◌, ◌≤◌}
use lib.ListN.{length}
use Rattle.rule.specs.Shapes.{parts, parts_by, rise_to}
use Rattle.rule.specs.Seeding.{intern}
use Rattle.vocab.specs.Places.{numbers_from}
use Rattle.intern.specs.Pieces.{pieces}
use Rattle.alphabet.specs.Seeds.{Going}
use Rattle.alphabet.proofs.seed_alphabet.Given as goal

abbrev pub invariant-loop-k : goal.invariant-loop-k
invariant-loop-k l = (l.many ≡ length l.alphabet_ends / 4)
    × (l.last ≤ length l.alphabet)
    × (rise_to (length l.alphabet) l.last (numbers_from 4 l.alphabet_ends l.k) ≡ true)
    × Going l.ring.base l.ring.cap l.fn.filled.count l.fn.filled.used
    (foldl intern (pieces l.initial.pieces l.initial.ends l.fn.filled.count) (parts_by l.alphabet l.alphabet_ends)) (parts l.alphabet l.last (numbers_from 4 l.alphabet_ends l.k))
    l.initial.room l.initial.pieces l.initial.ends l.room l.pieces l.ends l.so_far.count l.so_far.used
