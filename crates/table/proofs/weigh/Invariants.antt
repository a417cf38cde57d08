-- `table::weigh` meets its contract: the whole weight and all units are those so far and those from the n-th word on.
use mathlib.Core.Path.{◌≡◌}
use mathlib.Core.Bool.{true}
use Prim.Native.Nat.{◌+◌, ◌^◌, ◌≤◌}
use lib.ListN.{length}
use Rattle.numbers.specs.Little.{numbers}
use Rattle.rule.specs.Shapes.{rise_to}
use Rattle.rule.specs.Table.{units_of, weighed}
use Rattle.vocab.specs.Places.{numbers_from}
use Rattle.table.specs.Weighing.{unit_count, capped}
use Rattle.table.proofs.Weighing.{weight_from, units_from}
use Rattle.table.proofs.weigh.Given as goal

abbrev pub invariant-loop-n : goal.invariant-loop-n
invariant-loop-n l = (l.last ≤ length l.t.words.now)
    × (l.units ≤ l.last)
    × (l.weight ≤ 2 ^ 53)
    × (rise_to (length l.t.words.now) l.last (numbers_from 4 l.t.word_ends.now l.n) ≡ true)
    × (capped (weighed (numbers 8 l.t.frequencies.now) (units_of l.t.seeding l.t.words.now l.t.word_ends.now))
    ≡ capped (l.weight + weight_from l.t.seeding l.t.words.now l.t.word_ends.now l.t.frequencies.now l.last l.n))
    × (unit_count l.t.seeding l.t.words.now l.t.word_ends.now ≡ l.units + units_from l.t.seeding l.t.words.now l.t.word_ends.now l.last l.n)
