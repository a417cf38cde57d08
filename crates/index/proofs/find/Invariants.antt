-- `index::find` meets its contract: the whole lookup is what the slots from i on find, as many as are left.
use mathlib.Core.Path.{◌≡◌}
use Prim.Native.Nat.{◌-◌, ◌<◌}
use Rattle.cells.specs.Cells.{cells}
use Rattle.index.specs.Probe.{probe}
use Rattle.index.specs.Index.{key_at, slot}
use Rattle.index.proofs.find.Given as goal

abbrev pub invariant-loop : goal.invariant-loop
invariant-loop l = (l.i < l.ring.cap)
    × (slot l.ring.base l.ring.cap (cells l.room) l.key ≡ probe (key_at l.ring.base (cells l.room)) l.ring.cap l.key (l.ring.cap - l.counter) l.i)
