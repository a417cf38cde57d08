-- `intern::find` meets its contract: the whole lookup is what the slots from i on find, as many as are left.
use mathlib.Core.Path.{◌≡◌}
use mathlib.Core.List.{◌++◌}
use Prim.Native.Nat.{◌-◌, ◌<◌}
use Rattle.cells.specs.Cells.{cells}
use Rattle.spells.specs.Hash.{hash_of}
use Rattle.intern.specs.Intern.{spelt, look}
use Rattle.intern.specs.Seek.{seek}
use Rattle.intern.proofs.find.Given as goal

abbrev pub invariant-loop : goal.invariant-loop
invariant-loop l =
    let s = l.spelling.prefix.now ++ (l.spelling.unit.now ++ l.spelling.suffix.now) in
    (l.i < l.ring.cap)
    × (look l.ring.base l.ring.cap (cells l.room) l.pieces l.ends s
    ≡ seek (spelt (hash_of s) s l.pieces l.ends) (cells l.room) l.ring.base l.ring.cap (l.ring.cap - l.counter) l.i)
