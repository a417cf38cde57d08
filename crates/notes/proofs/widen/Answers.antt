-- `notes::widen` meets its contract: four words leave the record, a full run is left for one twice as large.
use borrow.Author.Rules.{rules}
use native.Mathlib.Omega.{arith}
use Rattle.fields.proofs.Fields.{has_get}
use Rattle.notes.proofs.Moving.{can_spill, ready_spilled, ready_same, can_grow, ready_grown}
use Rattle.notes.proofs.widen.Goals as goal

ruleset laws = (has_get, ready_same, rules)

pub move_list-requires : goal.move_list-requires
move_list-requires c = rw c.records.ensures (can_spill _ _ _ _ _ c.requires c.if-n-eq4.true)

pub returns-then-n-eq4 : goal.returns-then-n-eq4
returns-then-n-eq4 c = ready_spilled _ _ _ _ _ c.requires c.if-n-eq4.true _ (rw c.records.ensures at c.move_list.ensures)

pub get-size-requires : goal.get-size-requires
get-size-requires c = search laws

pub get-place-requires : goal.get-place-requires
get-place-requires c = search laws

pub overflow_mul-n : goal.overflow_mul-n
overflow_mul-n c =
    let g = can_grow _ _ _ _ _ _ c.requires c.if-n-eq4.false c.get-size.ensures _ c.if-n-size.true c.get-place.ensures in
    omega (arith, g.space, c.requires.can.has.ok.room, c.requires.can.has.ok.ix.small)

pub move_list-requires-then-n-size : goal.move_list-requires-then-n-size
move_list-requires-then-n-size c =
    rw c.words.ensures (can_grow _ _ _ _ _ _ c.requires c.if-n-eq4.false c.get-size.ensures _ c.if-n-size.true c.get-place.ensures)

pub returns-then-n-size : goal.returns-then-n-size
returns-then-n-size c =
    ready_grown _ _ _ _ _ _ c.requires c.if-n-eq4.false c.get-size.ensures _ c.if-n-size.true c.get-place.ensures _
    (rw c.words.ensures at c.move_list-then-n-size.ensures)

pub returns-else-n-size : goal.returns-else-n-size
returns-else-n-size c = search laws

pub overflow_add-words : goal.overflow_add-words
overflow_add-words c =
    let g = can_grow _ _ _ _ _ _ c.requires c.if-n-eq4.false c.get-size.ensures _ c.if-n-size.true c.get-place.ensures in
    omega (arith, g.source, c.words.ensures, c.requires.can.has.ok.ix.small)
