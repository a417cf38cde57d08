-- `notes::move_list` meets its contract: the words copied, the top raised, the record led there.
use native.Mathlib.Omega.{arith}
use Rattle.notes.proofs.Moving.{move_room, can_lead, moved_list}
use Rattle.notes.proofs.move_list.Goals as goal

pub copy_cells-requires : goal.copy_cells-requires
copy_cells-requires c =
    (omega (arith, move_room _ _ _ _ _ _ _ _ c.requires (rw c.lists-lists.ensures at c.cell-top.ensures), c.lists-lists.ensures, c.requires.fits), omega (arith, c.requires.source))

pub overflow_add-top : goal.overflow_add-top
overflow_add-top c = omega (arith, move_room _ _ _ _ _ _ _ _ c.requires (rw c.lists-lists.ensures at c.cell-top.ensures), c.requires.has.ok.ix.small)

pub put-requires : goal.put-requires
put-requires c =
    can_lead _ _ _ _ _ _ _ _ _ _ c.requires (rw c.lists-lists.ensures at c.cell-top.ensures) (rw c.lists-lists.ensures at c.copy_cells.ensures.is)
    (rw c.lists-lists.ensures at c.put_cell.ensures.is)

pub returns : goal.returns
returns c =
    moved_list _ _ _ _ _ _ _ _ _ _ c.requires (rw c.lists-lists.ensures at c.cell-top.ensures) (rw c.lists-lists.ensures at c.copy_cells.ensures.is)
    (rw c.lists-lists.ensures at c.put_cell.ensures.is) _ _ c.put.ensures c.put-2.ensures

pub overflow_add-lists-2 : goal.overflow_add-lists-2
overflow_add-lists-2 c =
    omega (arith, move_room _ _ _ _ _ _ _ _ c.requires (rw c.lists-lists.ensures at c.cell-top.ensures), c.lists-lists.ensures, c.requires.has.ok.ix.small)
