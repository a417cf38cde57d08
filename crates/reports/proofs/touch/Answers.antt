-- `reports::touch` meets its contract: a pair that was touched stays on the list, any other is put on it.
use Rattle.reports.proofs.Touches.{touch_again, touch-first}
use Rattle.reports.proofs.touch.Goals as goal

pub returns-then-is_set : goal.returns-then-is_set
returns-then-is_set c = touch_again c.args.gain c.requires c.marks-was.ensures c.mark-is.ensures c.set_marks.ensures c.is_set.ensures c.if-is_set.true

pub returns : goal.returns
returns c =
    touch-first c.args.gain c.requires c.marks-was.ensures c.mark-is.ensures c.set_marks.ensures c.is_set.ensures c.if-is_set.false
    (rw c.touched.ensures at c.put_cell.ensures.is)
