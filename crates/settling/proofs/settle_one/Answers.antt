-- `settling::settle_one` meets its contract: a pair without a count is removed, any other cleared of its marks.
use borrow.Author.Rules.{rules}
use Rattle.settling.proofs.One.{one_removed, one_can_wait, one_waits}
use Rattle.settling.proofs.settle_one.Goals as goal

pub returns-then-count-eq0 : goal.returns-then-count-eq0
returns-then-count-eq0 c =
    one_removed _ _ _ _ _ c.requires _ (rw c.touched.ensures at c.cell-r.ensures) _ c.key_of-key.ensures
    _ c.count-count.ensures (search rules) _ c.remove.ensures

pub wait-requires : goal.wait-requires
wait-requires c =
    one_can_wait _ _ _ _ _ c.requires _ (rw c.touched.ensures at c.cell-r.ensures) _ c.key_of-key.ensures
    _ _ _ c.marks-v.ensures c.clear-left.ensures c.count-count.ensures _ c.set_marks.ensures (search rules)

pub returns : goal.returns
returns c =
    one_waits _ _ _ _ _ c.requires _ (rw c.touched.ensures at c.cell-r.ensures) _ c.key_of-key.ensures
    _ _ _ c.marks-v.ensures c.clear-left.ensures c.count-count.ensures _ c.set_marks.ensures (search rules) _ _ c.wait.ensures
