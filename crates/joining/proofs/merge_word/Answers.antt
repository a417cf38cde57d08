use borrow.Author.Rules.{rules}
use Rattle.cells.proofs.Cells.{cells_small}
use Rattle.joining.proofs.Running.{running_start, running_read, running_tell, running_turn}
use Rattle.joining.proofs.Joining.{running_shorten, running_joined}
use Rattle.joining.proofs.merge_word.Goals as goal

ruleset laws = (running_start, running_read, running_shorten, running_joined, cells_small, rules)

pub loop-left-init : goal.loop-left-init
loop-left-init c = search laws

pub tell-m-requires : goal.tell-m-requires
tell-m-requires c = running_tell c.loop-left.invariant.1 c.loop-left-test.true c.look-st.ensures

pub loop-left-preserved : goal.loop-left-preserved
loop-left-preserved c = (
  search rules,
  running_turn c.loop-left.invariant.1 c.loop-left-test.true c.look-st.ensures c.tell-m.ensures
      c.left_by-c.ensures c.put_cell.ensures.is,
)

pub shorten-requires : goal.shorten-requires
shorten-requires c = search laws

pub returns : goal.returns
returns c = search laws
