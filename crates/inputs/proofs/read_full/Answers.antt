use Rattle.std.proofs.Common.{arith, rules}
use Rattle.inputs.proofs.Reading.{nothing_read, read_on, read_end}
use Rattle.inputs.proofs.read_full.Goals as goal

pub loop-n-init : goal.loop-n-init
loop-n-init g c = (omega arith, search rules, nothing_read _ c.args.room.now)

pub loop-n-preserved : goal.loop-n-preserved
loop-n-preserved g c = (
  omega (arith, c.in_ok-more.ensures.bound.0),
  search rules,
  read_on _ _ _ _ _ _ _ (omega arith) c.in_ok-more.ensures.bound.0 c.loop-n.invariant.2 c.in_ok-more.ensures.bytes.0,
)

pub returns-then-more-eq0-clause-bytes : goal.returns-then-more-eq0-clause-bytes
returns-then-more-eq0-clause-bytes g c =
    read_end _ _ _ _ _ _ _ (omega arith) c.if-more-eq0.true c.loop-n.invariant.2 c.in_ok-more.ensures.bytes.0
