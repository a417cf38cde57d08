-- `training::train_words` meets its contract: the loop starts, turns, and ends as the rule does.
use mathlib.Core.Path.{refl}
use native.Mathlib.Omega.{arith}
use Rattle.training.proofs.Looping.{loop_start, loop_can, loop_join, loop_full, loop_stop, loop_out, loop_next, loop_number}
use Rattle.training.proofs.train_words.Goals as goal
use Rattle.training.proofs.train_words.Goals.{else-loop-k-test, then-loop-k-test+in_default}

pub loop-k-init : goal.loop-k-init
loop-k-init c = (
  omega arith,
  c.floor-enough.ensures,
  refl,
  refl,
  refl,
  refl,
  refl,
  loop_start _ _ _ _ _ _ _ _ _ _ _ _ _ _ _ c.requires.held c.start-engine.ensures,
)

pub next_merge-requires-clause-can_choose : goal.next_merge-requires-clause-can_choose
next_merge-requires-clause-can_choose c = loop_can _ _ _ _ _ _ _ _ _ _ _ _ _ _ _ _ _ _ _ _ c.loop-k.invariant.7

pub apply-requires-clause-can_join : goal.apply-requires-clause-can_join
apply-requires-clause-can_join c = let l = c.loop-k.invariant in
    loop_join _ _ _ _ _ _ _ _ _ _ _ _ _ _ _ _ _ _ _ _ l.7 _ l.1 _ _ c.in-Some.ensures (omega (arith, l.0, c.loop-k-test.true)) c.requires.count_le_size.1

pub returns-in_err-a : goal.returns-in_err-a
returns-in_err-a c = let l = c.loop-k.invariant in
    loop_out _ _ _ _ _ _ _ _ _ _ _ _ _ _ _ _ _ _ _ _ _ _ c.start-engine.ensures.view l.7 _ l.1 _ _ c.in-Some.ensures (omega (arith, l.0, c.loop-k-test.true)) _ _ _ _ _ _
    c.in_err-a.ensures _ _ _ _ _ c.from_residual.ensures.0

pub loop-k-preserved : goal.loop-k-preserved
loop-k-preserved c = let l = c.loop-k.invariant in
    let p = c.apply in
    let m = c.next_merge in
    let n = loop_number _ _ _ _ _ _ _ _ _ _ _ _ _ _ _ _ _ _ _ c.in_ok-a.ensures in (
      omega (arith, n, l.0),
      l.1,
      omega (arith, p.auto, m.auto, l.2),
      omega (arith, p.auto, l.3),
      omega (arith, p.auto, l.4),
      omega (arith, p.auto, l.5),
      omega (arith, p.auto, l.6),
      loop_next _ _ _ _ _ _ _ _ _ _ _ _ _ _ _ _ _ _ _ _ l.7 _ l.1 _ _ c.in-Some.ensures (omega (arith, l.0, c.loop-k-test.true)) _ _ _ _ _ _ c.in_ok-a.ensures,
    )

pub returns : goal.returns
returns c = let l = c.loop-k.invariant in
    elim c.loop-k-test.branch [
      | else-loop-k-test w ↦ loop_full _ _ _ _ _ _ _ _ _ _ _ _ _ _ _ _ _ _ _ _ _ _ c.start-engine.ensures.view l.7 (omega (arith, l.0, w.loop-k-test.false))
      | then-loop-k-test+in_default w ↦ loop_stop _ _ _ _ _ _ _ _ _ _ _ _ _ _ _ _ _ _ _ _ _ _ c.start-engine.ensures.view l.7 _ l.1 _ w.in_default.ensures
    ]
