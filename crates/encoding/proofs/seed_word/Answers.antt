-- `encoding::seed_word` meets its contract: each turn interns one unit with the marks of its place.
use borrow.Author.Rules.{rules}
use native.Mathlib.Omega.{arith}
use mathlib.Core.Path.{refl}
use Rattle.encoding.proofs.Wording.{word_start, wording_can, wording_set, place_room, place_next, place-out, place_end}
use Rattle.encoding.proofs.seed_word.Goals as goal

ruleset laws = (word_start, wording_can, wording_set, place_room, place_next, place-out, place_end, rules)

pub loop-at-init : goal.loop-at-init
loop-at-init c = search laws

pub seed_unit-requires-clause-can_intern : goal.seed_unit-requires-clause-can_intern
seed_unit-requires-clause-can_intern c = search laws

pub seed_unit-requires-clause-words : goal.seed_unit-requires-clause-words
seed_unit-requires-clause-words c =
    let l = c.loop-at in (
      wording_set _ _ _ _ _ _ _ _ _ _ _ _ _ _ _ _ _ _ l.invariant.3,
      place_room _ _ _ _ _ _ _ _ _ _ _ _ _ _ _ _ _ _ _ l.so_far l.invariant.3 c.loop-at-test.true (omega arith) _ c.next_unit-end.ensures,
    )

pub returns-in_err-so_far : goal.returns-in_err-so_far
returns-in_err-so_far c =
    let l = c.loop-at in
    place-out _ _ _ _ _ _ _ _ _ _ _ _ _ _ _ _ _ _ _ l.so_far l.invariant.3 c.loop-at-test.true (omega arith) _ c.next_unit-end.ensures
    _ _ c.side-prefix.ensures c.side-suffix.ensures _ _ _ _ c.in_err-so_far.ensures _ c.from_residual.ensures.0

pub loop-at-preserved : goal.loop-at-preserved
loop-at-preserved c =
    let l = c.loop-at in
    let x = c.next_unit-end.ensures in (
      x.inside,
      omega (arith, x.on),
      omega (arith, c.seed_unit.auto, l.invariant.2),
      place_next _ _ _ _ _ _ _ _ _ _ _ _ _ _ _ _ _ _ _ l.so_far l.invariant.3 c.loop-at-test.true (omega arith) _ x
          _ _ c.side-prefix.ensures c.side-suffix.ensures _ _ _ _ c.in_ok-so_far.ensures,
    )

pub returns : goal.returns
returns c =
    let l = c.loop-at in
    place_end _ _ _ _ _ _ _ _ _ _ _ _ _ _ _ _ _ _ _ l.so_far l.invariant.3 c.loop-at-test.false _ refl refl refl
