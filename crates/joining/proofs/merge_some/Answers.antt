use borrow.Author.Rules.{rules}
use mathlib.Core.Path.{◌≡◌}
use Prim.Native.Nat.{◌+◌}
use native.Mathlib.Omega.{arith}
use Rattle.runs.specs.Parts.{nth}
use Rattle.joining.proofs.Visiting.{look_small, can_look, visiting_count, visiting_weight, visiting_turn}
use Rattle.joining.proofs.merge_some.Goals as goal

pub frequencies-fs-requires : goal.frequencies-fs-requires
frequencies-fs-requires c = can_look c.requires.midway.0 c.requires.of_rule c.requires.midway.1 c.requires.some_in_bounds.0 c.requires.some_in_bounds.1

pub overflow_add-i : goal.overflow_add-i
overflow_add-i c = let l = look_small (can_look c.requires.midway.0 c.requires.of_rule c.requires.midway.1 c.requires.some_in_bounds.0 c.requires.some_in_bounds.1) in
    let t = c.loop-j-test.true in
    search rules

pub merge_word-now-requires : goal.merge_word-now-requires
unfolding nth
merge_word-now-requires c = let v = c.loop-j.invariant in
    let t = c.loop-j-test.true in
    let low = c.requires.some_in_bounds.0 in
    let k = c.word_at-k.ensures in
    (v.4.midway, visiting_count v.4 v.1 (omega arith) k, visiting_weight v.4 v.1 (omega arith) k (v.3 c.loop-j.j t))

pub loop-j-preserved : goal.loop-j-preserved
loop-j-preserved c = let v = c.loop-j.invariant in
    let t = c.loop-j-test.true in
    let low = c.requires.some_in_bounds.0 in
    let z : c.args.i + (c.loop-j.j + 1) ≡ c.args.i + c.loop-j.j + 1 = omega arith in (
      search rules,
      v.1,
      v.2,
      v.3,
      rw z (visiting_turn v.4 v.1 (omega arith) c.word_at-k.ensures c.merge_word-now.ensures),
    )
