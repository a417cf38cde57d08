use borrow.Author.Rules.{rules}
use mathlib.Core.Path.{refl}
use native.Mathlib.Omega.{arith}
use Rattle.joining.proofs.Visiting.{together-within, visiting_then, visiting_end}
use Rattle.joining.proofs.merge_words.Goals as goal

pub loop-i-preserved : goal.loop-i-preserved
loop-i-preserved c = let v = c.loop-i.invariant in
    let e = (together-within c.batch-some.ensures).0 in
    let t = c.loop-i-test.true in
    (search rules, v.1, omega arith, visiting_then v.3 c.merge_some-now.ensures)

pub returns : goal.returns
returns c = let v = c.loop-i.invariant in
    let l = c.loop-i-test.false in
    visiting_end v.3 refl (omega arith)
