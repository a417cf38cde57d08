use borrow.Author.Rules.{rules}
use mathlib.Core.Path.{◌∙◌}
use Rattle.runs.specs.Parts.{put}
use Rattle.runs.proofs.Parts.{length-put}
use Rattle.joining.proofs.Visiting.{look_small, weights_more}
use Rattle.joining.proofs.frequencies.Goals as goal

pub overflow_add-i : goal.overflow_add-i
overflow_add-i c = let l = look_small c.requires in let m = c.loop-j-test.true in search rules

pub loop-j-preserved : goal.loop-j-preserved
unfolding put
loop-j-preserved c = let v = c.loop-j.invariant in (
  length-put c.loop-j.fs c.loop-j.j c.frequency.result ∙ v.0,
  weights_more c.requires c.loop-j-test.true c.loop-j.fs v.0 v.1 c.word_at-k.ensures c.frequency.ensures,
)
