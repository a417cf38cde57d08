use borrow.Author.Rules.{rules}
use Rattle.vocab.proofs.Shaped.{rise_start, rise_turn, rise_out, rise_end}
use Rattle.vocab.proofs.rises.Goals as goal

ruleset laws = (rise_start, rise_turn, rise_out, rise_end, rules)

pub loop-i-init : goal.loop-i-init
loop-i-init c = search laws

pub returns-then-end-last : goal.returns-then-end-last
returns-then-end-last c = search laws

pub loop-i-preserved : goal.loop-i-preserved
loop-i-preserved c = search laws

pub returns : goal.returns
returns c = search laws
