use mathlib.Core.Path.{ap}
use mathlib.Core.Bool.{not}
use borrow.Author.Rules.{rules}
use native.Mathlib.Omega.{arith}
use Rattle.codes.proofs.Lengths.{text_short, text_start, text_out, text_turn, text_end}
use Rattle.codes.proofs.fits.Goals as goal

ruleset laws = (text_short, text_start, text_out, text_turn, text_end, rules)

pub returns-then-room-lt-FIRST_LINE : goal.returns-then-room-lt-FIRST_LINE
returns-then-room-lt-FIRST_LINE c = search laws

pub loop-i-init : goal.loop-i-init
loop-i-init c = search laws

pub returns-then-not-line_fits : goal.returns-then-not-line_fits
returns-then-not-line_fits c = search laws

pub loop-i-preserved : goal.loop-i-preserved
loop-i-preserved c = text_turn _ _ _ _ _ _ _ _ c.pair_of-l.ensures.left c.piece-left.ensures c.pair_of-l.ensures.right c.piece-right.ensures _ _ _ c.loop-i.invariant (omega arith) _ c.line_fits.ensures (ap not c.if-not-line_fits.false)

pub returns : goal.returns
returns c = search laws
