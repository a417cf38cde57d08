use borrow.Author.Rules.{rules}
use native.Mathlib.Omega.{arith}
use Rattle.chars.proofs.Places.{len_small}
use Rattle.text.proofs.Loops.{well_start, well_turn, char_fits, char_on, count_start, count-out, count-turn, count_end}
use Rattle.text.proofs.chars_in.Goals as goal

ruleset laws = (well_start, count_start, count_end, rules)

pub loop-i-init : goal.loop-i-init
loop-i-init c = search laws

pub returns-in_err-i : goal.returns-in_err-i
returns-in_err-i c = search (count-out, rules)

pub overflow_add-i : goal.overflow_add-i
overflow_add-i c = omega (arith, len_small _ _ c.in_ok-i.ensures)

pub loop-i-preserved : goal.loop-i-preserved
loop-i-preserved c =
    let t = c.in_ok-i.ensures in (
      char_fits _ _ _ t (omega arith),
      omega (arith, char_on _ _ _ t),
      well_turn _ _ _ t _ c.loop-i.invariant.2,
      count-turn _ _ _ t _ _ c.loop-i.invariant.3,
    )

pub loop-i-smaller : goal.loop-i-smaller
loop-i-smaller c = omega (arith, char_on _ _ _ c.in_ok-i.ensures)

pub returns : goal.returns
returns c = search laws
