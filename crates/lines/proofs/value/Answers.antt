use native.Mathlib.Omega.{arith}
use Rattle.lines.proofs.Scans.{value_other, value_over, value-turn, fits_small, fits_turn}
use Rattle.lines.proofs.value.Goals as goal

pub returns-then-not-is_ascii_digit : goal.returns-then-not-is_ascii_digit
returns-then-not-is_ascii_digit c = value_other _ _ _ _ c.loop-b.invariant.1 _ c.is_ascii_digit.ensures.value c.loop-b-test.true c.if-not-is_ascii_digit.true

pub overflow_mul-v : goal.overflow_mul-v
overflow_mul-v c =
    omega (arith, fits_small _ _ _ c.loop-b.invariant.0 c.loop-b-test.true _ c.is_ascii_digit.ensures.value c.if-not-is_ascii_digit.false)

pub overflow_add-v : goal.overflow_add-v
overflow_add-v c =
    omega (arith, fits_small _ _ _ c.loop-b.invariant.0 c.loop-b-test.true _ c.is_ascii_digit.ensures.value c.if-not-is_ascii_digit.false)

pub loop-b-preserved : goal.loop-b-preserved
loop-b-preserved c = rw c.from.ensures (
  fits_turn _ _ _ c.loop-b.invariant.0 c.loop-b-test.true _ c.is_ascii_digit.ensures.value c.if-not-is_ascii_digit.false,
  value-turn _ _ _ _ c.loop-b.invariant.1 _ c.is_ascii_digit.ensures.value c.loop-b-test.true c.if-not-is_ascii_digit.false,
)

pub returns : goal.returns
returns c = value_over _ _ _ _ c.loop-b.invariant.1 c.loop-b-test.false
