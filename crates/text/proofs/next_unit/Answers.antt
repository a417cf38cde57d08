-- `text::next_unit` meets its contract: a byte, or the character that stands there.
use borrow.Author.Rules.{rules}
use native.Mathlib.Omega.{arith}
use Rattle.chars.proofs.Places.{len_small}
use Rattle.text.proofs.Loops.{next_byte, next_none, next_char}
use Rattle.text.proofs.next_unit.Goals as goal

ruleset laws = (next_byte, next_none, rules)

pub returns-then-not-whole : goal.returns-then-not-whole
returns-then-not-whole c = search laws

pub overflow_add-result-in-Some : goal.overflow_add-result-in-Some
overflow_add-result-in-Some c = omega (arith, len_small _ _ c.in-Some.ensures)

pub returns-in-Some : goal.returns-in-Some
returns-in-Some c = search (next_char, c.in-Some.ensures, rules)

pub returns-in-None : goal.returns-in-None
returns-in-None c = search laws
