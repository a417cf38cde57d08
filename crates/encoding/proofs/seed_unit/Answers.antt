-- `encoding::seed_unit` meets its contract: what interning leaves of the set's cells, and then one more symbol.
use borrow.Author.Rules.{rules}
use Rattle.encoding.proofs.Wording.{unit_number, unit_set, unit_room, unit_done, unit_out}
use Rattle.encoding.proofs.seed_unit.Goals as goal

ruleset laws = (unit_number, unit_set, unit_room, unit_done, unit_out, rules)

pub returns-in_err-interned : goal.returns-in_err-interned
returns-in_err-interned c = search laws

pub overflow_cast-interned : goal.overflow_cast-interned
overflow_cast-interned c =
    let h = unit_number _ _ _ _ _ _ _ _ _ _ _ _ _ c.requires.can_intern c.requires.words.0 c.requires.words.1 _ c.in_ok-interned.ensures in
    search rules

pub add-requires-clause-words : goal.add-requires-clause-words
add-requires-clause-words c = unit_set _ _ _ _ _ _ _ _ _ _ _ _ _ c.requires.can_intern c.requires.words.0 c.requires.words.1 _ c.in_ok-interned.ensures

pub add-requires-clause-n_in_bounds : goal.add-requires-clause-n_in_bounds
add-requires-clause-n_in_bounds c = unit_room _ _ _ _ _ _ _ _ _ _ _ _ _ c.requires.can_intern c.requires.words.0 c.requires.words.1 _ c.in_ok-interned.ensures

pub returns : goal.returns
returns c = search laws
