-- `table::bad_shape` meets its contract: one of its tests holds, or none does before the last.
use borrow.Author.Rules.{rules}
use Rattle.table.proofs.Rows.{shape_seeding, shape_frequencies, shape_counts, shape_words, shape_end}
use Rattle.table.proofs.bad_shape.Goals as goal

ruleset laws = (shape_seeding, shape_frequencies, shape_counts, shape_words, shape_end, rules)

pub returns-then-t-gt1 : goal.returns-then-t-gt1
returns-then-t-gt1 c = search laws

pub returns-then-t-ne0 : goal.returns-then-t-ne0
returns-then-t-ne0 c = search laws

pub returns-then-t : goal.returns-then-t
returns-then-t c = search laws

pub returns-then-not-is_shaped : goal.returns-then-not-is_shaped
returns-then-not-is_shaped c = search laws

pub returns : goal.returns
returns c = search laws
