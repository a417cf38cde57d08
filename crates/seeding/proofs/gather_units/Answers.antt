-- `seeding::gather_units` meets its contract: an empty index, and behind the words room for all distinct units.
use borrow.Author.Rules.{rules}
use native.Mathlib.Omega.{arith}
use Rattle.runs.proofs.Parts.{bytes_known}
use Rattle.seeding.proofs.Stages.{gather_slots, gather_room, gather_can, counted_chars}
use Rattle.seeding.proofs.gather_units.Goals as goal

ruleset laws = (gather_slots, gather_room, gather_can, counted_chars, rules)

pub overflow_mul-ring : goal.overflow_mul-ring
overflow_mul-ring c = search laws

pub clear_cells-requires : goal.clear_cells-requires
clear_cells-requires c = search laws

pub gather-requires-clause-can_start : goal.gather-requires-clause-can_start
gather-requires-clause-can_start c = let b = bytes_known c.args.words.now (λ j. omega (arith, c.type_inv.words j)) in search laws

pub returns : goal.returns
returns c = search laws
