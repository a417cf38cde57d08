-- `symbols::write_reports` meets its contract: the two sides, one behind the other, are what the step tells.
use borrow.Author.Rules.{rules}
use Rattle.symbols.proofs.Writing.{room_behind, room_ahead, both_sides}
use Rattle.symbols.proofs.write_reports.Goals as goal

ruleset laws = (room_behind, room_ahead, both_sides, rules)

pub write_before-middle-requires : goal.write_before-middle-requires
write_before-middle-requires c = search laws

pub returns : goal.returns
returns c = search laws

pub write_after-requires : goal.write_after-requires
write_after-requires c = search laws
