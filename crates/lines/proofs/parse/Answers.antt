-- `lines::parse` meets its contract: each answer by the tests that lead to it.
use borrow.Author.Rules.{rules}
use Rattle.lines.proofs.Answers.{read_roomless, read_long, read_bad, read_can, read-table}
use Rattle.lines.proofs.parse.Goals as goal

ruleset laws = (read_roomless, read_long, read_bad, read_can, read-table, rules)

pub returns-then-has_no_room : goal.returns-then-has_no_room
returns-then-has_no_room c = search laws

pub returns-then-is_too_long : goal.returns-then-is_too_long
returns-then-is_too_long c = search laws

pub returns-in-Some : goal.returns-in-Some
returns-in-Some c = search laws

pub write_table-bytes-requires : goal.write_table-bytes-requires
write_table-bytes-requires c = search laws

pub returns : goal.returns
returns c = search laws
