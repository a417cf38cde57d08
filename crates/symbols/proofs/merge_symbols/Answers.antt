-- `symbols::merge_symbols` meets its contract: each way through it is one case of document 01's verdict.
use borrow.Author.Rules.{rules}
use Rattle.symbols.proofs.Answers.{bad_symbols, bad_changes, too_short, long_enough, rewritten}
use Rattle.symbols.proofs.merge_symbols.Goals as goal

ruleset laws = (bad_symbols, bad_changes, too_short, long_enough, rewritten, rules)

pub returns-then-symbols-ne0 : goal.returns-then-symbols-ne0
returns-then-symbols-ne0 c = search laws

pub returns-then-changes-ne0 : goal.returns-then-changes-ne0
returns-then-changes-ne0 c = search laws

pub returns-then-changes-reports : goal.returns-then-changes-reports
returns-then-changes-reports c = search laws

pub returns : goal.returns
returns c = search laws
