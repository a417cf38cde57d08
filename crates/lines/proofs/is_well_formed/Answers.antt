-- `lines::is_well_formed` meets its contract: each test is a part of the form.
use borrow.Author.Rules.{rules}
use Rattle.lines.proofs.Judged.{judged_wordless, judged_spaceless, judged_numberless, judged_many, judged_more, judged_end}
use borrow.Author.Rules.{rules}
use Rattle.lines.proofs.is_well_formed.Goals as goal

ruleset laws = (judged_wordless, judged_spaceless, judged_numberless, judged_many, judged_more, judged_end, rules)

pub returns-then-space-eq0 : goal.returns-then-space-eq0
returns-then-space-eq0 c = search laws

pub returns-then-line-space : goal.returns-then-line-space
returns-then-line-space c = search laws

pub returns-then-end-space : goal.returns-then-end-space
returns-then-end-space c = search laws

pub returns-then-space-end : goal.returns-then-space-end
returns-then-space-end c = search laws

pub returns-then-end-line : goal.returns-then-end-line
returns-then-end-line c = search laws

pub returns : goal.returns
returns c = search laws
