-- `lines::line_end` meets its contract: a line goes up to and with its LF.
use borrow.Author.Rules.{rules}
use Rattle.lines.proofs.Cuts.{line_lf, line_last}
use borrow.Author.Rules.{rules}
use Rattle.lines.proofs.line_end.Goals as goal

ruleset laws = (line_lf, line_last, rules)

pub returns-then-end-text : goal.returns-then-end-text
returns-then-end-text c = search laws

pub returns : goal.returns
returns c = search laws
