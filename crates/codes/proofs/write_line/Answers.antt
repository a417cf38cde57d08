-- `codes::write_line` meets its contract: two spellings, each with the byte behind it.
use borrow.Author.Rules.{rules}
use Rattle.codes.proofs.Laying.{line-first, line_second, line-laid}
use borrow.Author.Rules.{rules}
use Rattle.codes.proofs.write_line.Goals as goal

ruleset laws = (line-first, line_second, line-laid, rules)

pub put-middle-requires : goal.put-middle-requires
put-middle-requires c = search laws

pub put-requires : goal.put-requires
put-requires c = search laws

pub returns : goal.returns
returns c = search laws
