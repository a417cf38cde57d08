-- `lists::len` meets its contract: a list holds its number.
use borrow.Author.Rules.{rules}
use Rattle.lists.specs.Lists.{length_of}
use Rattle.lists.proofs.len.Goals as goal

pub returns-in-Short : goal.returns-in-Short
unfolding length_of
returns-in-Short c = search rules

pub returns-in-Spilled : goal.returns-in-Spilled
unfolding length_of
returns-in-Spilled c = search rules
