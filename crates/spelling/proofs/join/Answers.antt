-- `spelling::join` meets its contract: the left spelling is laid first, and the right one still stands below it.
use borrow.Author.Rules.{rules}
use native.Mathlib.Omega.{arith}
use Rattle.spelling.proofs.Writing.{join_written, rest_is}
use Rattle.spelling.proofs.join.Goals as goal

ruleset laws = (join_written, rest_is, rules)

pub copy_within-requires-2 : goal.copy_within-requires-2
copy_within-requires-2 c =
    omega (arith, rest_is c.args.prefix.now c.args.run.now c.args.right.start c.args.right.length _ c.stripped_length-rest.ensures.0)

pub returns : goal.returns
returns c = search laws
