-- `codes::write_codes` meets its contract: each answer by the tests that lead to it.
use mathlib.Core.Path.{ap}
use mathlib.Core.Bool.{not}
use borrow.Author.Rules.{rules}
use Rattle.codes.proofs.Answers.{wrote_few, wrote_long, wrote_first, wrote_merges, wrote_lines, wrote_text}
use borrow.Author.Rules.{rules}
use Rattle.codes.proofs.write_codes.Goals as goal

ruleset laws = (wrote_few, wrote_long, wrote_first, wrote_merges, wrote_lines, wrote_text, rules)

pub returns-then-merges-count : goal.returns-then-merges-count
returns-then-merges-count c = search laws

pub returns-then-not-fits : goal.returns-then-not-fits
returns-then-not-fits c = search laws

pub put-first-requires : goal.put-first-requires
put-first-requires c = wrote_first c.args.out.now _ _ _ _ c.if-merges-count.false _ c.fits.ensures (ap not c.if-not-fits.false)

pub write_lines-requires : goal.write_lines-requires
write_lines-requires c = (
  wrote_merges _ _ _ _ _ c.if-merges-count.false _ c.fits.ensures (ap not c.if-not-fits.false) _ _ c.put-first.ensures,
  wrote_lines _ _ _ _ _ c.if-merges-count.false _ c.fits.ensures (ap not c.if-not-fits.false) _ _ c.put-first.ensures,
)

pub returns : goal.returns
returns c = search laws
