-- `reports::raise` meets its contract: an entry, a count, a note and a touch are a raise.
use borrow.Author.Rules.{rules}
use Rattle.reports.proofs.Changes.{raise-enter, raise_fits, raise-touch, raise_done}
use Rattle.reports.proofs.raise.Goals as goal

ruleset laws = (raise-enter, raise_fits, raise-touch, raise_done, rules)

pub entry-requires : goal.entry-requires
entry-requires c = search laws

pub returns : goal.returns
returns c = search laws
