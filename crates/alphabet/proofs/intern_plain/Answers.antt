-- `alphabet::intern_plain` meets its contract: the spelling between two empty parts is itself.
use borrow.Author.Rules.{rules}
use Rattle.alphabet.proofs.Going.{plain, one_done, one_out}
use Rattle.alphabet.proofs.intern_plain.Goals as goal

ruleset laws = (plain, one_done, one_out, rules)

pub returns-in_err-interned : goal.returns-in_err-interned
returns-in_err-interned c = search laws

pub returns : goal.returns
returns c = search laws
