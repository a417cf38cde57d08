-- `notes::add_long` meets its contract: the word in the run, then the number.
use borrow.Author.Rules.{rules}
use Rattle.records.proofs.Laws.{live-within}
use Rattle.notes.proofs.Adding.{can_number, added_long}
use Rattle.notes.proofs.add_long.Goals as goal

ruleset laws = (live-within, rules)

pub get-place-requires : goal.get-place-requires
get-place-requires c = search laws

pub put-requires : goal.put-requires
put-requires c = can_number _ _ _ _ _ _ _ _ _ c.requires c.widen.ensures c.get-place.ensures (rw c.words.ensures at c.put_cell.ensures.is)

pub returns : goal.returns
returns c =
    added_long _ _ _ _ _ _ _ _ _ c.requires c.widen.ensures c.get-place.ensures (rw c.words.ensures at c.put_cell.ensures.is) _ c.put.ensures
