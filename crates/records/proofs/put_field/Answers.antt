-- `records::put_field` meets its contract: one field of one live record is put.
use borrow.Author.Rules.{rules}
use Rattle.records.proofs.Laws.{live_low, did_put-field}
use Rattle.records.proofs.put_field.Goals as goal

ruleset laws = (live_low, did_put-field, rules)

pub store-requires : goal.store-requires
store-requires c = search laws

pub returns : goal.returns
returns c = search laws
