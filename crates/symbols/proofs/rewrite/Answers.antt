use borrow.Author.Rules.{rules}
use Rattle.symbols.proofs.Passes.{going_start, going_room, going_store, going_turn, going_end}
use Rattle.symbols.proofs.rewrite.Goals as goal

ruleset laws = (going_start, going_room, going_store, going_turn, going_end, rules)

pub loop-i-init : goal.loop-i-init
loop-i-init c = search laws

pub write_reports-at-requires : goal.write_reports-at-requires
write_reports-at-requires c = search laws

pub loop-i-preserved : goal.loop-i-preserved
loop-i-preserved c = search laws

pub returns : goal.returns
returns c = search laws
