-- `arena::release` meets its contract: link and depth are put, then the key is taken out.
use borrow.Author.Rules.{rules}
use Rattle.records.proofs.Laws.{free_is}
use Rattle.arena.proofs.Claims.{can_drop, released}
use Rattle.arena.proofs.release.Goals as goal

ruleset laws = (can_drop, released, rules)

pub overflow_add-c : goal.overflow_add-c
overflow_add-c c = let was = free_is _ _ _ c.cell-c.ensures in search rules

pub drop_key-requires : goal.drop_key-requires
drop_key-requires c =
    can_drop _ _ _ _ _ _ _ _ c.requires c.cell-h.ensures c.cell-c.ensures c.put_field.ensures c.put_field-2.ensures

pub returns : goal.returns
returns c = search laws
