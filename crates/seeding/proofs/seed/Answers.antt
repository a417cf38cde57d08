-- `seeding::seed` meets its contract: the stages one behind the other.
use borrow.Author.Rules.{rules}
use native.Mathlib.Omega.{arith}
use Rattle.seeding.proofs.Whole.{whole_few, whole_counting, first_low, symbols_few, whole_room, whole_begin, whole_on, whole_out, whole_done}
use Rattle.seeding.proofs.seed.Goals as goal

ruleset laws = (whole_few, whole_counting, first_low, symbols_few, whole_room, whole_begin, rules)

pub count_first-first-requires : goal.count_first-first-requires
count_first-first-requires c = search laws

pub spellings_for-cap-requires-clause-first_bound : goal.spellings_for-cap-requires-clause-first_bound
spellings_for-cap-requires-clause-first_bound c = search laws

pub spellings_for-cap-requires-clause-symbols_bound : goal.spellings_for-cap-requires-clause-symbols_bound
spellings_for-cap-requires-clause-symbols_bound c = search laws

pub clear_cells-requires : goal.clear_cells-requires
clear_cells-requires c = search laws

pub seed_first-requires : goal.seed_first-requires
seed_first-requires c = search laws

pub returns-in_err-filled : goal.returns-in_err-filled
returns-in_err-filled c =
    whole_out _ _ _ _ _ _ _ _ _ _ c.requires c.count_first-first.ensures.bytes _ (omega (arith, c.count_first-first.auto)) _ c.count_first-first.ensures.counted
    _ _ _ _ c.table_at-base.ensures c.spellings_for-cap.ensures _ _ _ _ c.in_err-filled.ensures _ _ _ _ c.from_residual.ensures.0

pub seed_rest-requires : goal.seed_rest-requires
seed_rest-requires c =
    whole_on _ _ _ _ _ _ _ _ _ _ c.requires c.count_first-first.ensures.bytes _ (omega (arith, c.count_first-first.auto)) _ c.count_first-first.ensures.counted
    _ _ _ _ c.table_at-base.ensures c.spellings_for-cap.ensures _ _ _ _ c.in_ok-filled.ensures

pub returns : goal.returns
returns c =
    whole_done _ _ _ _ _ _ _ _ _ _ c.requires c.count_first-first.ensures.bytes _ (omega (arith, c.count_first-first.auto)) _ c.count_first-first.ensures.counted
    _ _ _ _ c.table_at-base.ensures c.spellings_for-cap.ensures _ _ _ _ c.in_ok-filled.ensures _ _ _ _ c.seed_rest.ensures
