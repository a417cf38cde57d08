-- `table::judge` meets its contract: each answer by the tests that lead to it.
use borrow.Author.Rules.{rules}
use Rattle.table.proofs.Rows.{sound, limits}
use Rattle.table.proofs.Answers.{table_shape, table-many, table-words}
use Rattle.table.proofs.judge.Goals as goal

ruleset laws = (table_shape, table-many, table-words, rules)

pub returns-then-bad_shape : goal.returns-then-bad_shape
returns-then-bad_shape c = search laws

pub returns-then-too_many : goal.returns-then-too_many
returns-then-too_many c = search laws

pub judge_words-requires : goal.judge_words-requires
judge_words-requires c = let s = sound _ _ _ _ _ _ _ c.bad_shape.ensures c.if-bad_shape.false in
    let l = limits _ _ _ _ _ _ _ _ c.too_many.ensures c.if-too_many.false in
    (s.counts, s.words-shaped, l.bytes_few, l.symbols_few)

pub returns : goal.returns
returns c = search laws
