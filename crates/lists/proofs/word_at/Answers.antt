-- `lists::word_at` meets its contract: a short list stands in the record, a long one in its run.
use borrow.Author.Rules.{rules}
use native.Mathlib.Omega.{arith}
use Rattle.fields.proofs.Fields.{has_get}
use Rattle.lists.proofs.Reading.{word_short, word_long_lem, long_room, short_low}
use Rattle.lists.proofs.word_at.Goals as goal

ruleset laws = (has_get, rules)

pub get-n-requires : goal.get-n-requires
get-n-requires c = search laws

pub get-requires : goal.get-requires
get-requires c = has_get _ _ _ _ c.requires.0 _ (short_low _ _ _ _ c.requires.0 _ _ c.get-n.ensures c.requires.1 c.if-n-le4.true)

pub returns-then-n-le4 : goal.returns-then-n-le4
returns-then-n-le4 c = word_short _ _ _ _ c.requires.0 _ _ c.get-n.ensures c.requires.1 _ c.if-n-le4.true c.get.ensures

pub get-place-requires : goal.get-place-requires
get-place-requires c = search laws

pub cell-requires : goal.cell-requires
cell-requires c =
    rw c.words.ensures (long_room _ _ _ _ c.requires.0 _ _ c.get-n.ensures c.requires.1 _ c.if-n-le4.false c.get-place.ensures)

pub returns : goal.returns
returns c =
    word_long_lem _ _ _ _ c.requires.0 _ _ c.get-n.ensures c.requires.1 _ _ c.if-n-le4.false c.get-place.ensures
    (rw c.words.ensures at c.cell.ensures)

pub overflow_add-j : goal.overflow_add-j
overflow_add-j c = omega (arith, short_low _ _ _ _ c.requires.0 _ _ c.get-n.ensures c.requires.1 c.if-n-le4.true)

pub overflow_add-words : goal.overflow_add-words
overflow_add-words c =
    omega (
      arith,
      long_room _ _ _ _ c.requires.0 _ _ c.get-n.ensures c.requires.1 _ c.if-n-le4.false c.get-place.ensures,
      c.words.ensures,
      c.requires.0.ok.ix.small,
    )

pub overflow_add-words-2 : goal.overflow_add-words-2
overflow_add-words-2 c =
    omega (
      arith,
      long_room _ _ _ _ c.requires.0 _ _ c.get-n.ensures c.requires.1 _ c.if-n-le4.false c.get-place.ensures,
      c.words.ensures,
      c.requires.0.ok.ix.small,
    )
