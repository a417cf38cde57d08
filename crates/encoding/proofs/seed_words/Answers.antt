-- `encoding::seed_words` meets its contract: each end is where the next word begins.
use borrow.Author.Rules.{rules}
use native.Mathlib.Omega.{arith}
use mathlib.Core.Path.{refl}
use Prim.Native.Nat.{◌/◌, ◌<◌}
use lib.ListN.{length}
use Rattle.vocab.proofs.Shaped.{shaped_rises, risen_up, risen_under, risen_rest}
use Rattle.encoding.proofs.Words.{words_start, words_end, words_can, words_room, words-place, words-out, words_next}
use Rattle.encoding.proofs.seed_words.Goals as goal

ruleset laws = (shaped_rises, risen_up, risen_under, risen_rest, words_start, rules)

pub loop-k-init : goal.loop-k-init
loop-k-init c = search laws

pub slice_bounds-word-count : goal.slice_bounds-word-count
slice_bounds-word-count c = search laws

pub slice_bounds-word-start : goal.slice_bounds-word-start
slice_bounds-word-start c = search laws

pub slice_bounds-word-end : goal.slice_bounds-word-end
slice_bounds-word-end c = search laws

pub seed_entry-requires-clause-can_seed : goal.seed_entry-requires-clause-can_seed
seed_entry-requires-clause-can_seed c =
    let l = c.loop-k in
    words_can _ _ _ _ _ _ _ _ _ _ _ _ _ l.last l.k l.so_far _ _ _ _ _ l.invariant.4 (omega (arith, l.invariant.0)) l.invariant.1 _ _ c.end_at-end.ensures c.load8-f.ensures

pub seed_entry-requires-clause-words : goal.seed_entry-requires-clause-words
seed_entry-requires-clause-words c =
    let l = c.loop-k in
    let h : l.k < length c.args.t.word_ends.now / 4 = omega (arith, l.invariant.0) in (
      l.invariant.4.words,
      words_room _ _ _ _ _ _ _ _ _ _ _ _ _ l.last l.k l.so_far _ _ _ _ _ l.invariant.4 h l.invariant.1 _ _ c.end_at-end.ensures c.load8-f.ensures,
      words-place _ _ _ _ _ _ _ _ _ _ _ _ _ l.last l.k l.so_far _ _ _ _ _ l.invariant.4 h l.invariant.1 _ _ c.end_at-end.ensures c.load8-f.ensures,
    )

pub returns-in_err-so_far : goal.returns-in_err-so_far
returns-in_err-so_far c =
    let l = c.loop-k in
    words-out _ _ _ _ _ _ _ _ _ _ _ _ _ l.last l.k l.so_far _ _ _ _ _ l.invariant.4 (omega (arith, l.invariant.0)) l.invariant.1 _ _ c.end_at-end.ensures c.load8-f.ensures
    _ _ _ _ _ c.in_err-so_far.ensures _ c.from_residual.ensures.0

pub loop-k-preserved : goal.loop-k-preserved
loop-k-preserved c =
    let l = c.loop-k in
    let h : l.k < length c.args.t.word_ends.now / 4 = omega (arith, l.invariant.0) in
    let e = c.end_at-end.ensures in (
      l.invariant.0,
      l.invariant.1,
      risen_under _ _ l.k _ l.invariant.3 _ h e,
      risen_rest _ _ l.k _ l.invariant.3 _ h e,
      words_next _ _ _ _ _ _ _ _ _ _ _ _ _ l.last l.k l.so_far _ _ _ _ _ l.invariant.4 h l.invariant.1 _ _ e c.load8-f.ensures _ _ _ _ c.in_ok-so_far.ensures,
    )

pub returns : goal.returns
returns c =
    let l = c.loop-k in
    words_end _ _ _ _ _ _ _ _ _ _ _ _ _ l.last l.k l.so_far _ _ _ _ _ l.invariant.4 _ refl (omega (arith, l.invariant.0))
