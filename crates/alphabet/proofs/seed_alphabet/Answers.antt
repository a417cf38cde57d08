-- `alphabet::seed_alphabet` meets its contract: each end is where the next part begins.
use native.Mathlib.Omega.{arith}
use borrow.Author.Rules.{rules}
use Rattle.vocab.proofs.Shaped.{shaped_rises, risen_up, risen_under, risen_rest}
use Rattle.alphabet.proofs.Going.{part_start, going_can, part_next, part-out, part_end}
use Rattle.alphabet.proofs.seed_alphabet.Goals as goal

ruleset laws = (shaped_rises, risen_up, risen_under, risen_rest, part_start, going_can, part_next, part-out, part_end, rules)

pub loop-k-init : goal.loop-k-init
loop-k-init c = search laws

pub slice_bounds-intern_plain-count : goal.slice_bounds-intern_plain-count
slice_bounds-intern_plain-count c = search laws

pub slice_bounds-intern_plain-start : goal.slice_bounds-intern_plain-start
slice_bounds-intern_plain-start c = search laws

pub slice_bounds-intern_plain-end : goal.slice_bounds-intern_plain-end
slice_bounds-intern_plain-end c = search laws

pub intern_plain-requires : goal.intern_plain-requires
intern_plain-requires c = search laws

pub returns-in_err-so_far : goal.returns-in_err-so_far
returns-in_err-so_far c = search laws

pub loop-k-preserved : goal.loop-k-preserved
loop-k-preserved c =
    let l = c.loop-k in
    let e = c.end_at-end.ensures in (
      l.invariant.0,
      risen_under _ _ l.k _ l.invariant.2 _ (omega (arith, l.invariant.0)) e,
      risen_rest _ _ l.k _ l.invariant.2 _ (omega (arith, l.invariant.0)) e,
      part_next _ _ _ _ _ _ _ _ _ _ _ l.so_far _ _ _ l.k l.invariant.3 (omega (arith, l.invariant.0)) _ e _ _ _ _ c.in_ok-so_far.ensures,
    )

pub returns : goal.returns
returns c = search laws
