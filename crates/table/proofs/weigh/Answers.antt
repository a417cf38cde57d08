use borrow.Author.Rules.{rules}
use native.Mathlib.Omega.{arith}
use Rattle.vocab.proofs.Shaped.{risen_up, risen_under, risen_rest}
use Rattle.table.proofs.Order.{shaped-first}
use Rattle.table.proofs.Weighing.{weight_start, units_start, weight_turn, units-turn, weighed_end, lent_units, lent_few}
use Rattle.table.proofs.weigh.Goals as goal

ruleset laws = (shaped-first, risen_up, risen_under, risen_rest, weight_start, units_start, weight_turn, units-turn, weighed_end, rules)

pub loop-n-init : goal.loop-n-init
loop-n-init c = search laws

pub slice_bounds-count_units-count : goal.slice_bounds-count_units-count
slice_bounds-count_units-count c = search laws

pub slice_bounds-count_units-start : goal.slice_bounds-count_units-start
slice_bounds-count_units-start c = search laws

pub slice_bounds-count_units-end : goal.slice_bounds-count_units-end
slice_bounds-count_units-end c = search laws

pub loop-n-preserved : goal.loop-n-preserved
loop-n-preserved c = let l = c.loop-n in
    let e = c.end_at-end in
    let f = c.frequency_at-f in
    let k = c.from_number-kind.ensures in
    let n = lent_units c.args.t.seeding _ k c.args.t.words.now l.last e.result _ c.count_units-u.ensures in
    let few = lent_few c.args.t.seeding _ k c.args.t.words.now l.last e.result _ c.count_units-u.ensures in
    let up = risen_up _ _ l.n _ l.invariant.3 _ (omega arith) e.ensures in
    let under = risen_under _ _ l.n _ l.invariant.3 _ (omega arith) e.ensures in
    let h = c.heavier-weight in (
      omega arith,
      omega arith,
      omega arith,
      risen_rest _ _ l.n _ l.invariant.3 _ (omega arith) e.ensures,
      weight_turn _ _ _ _ l.n _ _ (omega arith) e.ensures n _ _ (omega arith) f.ensures _ _ _ h.ensures l.invariant.4,
      units-turn _ _ _ _ l.n _ _ (omega arith) e.ensures n _ _ l.invariant.5,
    )

pub returns : goal.returns
returns c = let l = c.loop-n in
    weighed_end _ _ _ _ l.last l.n _ _ l.invariant.4 l.invariant.5 (omega arith) (omega arith) (omega arith) (omega arith)
