-- `intern::add` meets its contract: what has no room is refused before anything is written; else the bytes, the end and the slot make one more piece.
use mathlib.Core.Path.{refl, ap}
use mathlib.Core.Bool.{not}
use mathlib.Core.Logic.{inl, inr}
use native.Mathlib.Omega.{arith}
use Rattle.intern.specs.Intern.{Lacks, Answer}
use Rattle.intern.proofs.Interning.{left, gave_new, fits_yes, fits_no}
use Rattle.intern.proofs.add.Goals as goal

pub returns-then-ends-count : goal.returns-then-ends-count
unfolding Answer Lacks
returns-then-ends-count c =
    (left _ _ _ _ _ _ _ _ _ c.requires, inl (omega (arith, c.if-ends-count.true)))

pub returns-then-not-fits : goal.returns-then-not-fits
unfolding Answer Lacks
returns-then-not-fits c =
    let g = c.args.spelling in
    let w = fits_no g.prefix.now g.unit.now g.suffix.now _ _ c.fits.ensures (ap not c.if-not-fits.true) in
    (left _ _ _ _ _ _ _ _ _ c.requires, inr (inl (omega (arith, w, c.requires.ok.rooms.bytes))))

pub returns-then-not-fits-2 : goal.returns-then-not-fits-2
unfolding Answer Lacks
returns-then-not-fits-2 c =
    let g = c.args.spelling in
    let w = fits_no g.prefix.now g.unit.now g.suffix.now _ _ c.fits-2.ensures (ap not c.if-not-fits-2.true) in
    (left _ _ _ _ _ _ _ _ _ c.requires, inr (inr (omega (arith, w, c.requires.ok.rooms.small))))

pub returns : goal.returns
unfolding Answer
returns c =
    let g = c.args.spelling in
    let w = fits_yes g.prefix.now g.unit.now g.suffix.now _ _ c.fits.ensures (ap not c.if-not-fits.false) in
    let v = fits_yes g.prefix.now g.unit.now g.suffix.now _ _ c.fits-2.ensures (ap not c.if-not-fits-2.false) in
    let h = c.hash_three-hash.ensures in
    gave_new _ _ _ _ _ _ _ _ _ c.requires _ _ _ _ _ _ h.0 h.1 c.decorate-end.ensures (omega (arith, c.if-ends-count.false)) (omega (arith, w, c.requires.ok.rooms.bytes)) (omega (arith, v, c.requires.ok.rooms.small)) c.store4.ensures _ refl c.put_cell.ensures
