-- `lines::write_line` meets its contract: the word is what stands before the space, the frequency what the digits behind it come to.
use mathlib.Core.Path.{◌∙◌}
use native.Mathlib.Omega.{arith}
use lib.ListN.{length-take}
use Rattle.lines.proofs.Judged.{space_is, well_space, well_fits}
use Rattle.lines.proofs.Scans.{fits_rest, value_rest}
use Rattle.lines.proofs.Writing.{wrote}
use Rattle.lines.proofs.write_line.Goals as goal

pub slice_bounds-value-count : goal.slice_bounds-value-count
slice_bounds-value-count c = omega (arith, well_space _ _ c.requires.good c.find_from-space.ensures.0)

pub slice_bounds-value-start : goal.slice_bounds-value-start
slice_bounds-value-start c = omega (arith, well_space _ _ c.requires.good c.find_from-space.ensures.0)

pub value-frequency-requires : goal.value-frequency-requires
value-frequency-requires c = fits_rest _ _ (well_fits _ _ c.requires.good c.find_from-space.ensures.0)

pub copy-requires : goal.copy-requires
copy-requires c = let z = space_is _ _ c.find_from-space.ensures.0 in simp length-take (omega (arith, z, c.requires.word))

pub overflow_cast-end : goal.overflow_cast-end
overflow_cast-end c = omega (arith, space_is _ _ c.find_from-space.ensures.0, c.requires.small)

pub returns : goal.returns
returns c =
    wrote _ _ _ _ _ _ _ _ _ _ _ c.find_from-space.ensures.0 (c.value-frequency.ensures ∙ value_rest _ _) c.copy.ensures c.store4.ensures c.store8.ensures
