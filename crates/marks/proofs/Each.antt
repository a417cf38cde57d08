-- The mask of each mark sets, clears and tells that mark of every byte, and no other digit.
use mathlib.Core.Path.{◌≡◌, refl}
use mathlib.Core.Bool.{true, false, not}
use Prim.Native.Nat.{ℕ, ◌-◌, ◌^◌, ◌<◌}
use lib.Bits.{bit_and, bit_or}
use lib.Dec.{eqb}
use Rattle.marks.specs.Marks.{touched, gained, blocked, marked, marking}
use Rattle.marks.specs.Places.{place}
use Rattle.marks.specs.declared.Mark.{Mark}
use Rattle.marks.specs.declared.Mark.TheVariants.{Touched, Gained, Blocked}
use Rattle.marks.proofs.Masks.{each, mask_sets, mask_clears, mask_tells}

pub sets : (k : Mark) (m : ℕ) → m < 256 → bit_or m (2 ^ place k) ≡ marking (place k) true m
unfolding each marking
sets Touched m h = mask_sets touched _ m refl h
sets Gained m h = mask_sets gained _ m refl h
sets Blocked m h = mask_sets blocked _ m refl h

pub clears : (k : Mark) (m : ℕ) → m < 256 → bit_and m (255 - 2 ^ place k) ≡ marking (place k) false m
unfolding each marking
clears Touched m h = mask_clears touched _ m refl h
clears Gained m h = mask_clears gained _ m refl h
clears Blocked m h = mask_clears blocked _ m refl h

pub tells : (k : Mark) (m : ℕ) → m < 256 → not (eqb (bit_and m (2 ^ place k)) 0) ≡ marked (place k) m
unfolding each marked
tells Touched m h = mask_tells touched _ m refl h
tells Gained m h = mask_tells gained _ m refl h
tells Blocked m h = mask_tells blocked _ m refl h
