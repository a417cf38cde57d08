-- All regions of all stages fit into the work room that document 01 asks for, and no two of a stage overlap. Assumes nothing.
use mathlib.Core.Path.{◌≡◌, refl}
use Prim.Native.Nat.{ℕ, ◌+◌, ◌*◌, ◌/◌, ◌<◌, ◌≤◌}
use native.Mathlib.Omega.{arith}
use borrow.Author.Tests.{lt-ltb, le-ltb}
use Rattle.std.specs.Prelude.{min}
use Rattle.runs.proofs.Parts.{below_or_not}
use Rattle.rule.specs.Table.{room_for}
use Rattle.layout.specs.Layout.{slots_for, IndexSize, gathering, seeding, training, cells_for, Behind}

-- THE SLOTS OF THE TABLE OF UNITS

pub slots_few : (u : ℕ) → u < 1114368 → 2 * u + 1 ≡ slots_for u
unfolding slots_for
slots_few u h = rw (lt-ltb u 1114368 h)

pub slots_many : (u : ℕ) → 1114368 ≤ u → 2228737 ≡ slots_for u
unfolding slots_for
slots_many u h = rw (le-ltb u 1114368 h)

pub slots_least : (u : ℕ) → 2 * min u 1114368 + 1 ≡ slots_for u
slots_least u =
    below_or_not u 1114368
    (λ h. let m : min u 1114368 ≡ u = omega arith in rw m (slots_few u h))
    (λ h. let m : min u 1114368 ≡ 1114368 = omega arith in rw m (slots_many u h))

-- as many slots as can be needed, and no more than twice the units
pub slots_bounds : (u d : ℕ) → d ≤ u → d ≤ 1114368 → (d < slots_for u) × (slots_for u ≤ 2 * u + 1) × (slots_for u ≤ 2228737)
slots_bounds u d h k =
    below_or_not u 1114368
    (λ l. rw (← slots_few u l) (omega arith, omega arith, omega arith))
    (λ l. rw (← slots_many u l) (omega arith, omega arith, omega arith))

-- THE ROOM, in cells
pub cells_for_lem : (u a : ℕ) → cells_for u a ≡ room_for u a / 8
unfolding room_for
cells_for_lem u a = omega arith

-- ALL STAGES FIT, one region behind the other
pub gathering_fits : (u a : ℕ) → Behind 0 (cells_for u a) (gathering u)
unfolding Behind
gathering_fits u a = let s = slots_bounds u 0 (omega arith) (omega arith) in (refl, (omega arith, (refl, (refl, omega (arith, s.1)))))

-- no more seeds come first than 256 and the units (`first-units` of the rule)
pub seeding_fits : (u first a : ℕ) → first ≤ 256 + u → Behind 0 (cells_for u a) (seeding u first a)
unfolding Behind
seeding_fits u first a h = (refl, (omega arith, (refl, (refl, omega arith))))

pub training_fits : (u a cap : ℕ) → IndexSize u cap → Behind 0 (cells_for u a) (training u cap)
unfolding Behind
training_fits u a cap i = let h = i.below in (refl, (omega arith, (refl, (refl, (omega arith, (omega arith, (omega arith, omega arith)))))))
