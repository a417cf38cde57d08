-- Each mark, set, cleared and tested, seen through itself and through the others. The laws hold at every place and of every number.
-- That two places differ is a test, which two numerals pass by `refl`.
use mathlib.Core.Path.{◌≡◌, refl, sym, ◌∙◌}
use mathlib.Core.Bool.{Bool, true, false, cond}
use Prim.Native.Nat.{ℕ, zero, suc, ◌+◌, ◌*◌, ◌/◌, ◌%◌, ◌<◌}
use native.Mathlib.Omega.{arith}
use lib.Dec.{eqb, eqb-suc-suc}
use Rattle.marks.specs.Marks.{marked, marking}

-- a last digit put behind a number comes off again
half : (x m : ℕ) → (x * 2 + m % 2) / 2 ≡ x
half x m = omega arith

last : (x m : ℕ) → (x * 2 + m % 2) % 2 ≡ m % 2
last x m = omega arith

half_mark : (x : ℕ) (b : Bool) → (x * 2 + cond b 1 0) / 2 ≡ x
half_mark x true = omega arith
half_mark x false = omega arith

last_mark : (x : ℕ) (b : Bool) → (x * 2 + cond b 1 0) % 2 ≡ cond b 1 0
last_mark x true = omega arith
last_mark x false = omega arith

-- a mark made so is so
pub marked-same : (k : ℕ) (b : Bool) (m : ℕ) → marked k (marking k b m) ≡ b
unfolding marked marking
marked-same zero true m = rw (last_mark (m / 2) true)
marked-same zero false m = rw (last_mark (m / 2) false)
marked-same (suc k) b m = rw half (marked-same k b (m / 2))

-- and every other is as it was
pub marked_other : (j k : ℕ) (b : Bool) (m : ℕ) → eqb j k ≡ false → marked j (marking k b m) ≡ marked j m
unfolding marked marking
marked_other zero zero b m h = cc
marked_other zero (suc k) b m h = rw last
marked_other (suc j) zero b m h = rw half_mark
marked_other (suc j) (suc k) b m h = rw half (marked_other j k b (m / 2) (sym (eqb-suc-suc j k) ∙ h))

-- no mark of `NONE` is set
pub marked_none : (k : ℕ) → marked k 0 ≡ false
unfolding marked
marked_none zero = refl
marked_none (suc k) = marked_none k

-- of two changes at one place the later counts
pub marking-same : (k : ℕ) (b c : Bool) (m : ℕ) → marking k b (marking k c m) ≡ marking k b m
unfolding marking
marking-same zero b c m = rw half_mark
marking-same (suc k) b c m = simp (half, last, marking-same k)

-- the order of two changes at different places does not matter
pub marking_other : (j k : ℕ) (b c : Bool) (m : ℕ) → eqb j k ≡ false → marking j b (marking k c m) ≡ marking k c (marking j b m)
unfolding marking
marking_other zero zero b c m h = cc
marking_other zero (suc k) b c m h = simp (half, half_mark, last_mark)
marking_other (suc j) zero b c m h = simp (half, half_mark, last_mark)
marking_other (suc j) (suc k) b c m h = simp (half, last) (rw (marking_other j k b c (m / 2) (sym (eqb-suc-suc j k) ∙ h)))

-- a mark made as it is changes nothing
pub marking_as_is : (k m : ℕ) → marking k (marked k m) m ≡ m
unfolding marked marking
marking_as_is zero m = go (m % 2) refl (omega arith)
  where
    go : (d : ℕ) → m % 2 ≡ d → d < 2 → m / 2 * 2 + cond (eqb d 1) 1 0 ≡ m
    go zero e h = omega arith
    go (suc zero) e h = omega arith
    go (suc (suc d)) e h = absurd (omega arith)
marking_as_is (suc k) m = let e = marking_as_is k (m / 2) in omega arith
