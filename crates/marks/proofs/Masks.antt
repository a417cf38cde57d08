-- Masks on a byte: a test that is computed at all 256 values, and the law that makes of it a fact at each.
use mathlib.Core.Path.{◌≡◌, refl}
use mathlib.Core.Bool.{Bool, true, false, ◌&&◌, not, beq, and-eq-true_iff}
use mathlib.Core.Logic.{⊎_elim}
use Prim.Native.Nat.{ℕ, zero, suc, ◌<◌}
use native.Mathlib.Nat.{not-suc-le-zero, le_of_suc-le-suc, eq-or-lt_of_le}
use lib.Bits.{bit_and, bit_or}
use lib.Dec.{eqb}
use borrow.Author.Tests.{eqb-true}
use Rattle.marks.specs.Marks.{marked, marking}

-- the test holds of each number below n
unfoldable pub each : (ℕ → Bool) → ℕ → Bool
each f zero = true
each f (suc n) = f n && each f n

pub each_below : (f : ℕ → Bool) (n : ℕ) → each f n ≡ true → (m : ℕ) → m < n → f m ≡ true
unfolding each
each_below f zero t m h = absurd (not-suc-le-zero h)
each_below f (suc n) t m h =
    let p = (and-eq-true_iff (f n) (each f n)).0 t in
    ⊎_elim (λ (e : m ≡ n). rw e p.0) (λ (l : m < n). each_below f n p.1 m l) (eq-or-lt_of_le (le_of_suc-le-suc h))

same : (a b : Bool) → beq a b ≡ true → a ≡ b
same true true t = refl
same true false t = cc
same false true t = cc
same false false t = refl

-- A mask sets, clears or tells the mark at the place k, and no other digit of a byte, if it does so at each of the 256.
module _ (k mask m : ℕ) where
  pub mask_sets : each (λ (j : ℕ). eqb (bit_or j mask) (marking k true j)) 256 ≡ true → m < 256 → bit_or m mask ≡ marking k true m
  mask_sets t h = eqb-true _ _ (each_below (λ (j : ℕ). eqb (bit_or j mask) (marking k true j)) 256 t m h)

  pub mask_clears : each (λ (j : ℕ). eqb (bit_and j mask) (marking k false j)) 256 ≡ true → m < 256 → bit_and m mask ≡ marking k false m
  mask_clears t h = eqb-true _ _ (each_below (λ (j : ℕ). eqb (bit_and j mask) (marking k false j)) 256 t m h)

  pub mask_tells : each (λ (j : ℕ). beq (not (eqb (bit_and j mask) 0)) (marked k j)) 256 ≡ true → m < 256 → not (eqb (bit_and m mask) 0) ≡ marked k m
  mask_tells t h = same _ _ (each_below (λ (j : ℕ). beq (not (eqb (bit_and j mask) 0)) (marked k j)) 256 t m h)
