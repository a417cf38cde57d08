-- A pair as one number: two pairs never share it, its symbols are read back, and its order is that of pairs. Assumes nothing.
use mathlib.Core.Path.{◌≡◌, refl}
use Prim.Native.Nat.{ℕ, ◌+◌, ◌*◌, ◌<◌, ◌≤◌}
use native.Mathlib.Omega.{arith}
use Rattle.states.specs.State.{most, key, left_of, right_of, OfPair}

-- a key as the code makes it
pub key-made : (a b : ℕ) → a * 4294967296 + b + 1 ≡ key a b
unfolding key
key-made a b = refl

pub key_pos : (p q : ℕ) → 0 < key p q
unfolding key
key_pos p q = omega arith

pub key_single : (p q p' q' : ℕ) → q < most → q' < most → key p q ≡ key p' q' → (p ≡ p') × (q ≡ q')
unfolding key
key_single p q p' q' h k e = let f : p ≡ p' = omega arith in (f, omega arith)

pub left_key : (p q : ℕ) → q < most → left_of (key p q) ≡ p
unfolding key left_of
left_key p q h = omega arith

pub right_key : (p q : ℕ) → q < most → right_of (key p q) ≡ q
unfolding key right_of
right_key p q h = omega arith

pub of_key : (p q : ℕ) → p < most → q < most → OfPair (key p q)
of_key p q h k =
    let l = left_key p q k in
    let r = right_key p q k in
    record { is = rw (l, r); left = omega arith; right = omega arith }

-- a lower number is a lower pair, by the left symbol, then by the right; 0 acts as 1
pub key_order : (c d : ℕ) → c ≤ d → (left_of c ≤ left_of d) × (left_of c ≡ left_of d → right_of c ≤ right_of d)
unfolding left_of right_of
key_order c d h = (omega arith, λ e. omega arith)

-- a pair's number is above 0
pub pair_pos : (c : ℕ) → OfPair c → 0 < c
pair_pos c p = rw (← p.is) (key_pos (left_of c) (right_of c))
