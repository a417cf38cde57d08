-- The laws of the scans: a byte sought, digits passed, digits read. Each loop's start, turns and end. Assumes nothing.
use mathlib.Core.Path.{◌≡◌, refl, sym, ◌∙◌}
use mathlib.Core.Bool.{Bool, true, false, cond, not, and-eq-true_iff}
use mathlib.Core.List.{List, [], ◌∷◌}
use Prim.Native.Nat.{ℕ, suc, ◌+◌, ◌-◌, ◌*◌, ◌^◌, ◌<◌, ◌≤◌}
use native.Mathlib.Omega.{arith}
use native.Mathlib.Nat.{pow-succ', pow-le-pow_right, one-le-pow, mul-le-mul_left, mul-le-mul_right}
use native.Mathlib.Numerals.{add-one}
use Rattle.std.specs.Prelude.{◌==◌, Option, Some, None}
use Rattle.std.specs.List.{position, position_or_len}
use Rattle.std.specs.Char.{is_ascii_digit}
use Rattle.std.proofs.Common.{rules}
use Rattle.std.proofs.lemmas.Bool.Decides.{nat_tests}
use lib.Dec.{eqb, leb}
use lib.ListN.{length, get_or, take, drop, length-drop, drop_of_length-le}
use lib.Seq.{drop-cons, take_all}
use borrow.Author.Tests.{leb-true}
use Rattle.lines.specs.Lines.{before, is_digit, digits, decimal}
use Rattle.lines.specs.Places.{place_of, digits_end, value_at, Fits}

-- A PLACE FOUND: what the library's search gives

-- what a slice from a place on is
slice_rest : (run : List ℕ) (i : ℕ) → take (length run - i) (drop i run) ≡ drop i run
slice_rest run i = take_all (length run - i) (drop i run) (omega (arith, length-drop i run))

module _ (p : ℕ → Bool) (xs : List ℕ) (r : Option ℕ) (e : r ≡ position p xs) where
  at_some : (i : ℕ) → r ≡ Some i → (i ≡ position_or_len p xs) × (i < length xs)
  at_some i s = grind (arith, nat_tests)

  at_none : r ≡ None → length xs ≤ position_or_len p xs
  at_none s = grind (arith, nat_tests)

-- A BYTE SOUGHT

length-before : (byte : ℕ) (xs : List ℕ) → length (before byte xs) ≡ position_or_len (λ b. b == byte) xs
unfolding before
length-before byte [] = refl
length-before byte (b ∷ bs) = go (eqb b byte) (length-before byte bs)
  where
    go : (t : Bool) → length (before byte bs) ≡ position_or_len (λ c. c == byte) bs
        → length (cond t [] (b ∷ before byte bs)) ≡ cond (not t) (1 + position_or_len (λ c. c == byte) bs) 0
    go true e = refl
    go false e = omega (arith, e)

before_le : (byte : ℕ) (xs : List ℕ) → length (before byte xs) ≤ length xs
unfolding before
before_le byte [] = omega arith
before_le byte (b ∷ bs) = go (eqb b byte) (before_le byte bs)
  where
    go : (t : Bool) → length (before byte bs) ≤ length bs → length (cond t [] (b ∷ before byte bs)) ≤ suc (length bs)
    go true e = omega arith
    go false e = omega (arith, e)

module _ (byte : ℕ) (run : List ℕ) (from : ℕ) (h : from ≤ length run) (r : Option ℕ) (e : r ≡ position (λ b. b == byte) (take (length run - from) (drop from run))) where
  at_rest : r ≡ position (λ b. b == byte) (drop from run)
  at_rest = rw (slice_rest run from) at e

  pub found : (i : ℕ) → r ≡ Some i → (from + i ≡ place_of byte run from) × (from ≤ from + i) × (from + i ≤ length run)
  unfolding place_of
  found i s =
      let k = at_some (λ b. b == byte) (drop from run) r at_rest i s in
      let l = length-before byte (drop from run) in
      (omega (arith, k.0, l), omega arith, omega (arith, k.1, length-drop from run))

  pub found_none : r ≡ None → (length run ≡ place_of byte run from) × (from ≤ length run) × (length run ≤ length run)
  unfolding place_of
  found_none s =
      let k = at_none (λ b. b == byte) (drop from run) r at_rest s in
      let l = length-before byte (drop from run) in
      (omega (arith, k, l, before_le byte (drop from run), length-drop from run), h, omega arith)

-- DIGITS PASSED

digit_is : (b : ℕ) → is_ascii_digit b ≡ is_digit b
unfolding is_digit
digit_is b = search rules

length-digits : (xs : List ℕ) → length (digits xs) ≡ position_or_len (λ b. not (is_ascii_digit b)) xs
unfolding digits
length-digits [] = refl
length-digits (b ∷ bs) = rw (← digit_is b) (go (is_ascii_digit b) (length-digits bs))
  where
    go : (t : Bool) → length (digits bs) ≡ position_or_len (λ c. not (is_ascii_digit c)) bs
        → length (cond t (b ∷ digits bs) []) ≡ cond (not (not t)) (1 + position_or_len (λ c. not (is_ascii_digit c)) bs) 0
    go true e = omega (arith, e)
    go false e = refl

digits_le : (xs : List ℕ) → length (digits xs) ≤ length xs
unfolding digits
digits_le [] = omega arith
digits_le (b ∷ bs) = go (is_digit b) (digits_le bs)
  where
    go : (t : Bool) → length (digits bs) ≤ length bs → length (cond t (b ∷ digits bs) []) ≤ suc (length bs)
    go true e = omega (arith, e)
    go false e = omega arith

module _ (run : List ℕ) (from : ℕ) (h : from ≤ length run) (r : Option ℕ) (e : r ≡ position (λ b. not (is_ascii_digit b)) (take (length run - from) (drop from run))) where
  digits_rest : r ≡ position (λ b. not (is_ascii_digit b)) (drop from run)
  digits_rest = rw (slice_rest run from) at e

  pub passed : (i : ℕ) → r ≡ Some i → (from + i ≡ digits_end run from) × (from ≤ from + i) × (from + i ≤ length run)
  unfolding digits_end
  passed i s =
      let k = at_some (λ b. not (is_ascii_digit b)) (drop from run) r digits_rest i s in
      let l = length-digits (drop from run) in
      (omega (arith, k.0, l), omega arith, omega (arith, k.1, length-drop from run))

  pub passed_all : r ≡ None → (length run ≡ digits_end run from) × (from ≤ length run) × (length run ≤ length run)
  unfolding digits_end
  passed_all s =
      let k = at_none (λ b. not (is_ascii_digit b)) (drop from run) r digits_rest s in
      let l = length-digits (drop from run) in
      (omega (arith, k, l, digits_le (drop from run), length-drop from run), h, omega arith)

digits-more : (b : ℕ) (bs : List ℕ) → is_digit b ≡ true → digits (b ∷ bs) ≡ b ∷ digits bs
unfolding digits
digits-more b bs e = rw e

digits_stop : (b : ℕ) (bs : List ℕ) → is_digit b ≡ false → digits (b ∷ bs) ≡ []
unfolding digits
digits_stop b bs e = rw e

digits_none : digits [] ≡ []
unfolding digits
digits_none = refl

digit_range : (b : ℕ) → is_digit b ≡ true → (48 ≤ b) × (b ≤ 57)
unfolding is_digit
digit_range b e = let a = (and-eq-true_iff (leb 48 b) (leb b 57)).0 e in (leb-true 48 b a.0, leb-true b 57 a.1)

-- at a place of a run: one more digit, or none from there on
module _ (run : List ℕ) (i : ℕ) where
  more_at : i < length run → is_digit (get_or run i 0) ≡ true → digits (drop i run) ≡ get_or run i 0 ∷ digits (drop (i + 1) run)
  more_at h a = rw (drop-cons run i 0 h, add-one i) (digits-more (get_or run i 0) (drop (suc i) run) a)

  other_at : i < length run → is_digit (get_or run i 0) ≡ false → digits (drop i run) ≡ []
  other_at h a = rw (drop-cons run i 0 h) (digits_stop (get_or run i 0) (drop (suc i) run) a)

  end_at_lem : length run ≤ i → digits (drop i run) ≡ []
  end_at_lem h = rw (drop_of_length-le run h) digits_none

-- DIGITS READ

decimal_none : (v : ℕ) → decimal v [] ≡ v
unfolding decimal
decimal_none v = refl

decimal-more : (v d : ℕ) (ds : List ℕ) → decimal v (d ∷ ds) ≡ decimal (v * 10 + (d - 48)) ds
unfolding decimal
decimal-more v d ds = refl

module _ (run : List ℕ) (v i r : ℕ) (inv : r ≡ value_at run v i) (t : Bool) (e : t ≡ is_ascii_digit (get_or run i 0)) where
  pub value_other : i < length run → t ≡ false → v ≡ r
  unfolding value_at
  value_other h n =
      let d : is_digit (get_or run i 0) ≡ false = sym (digit_is (get_or run i 0)) ∙ sym e ∙ n in
      sym (inv ∙ rw (other_at run i h d) (decimal_none v))

  pub value-turn : i < length run → t ≡ true → r ≡ value_at run (v * 10 + (get_or run i 0 - 48)) (i + 1)
  unfolding value_at
  value-turn h n =
      let d : is_digit (get_or run i 0) ≡ true = sym (digit_is (get_or run i 0)) ∙ sym e ∙ n in
      inv ∙ rw (more_at run i h d) (decimal-more v (get_or run i 0) (digits (drop (i + 1) run)))

pub value_over : (run : List ℕ) (v i r : ℕ) → r ≡ value_at run v i → length run ≤ i → v ≡ r
unfolding value_at
value_over run v i r inv h = sym (inv ∙ rw (end_at_lem run i h) (decimal_none v))

-- 18 digits at most: below 10 ^ 18, so that no step wraps
module _ (run : List ℕ) (v i : ℕ) (f : Fits run v i) (h : i < length run) (t : Bool) (e : t ≡ is_ascii_digit (get_or run i 0)) (n : t ≡ true) where
  is_one : is_digit (get_or run i 0) ≡ true
  is_one = sym (digit_is (get_or run i 0)) ∙ sym e ∙ n

  fits_step : (v + 1) * (10 * 10 ^ length (digits (drop (i + 1) run))) ≤ 10 ^ 18
  unfolding Fits
  fits_step = rw (more_at run i h is_one, pow-succ' 10 (length (digits (drop (i + 1) run)))) at f

  pub fits_small : v * 10 + 10 ≤ 1000000000000000000
  fits_small =
      let p = 10 ^ length (digits (drop (i + 1) run)) in
      let s = mul-le-mul_left {m = 1} {n = p} (v * 10 + 10) (one-le-pow (length (digits (drop (i + 1) run))) 10 (omega arith)) in
      omega (arith, s, fits_step)

  pub fits_turn : Fits run (v * 10 + (get_or run i 0 - 48)) (i + 1)
  unfolding Fits
  fits_turn =
      let p = 10 ^ length (digits (drop (i + 1) run)) in
      let d = digit_range (get_or run i 0) is_one in
      let s = mul-le-mul_right {m = v * 10 + (get_or run i 0 - 48) + 1} {n = v * 10 + 10} p (omega (arith, d.1)) in
      omega (arith, s, fits_step)

-- the digits of a slice from a place on

pub fits_rest : (run : List ℕ) (i : ℕ) → Fits run 0 i → Fits (take (length run - i) (drop i run)) 0 0
unfolding Fits
fits_rest run i f = rw (slice_rest run i) f

pub value_rest : (run : List ℕ) (i : ℕ) → value_at (take (length run - i) (drop i run)) 0 0 ≡ value_at run 0 i
unfolding value_at
value_rest run i = rw (slice_rest run i)

-- what at most 18 digits are
pub fits_start : (run : List ℕ) (i : ℕ) → length (digits (drop i run)) ≤ 18 → Fits run 0 i
unfolding Fits
fits_start run i h =
    let p = pow-le-pow_right {n = 10} (omega arith) h in
    omega (arith, p)
