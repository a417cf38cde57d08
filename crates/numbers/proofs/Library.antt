-- What the library's `from_le_bytes` and `to_le_bytes` say is `load` and `store`. Assumes nothing.
use mathlib.Core.Path.{◌≡◌, refl, sym, ap, ◌∙◌}
use mathlib.Core.List.{List, [], ◌∷◌}
use Prim.Native.Nat.{ℕ, zero, suc, ◌+◌, ◌-◌, ◌/◌, ◌%◌, ◌^◌, ◌≤◌, ◌<◌}
use native.Mathlib.Omega.{arith}
use native.Mathlib.Nat.{div-div-eq-div-mul, div-one, pow-suc, pow-zero, mul_comm}
use borrow.Rule.Slice.PartMut.{put_mid}
use lib.ListN.{length, get_or, take, drop}
use lib.Seq.{take-suc, take_all, length-take-le}
use Rattle.std.specs.Int.{byte_worth, byte_at, sum_through, bytes_low_first, from_le_bytes, to_le_bytes, w32, w64}
use Rattle.runs.specs.Parts.{part, laid}
use Rattle.runs.proofs.Parts.{length-part, part_lent_on}
use Rattle.runs.proofs.Library.{mid_laid}
use Rattle.numbers.specs.Little.{little, spell, load, store}
use Rattle.numbers.proofs.Little.{little-append, length-spell}

-- READING

little_one : (b : ℕ) → little (b ∷ []) ≡ b
unfolding little
little_one b = omega arith

sum_little : (k : ℕ) (bs : List ℕ) → k < length bs → sum_through (λ i. byte_worth i (get_or bs i 0)) k ≡ little (take (suc k) bs)
sum_little zero [] h = absurd (omega arith)
sum_little zero (b ∷ bs) h = sym (little_one b)
sum_little (suc k) bs h =
    let x = get_or bs (suc k) 0 in
    let l : length (take (suc k) bs) ≡ suc k = length-take-le (suc k) bs (omega arith) in
    rw (take-suc bs (suc k) 0 h, little-append (take (suc k) bs) (x ∷ []), l, little_one x, sum_little k bs (omega arith), mul_comm x (256 ^ suc k))

part_little : (w k : ℕ) (xs : List ℕ) (at : ℕ) → w ≡ suc k → at + w ≤ length xs → (bs : List ℕ) → bs ≡ take (at + w - at) (drop at xs)
    → sum_through (λ i. byte_worth i (get_or bs i 0)) k ≡ load w xs at
unfolding load
part_little w k xs at e h bs p =
    let q : bs ≡ part at w xs = p ∙ part_lent_on at w xs in
    let l : length bs ≡ suc k = ap length q ∙ length-part at w xs h ∙ e in
    sum_little k bs (omega arith) ∙ ap little (take_all (suc k) bs (omega arith) ∙ q)

module _ (xs : List ℕ) (at : ℕ) (bs : List ℕ) (r : ℕ) where
  pub read4 : at + 4 ≤ length xs → bs ≡ take (at + 4 - at) (drop at xs) → r ≡ from_le_bytes w32 bs → r ≡ load 4 xs at
  read4 h p e = e ∙ part_little 4 3 xs at refl h bs p

  pub read8 : at + 8 ≤ length xs → bs ≡ take (at + 8 - at) (drop at xs) → r ≡ from_le_bytes w64 bs → r ≡ load 8 xs at
  read8 h p e = e ∙ part_little 8 7 xs at refl h bs p

-- WRITING

byte_is : (i v : ℕ) → byte_at i v ≡ v / 256 ^ i % 256
byte_is zero v = simp (pow-zero, div-one)
byte_is (suc i) v = refl

bytes_spell : (i w v : ℕ) → bytes_low_first i w v ≡ spell w (v / 256 ^ i)
unfolding spell
bytes_spell i zero v = refl
bytes_spell i (suc w) v =
    let d : v / 256 ^ suc i ≡ v / 256 ^ i / 256 = rw (pow-suc 256 i) (sym (div-div-eq-div-mul v (256 ^ i) 256)) in
    rw (byte_is i v, bytes_spell (suc i) w v, d)

spelt : (w v : ℕ) → bytes_low_first 0 w v ≡ spell w v
spelt w v = bytes_spell 0 w v ∙ ap (spell w) (simp (pow-zero, div-one))

module _ (w : ℕ) (xs ys : List ℕ) (at v : ℕ) where
  wrote : ys ≡ bytes_low_first 0 w v → put_mid at (at + w - at) xs ys ≡ store w xs at v
  unfolding store
  wrote e =
      let q : ys ≡ spell w v = e ∙ spelt w v in
      mid_laid xs ys at w (ap length q ∙ length-spell w v) ∙ ap (laid xs at) q

module _ (xs ys : List ℕ) (at v : ℕ) where
  pub written4 : ys ≡ to_le_bytes w32 v → put_mid at (at + 4 - at) xs ys ≡ store 4 xs at v
  written4 e = wrote 4 xs ys at v e

  pub written8 : ys ≡ to_le_bytes w64 v → put_mid at (at + 8 - at) xs ys ≡ store 8 xs at v
  written8 e = wrote 8 xs ys at v e
