-- The laws of a text's lines: where the first ends, and the passes that count them and seek a malformed one. Assumes nothing.
use mathlib.Core.Path.{◌≡◌, refl, sym, ap, ◌∙◌}
use mathlib.Core.Bool.{Bool, true, false, cond, not}
use mathlib.Core.List.{List, [], ◌∷◌}
use Prim.Native.Nat.{ℕ, suc, ◌+◌, ◌-◌, ◌<◌, ◌≤◌}
use Rattle.std.specs.Prelude.{Some, None}
use native.Mathlib.Omega.{arith}
use lib.Dec.{eqb}
use lib.ListN.{length, take, drop, length-drop, drop_of_length-le}
use lib.Seq.{drop-drop, take_all}
use borrow.Author.Tests.{not-true, not-false}
use Rattle.rule.specs.Shapes.{first}
use Rattle.lines.specs.Lines.{ahead, lines, before, well_formed, bad_among, first_bad}
use Rattle.lines.specs.Places.{place_of, lines_from, Sought, Line}

-- A LINE UP TO AND WITH ITS LF, and the last one that has none

with_lf : (xs : List ℕ) → length (before 10 xs) < length xs
    → lines xs ≡ take (suc (length (before 10 xs))) xs ∷ lines (drop (suc (length (before 10 xs))) xs)
unfolding lines before ahead
with_lf [] h = absurd (omega arith)
with_lf (b ∷ bs) h = go (eqb b 10) h (with_lf bs)
  where
    go : (t : Bool) → length (cond t [] (b ∷ before 10 bs)) < suc (length bs)
        → (length (before 10 bs) < length bs → lines bs ≡ take (suc (length (before 10 bs))) bs ∷ lines (drop (suc (length (before 10 bs))) bs))
        → cond t ((b ∷ []) ∷ lines bs) (ahead b (lines bs))
        ≡ take (suc (length (cond t [] (b ∷ before 10 bs)))) (b ∷ bs) ∷ lines (drop (suc (length (cond t [] (b ∷ before 10 bs)))) (b ∷ bs))
    go true k f = refl
    go false k f = ap (ahead b) (f (omega arith))

without_lf : (xs : List ℕ) → 0 < length xs → length xs ≤ length (before 10 xs) → lines xs ≡ xs ∷ []
unfolding lines before ahead
without_lf [] h k = absurd (omega arith)
without_lf (b ∷ []) h k = go (eqb b 10)
  where
    go : (t : Bool) → cond t ((b ∷ []) ∷ []) (ahead b []) ≡ (b ∷ []) ∷ []
    go true = refl
    go false = refl
without_lf (b ∷ c ∷ bs) h k = go (eqb b 10) k (without_lf (c ∷ bs))
  where
    go : (t : Bool) → suc (suc (length bs)) ≤ length (cond t [] (b ∷ before 10 (c ∷ bs)))
        → (0 < suc (length bs) → suc (length bs) ≤ length (before 10 (c ∷ bs)) → lines (c ∷ bs) ≡ (c ∷ bs) ∷ [])
        → cond t ((b ∷ []) ∷ lines (c ∷ bs)) (ahead b (lines (c ∷ bs))) ≡ (b ∷ c ∷ bs) ∷ []
    go true k f = absurd (omega arith)
    go false k f = ap (ahead b) (f (omega arith) (omega arith))

lines_none : lines [] ≡ []
unfolding lines
lines_none = refl

-- WHERE A LINE ENDS

module _ (text : List ℕ) (at end : ℕ) (e : end ≡ place_of 10 text at) where
  pub line_lf : at ≤ end → end < length text → Line text at (end + 1)
  unfolding place_of lines_from
  line_lf a h =
      let xs = drop at text in
      let k = length (before 10 xs) in
      let l = length-drop at text in
      let c = with_lf xs (omega (arith, l)) in
      let p : end + 1 - at ≡ suc k = omega arith in
      let q : drop (suc k) xs ≡ drop (end + 1) text = drop-drop (suc k) at text ∙ (let z : at + suc k ≡ end + 1 = omega arith in ap (λ (n : ℕ). drop n text) z) in
      record { cut = c ∙ rw (p, q); later = omega arith; inside = omega arith }

  pub line_last : at < length text → length text ≤ end → end ≤ length text → Line text at end
  unfolding place_of lines_from
  line_last a h i =
      let xs = drop at text in
      let l = length-drop at text in
      let c = without_lf xs (omega (arith, l)) (omega (arith, l)) in
      let p : take (end - at) xs ≡ xs = take_all (end - at) xs (omega (arith, l)) in
      let q : lines (drop end text) ≡ [] = rw (drop_of_length-le text h) lines_none in
      record { cut = c ∙ rw (p, q); later = omega arith; inside = i }

pub lines_over : (text : List ℕ) (at : ℕ) → length text ≤ at → lines_from text at ≡ []
unfolding lines_from
lines_over text at h = rw (drop_of_length-le text h) lines_none

pub lines_start : (text : List ℕ) → lines_from text 0 ≡ lines text
unfolding lines_from
lines_start text = refl

-- COUNTING: the lines passed and those to come are all of them

pub count_start : (text : List ℕ) → 0 + length (lines_from text 0) ≡ length (lines text)
count_start text = rw (lines_start text) (omega arith)

module _ (text : List ℕ) (at n m : ℕ) (inv : n + length (lines_from text at) ≡ m) where
  pub count-turn : (r : ℕ) → Line text at r → n + 1 + length (lines_from text r) ≡ m
  count-turn r l = omega (arith, inv, ap length l.cut)

  pub count_end : length text ≤ at → n ≡ m
  count_end h = omega (arith, inv, ap length (lines_over text at h))

-- THE FIRST MALFORMED LINE

bad_none : bad_among [] ≡ 0
unfolding bad_among first
bad_none = refl

bad_here : (l : List ℕ) (ls : List (List ℕ)) → well_formed l ≡ false → bad_among (l ∷ ls) ≡ 0
unfolding bad_among first
bad_here l ls e = rw e

pub bad_later : (l : List ℕ) (ls : List (List ℕ)) → well_formed l ≡ true → bad_among (l ∷ ls) ≡ suc (bad_among ls)
unfolding bad_among first
bad_later l ls e = rw e

pub bad_start : (text : List ℕ) → 0 + bad_among (lines_from text 0) ≡ first_bad text
unfolding first_bad
bad_start text = rw (lines_start text) (omega arith)

-- lines of which none is malformed begin with one that is not
pub good_first : (l : List ℕ) (ls : List (List ℕ)) → length (l ∷ ls) ≤ bad_among (l ∷ ls) → (well_formed l ≡ true) × (length ls ≤ bad_among ls)
good_first l ls h = go (well_formed l) refl
  where
    go : (t : Bool) → well_formed l ≡ t → (well_formed l ≡ true) × (length ls ≤ bad_among ls)
    go true e = (e, omega (arith, bad_later l ls e))
    go false e = absurd (omega (arith, bad_here l ls e))

module _ (text : List ℕ) (at n m k : ℕ) (inv : n + bad_among (lines_from text at) ≡ m) (all : n + length (lines_from text at) ≡ k) where
  module _ (r : ℕ) (l : Line text at r) (b : Bool) (e : b ≡ well_formed (take (r - at) (drop at text))) where
    pub bad_out : not b ≡ true → Sought (Some n) m k
    unfolding Sought
    bad_out t = (
      omega (arith, inv, ap bad_among l.cut, bad_here (take (r - at) (drop at text)) (lines_from text r) (sym e ∙ not-true b t)),
      omega (arith, all, ap length l.cut),
    )

    pub bad_turn : not b ≡ false → n + 1 + bad_among (lines_from text r) ≡ m
    bad_turn t = omega (arith, inv, ap bad_among l.cut, bad_later (take (r - at) (drop at text)) (lines_from text r) (sym e ∙ not-false b t))

  pub bad_end : length text ≤ at → Sought None m k
  unfolding Sought
  bad_end h = omega (arith, inv, all, ap bad_among (lines_over text at h), bad_none, ap length (lines_over text at h))
