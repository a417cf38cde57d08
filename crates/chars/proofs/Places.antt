-- A character at a place of a word: an octet, what follows the first one, the row that decides. The premises are the facts as a
-- proof of the code has them. Assumes nothing.
use mathlib.Core.Path.{◌≡◌, refl, sym, ◌∙◌}
use mathlib.Core.Bool.{Bool, true, false, not, cond, ◌&&◌, false≢true}
use mathlib.Core.List.{List, [], ◌∷◌}
use Prim.Native.Nat.{ℕ, zero, suc, ◌+◌, ◌-◌, ◌≤◌, ◌<◌}
use native.Mathlib.Omega.{arith}
use native.Mathlib.Numerals.{add-one}
use lib.Dec.{leb}
use lib.ListN.{length, get_or, drop, length-drop, drop_of_length-le}
use lib.Seq.{drop-cons, drop-drop}
use borrow.Author.Tests.{not-true, not-false, le-leb}
use Rattle.runs.proofs.Parts.{below_or_not}
use Rattle.rfc3629.specs.Rows.{within, heads, tails, follow, by_lead, char_len}
use Rattle.rfc3629.proofs.Rows.{under, len_bounds}
use Rattle.std.specs.Prelude.{Option, Some, None}
use Rattle.chars.specs.Places.{rest, some_length}

-- WHAT STANDS FROM A PLACE ON

module _ (i : ℕ) (w : List ℕ) where
  pub rest-length : length (rest i w) ≡ length w - i
  unfolding rest
  rest-length = length-drop i w

  pub rest_cons : i < length w → rest i w ≡ get_or w i 0 ∷ rest (i + 1) w
  unfolding rest
  rest_cons h = rw (add-one i) (drop-cons w i 0 h)

  pub rest_end : length w ≤ i → rest i w ≡ []
  unfolding rest
  rest_end h = drop_of_length-le w h

  pub rest_on : (k : ℕ) → drop k (rest i w) ≡ rest (i + k) w
  unfolding rest
  rest_on k = drop-drop k i w

pub rest_all : (w : List ℕ) → rest 0 w ≡ w
unfolding rest
rest_all w = refl

-- AN OCTET OF A RANGE

module _ (w : List ℕ) (i low high : ℕ) where
  pub octet_end : length w ≤ i → false ≡ heads low high (rest i w)
  unfolding heads
  octet_end h = rw (rest_end i w h)

  pub octet_low : i < length w → get_or w i 0 < low → false ≡ heads low high (rest i w)
  unfolding heads
  octet_low h k = rw (rest_cons i w h, under low high (get_or w i 0) k)

  pub octet_high : i < length w → low ≤ get_or w i 0 → leb (get_or w i 0) high ≡ heads low high (rest i w)
  unfolding heads within
  octet_high h k = rw (rest_cons i w h, le-leb low (get_or w i 0) k)

  -- an octet that is there is within the word
  pub octet_inside : heads low high (rest i w) ≡ true → i < length w
  octet_inside e = below_or_not i (length w) (λ h. h) (λ h. absurd (false≢true (octet_end h ∙ e)))

pub ruleset octet_rules = (octet_end, octet_low, octet_high)

-- WHAT FOLLOWS THE FIRST OCTET: the whole answer is the answer from the k-th tail on

unfoldable pub follow_from : ℕ → List ℕ → ℕ → ℕ → Option ℕ
follow_from n w at k = some_length (cond (tails (n - k) (rest (at + 2 + k) w)) (2 + n) 0)

module _ (w : List ℕ) (at low high n : ℕ) (x : Bool) (e : x ≡ heads low high (rest (at + 1) w)) where
  pub follow_none : not x ≡ true → None ≡ some_length (follow low high n (rest (at + 1) w))
  unfolding follow some_length
  follow_none h = rw (← e, not-true x h)

  pub follow_start : not x ≡ false → some_length (follow low high n (rest (at + 1) w)) ≡ follow_from n w at 0
  unfolding follow follow_from
  follow_start h =
      let a : at + 1 + 1 ≡ at + 2 + 0 = omega arith in
      let b : n ≡ n - 0 = omega arith in
      rw (← e, not-false x h, rest_on (at + 1) w 1, a, ← b)

  pub follow_second : not x ≡ false → at + 1 + 0 < length w
  follow_second h = let i = octet_inside w (at + 1) low high (sym e ∙ not-false x h) in omega arith

module _ (w : List ℕ) (at n k : ℕ) (r : Option ℕ) where
  pub follow_end : r ≡ follow_from n w at k → n ≤ k → Some (2 + n) ≡ r
  unfolding follow_from tails some_length
  follow_end e h =
      let z : n - k ≡ 0 = omega arith in
      let s : 2 + n ≡ suc (1 + n) = omega arith in
      sym (e ∙ rw (z, s))

  module _ (y : Bool) (t : y ≡ heads 0x80 0xBF (rest (at + 2 + k) w)) where
    first_tail : k < n → tails (n - k) (rest (at + 2 + k) w) ≡ (y && tails (n - (k + 1)) (rest (at + 2 + (k + 1)) w))
    unfolding tails
    first_tail h =
        let m : n - k ≡ suc (n - (k + 1)) = omega arith in
        let a : at + 2 + k + 1 ≡ at + 2 + (k + 1) = omega arith in
        rw (m, ← t, rest_on (at + 2 + k) w 1, a)

    pub follow-out : r ≡ follow_from n w at k → k < n → not y ≡ true → None ≡ r
    unfolding follow_from some_length
    follow-out e h f = sym (e ∙ rw (first_tail h, not-true y f))

    pub follow-turn : r ≡ follow_from n w at k → k < n → not y ≡ false → r ≡ follow_from n w at (k + 1)
    unfolding follow_from
    follow-turn e h f = e ∙ rw (first_tail h, not-false y f)

    pub follow_tail : not y ≡ false → at + 1 + (k + 1) < length w
    follow_tail f = let i = octet_inside w (at + 2 + k) 0x80 0xBF (sym t ∙ not-false y f) in omega arith

pub ruleset follow_rules = (follow_none, follow_start, follow_second, follow-out, follow-turn, follow_tail, follow_end)

-- THE ROW THAT THE FIRST OCTET DECIDES

module _ (w : List ℕ) (at : ℕ) where
  pub char_end : length w ≤ at → None ≡ some_length (char_len (rest at w))
  unfolding char_len some_length
  char_end h = rw (rest_end at w h)

  pub char_row : (r : Option ℕ) (v : ℕ) → at < length w → by_lead (get_or w at 0) (rest (at + 1) w) ≡ v → r ≡ some_length v
      → r ≡ some_length (char_len (rest at w))
  unfolding char_len
  char_row r v h l e = rw (rest_cons at w h, l) e

-- WHAT A LENGTH TELLS: of nothing it is 0, and of a character not, nor so much that a sum with it wraps

pub len_absent : None ≡ some_length 0
unfolding some_length
len_absent = refl

pub len_one : Some 1 ≡ some_length 1
unfolding some_length
len_one = refl

pub len_none : (n : ℕ) → None ≡ some_length n → 0 ≡ n
unfolding some_length
len_none zero e = refl
len_none (suc n) e = cc

pub len_some : (k n : ℕ) → Some k ≡ some_length n → (k ≡ n) × (0 < k)
unfolding some_length
len_some k zero e = cc
len_some k (suc n) e = let q : k ≡ suc n = cc in (q, omega arith)

pub len_small : (k : ℕ) (v : List ℕ) → Some k ≡ some_length (char_len v) → k ≤ 4
len_small k v e = let q = len_some k (char_len v) e in omega (arith, q.0, (len_bounds v).1)
