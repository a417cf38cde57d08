-- The laws of the text's length: a line's, and the loop that takes the lines off a room one by one. Assumes nothing.
use mathlib.Core.Path.{◌≡◌, refl, sym, ap, ◌∙◌}
use mathlib.Core.Bool.{Bool, true, false, not}
use mathlib.Core.List.{List, [], ◌∷◌, ◌++◌}
use Prim.Native.Nat.{ℕ, suc, ◌+◌, ◌-◌, ◌<◌, ◌≤◌}
use native.Mathlib.Omega.{arith}
use native.Mathlib.Numerals.{add-one}
use lib.Dec.{leb}
use lib.ListN.{length, length-append}
use borrow.Author.Tests.{not-true, not-false, leb-true, leb-false, le-leb, lt-leb}
use Rattle.runs.proofs.Parts.{below_or_not}
use Rattle.vocab.specs.Reading.{piece_given}
use Rattle.codes.specs.Codes.{version, code_line, left_of, right_of, line_of, lines_of, codes_text}
use Rattle.codes.specs.Writing.{lines_to}

-- two tests that hold together
same_test : (a b c d : ℕ) → (a ≤ b → c ≤ d) → (b < a → d < c) → leb a b ≡ leb c d
same_test a b c d f g = below_or_not b a (λ h. lt-leb a b h ∙ sym (lt-leb c d (g h))) (λ h. le-leb a b h ∙ sym (le-leb c d (f h)))

-- THE TEXT, first line and lines

length-version : length version ≡ 13
unfolding version
length-version = refl

length-code_line : (x y : List ℕ) → length (code_line x y) ≡ length x + (length y + 2)
unfolding code_line
length-code_line x y = simp length-append (omega arith)

module _ (p e m : List ℕ) (count : ℕ) where
  pub length-codes_text : length (codes_text p e m count) ≡ 14 + length (lines_to p e m count 0)
  unfolding codes_text lines_to
  length-codes_text =
      let z : count - 0 ≡ count = omega arith in
      rw (z, length-append version (10 ∷ lines_of p e m 0 count)) (omega (arith, length-version))

  pub lines_step : (i : ℕ) → i < count → lines_to p e m count i ≡ line_of p e m i ++ lines_to p e m count (i + 1)
  unfolding lines_to lines_of
  lines_step i h =
      let z : count - i ≡ suc (count - (i + 1)) = omega arith in
      rw (z, add-one i)

  pub lines_over : (i : ℕ) → count ≤ i → lines_to p e m count i ≡ []
  unfolding lines_to lines_of
  lines_over i h = let z : count - i ≡ 0 = omega arith in rw z

  pub length-lines_step : (i : ℕ) → i < count → length (lines_to p e m count i) ≡ length (line_of p e m i) + length (lines_to p e m count (i + 1))
  length-lines_step i h = rw (lines_step i h) (length-append (line_of p e m i) (lines_to p e m count (i + 1)))

  -- THE LOOP: whether the text fits is whether the lines to come fit what is left
  module _ (room : ℕ) where
    pub text_short : room < 14 → false ≡ leb (length (codes_text p e m count)) room
    text_short h = sym (lt-leb (length (codes_text p e m count)) room (omega (arith, length-codes_text)))

    pub text_start : 14 ≤ room → leb (length (codes_text p e m count)) room ≡ leb (length (lines_to p e m count 0)) (room - 14)
    text_start h = same_test (length (codes_text p e m count)) room (length (lines_to p e m count 0)) (room - 14) (λ g. omega (arith, length-codes_text)) (λ g. omega (arith, length-codes_text))

  module _ (i rest : ℕ) (b : Bool) (inv : b ≡ leb (length (lines_to p e m count i)) rest) where
    pub text_end : count ≤ i → true ≡ b
    text_end h = sym (inv ∙ le-leb (length (lines_to p e m count i)) rest (omega (arith, ap length (lines_over i h))))

-- the spellings of a merge as the code has them
module _ (p e m : List ℕ) (i a b : ℕ) (x y : List ℕ) (ea : a ≡ left_of m i) (ex : x ≡ piece_given p e a) (eb : b ≡ right_of m i) (ey : y ≡ piece_given p e b) where
  pub line_is : line_of p e m i ≡ code_line x y
  unfolding line_of
  line_is = rw (ex, ey, ea, eb)

  length_line : length (line_of p e m i) ≡ length x + (length y + 2)
  length_line = ap length line_is ∙ length-code_line x y

  module _ (count rest : ℕ) (v : Bool) (inv : v ≡ leb (length (lines_to p e m count i)) rest) (h : i < count)
      (t : Bool) (q : t ≡ leb (length x + (length y + 2)) rest) where
    pub text_out : not t ≡ true → false ≡ v
    text_out n =
        let k = leb-false (length x + (length y + 2)) rest (sym q ∙ not-true t n) in
        sym (inv ∙ lt-leb (length (lines_to p e m count i)) rest (omega (arith, k, length_line, length-lines_step p e m count i h)))

    pub text_turn : not t ≡ false → v ≡ leb (length (lines_to p e m count (i + 1))) (rest - 2 - length x - length y)
    text_turn n =
        let k = leb-true (length x + (length y + 2)) rest (sym q ∙ not-false t n) in
        let l = length-lines_step p e m count i h in
        inv ∙ same_test (length (lines_to p e m count i)) rest (length (lines_to p e m count (i + 1))) (rest - 2 - length x - length y) (λ g. omega (arith, k, length_line, l)) (λ g. omega (arith, k, length_line, l))
