-- The laws of a line judged: each test of the code against the form of a line. Assumes nothing.
use mathlib.Core.Path.{◌≡◌, refl, sym, ap, ◌∙◌}
use mathlib.Core.Bool.{Bool, true, false, cond, and-eq-true_iff}
use mathlib.Core.List.{List, [], ◌∷◌, ◌++◌}
use Prim.Native.Nat.{ℕ, suc, ◌+◌, ◌<◌, ◌≤◌}
use native.Mathlib.Omega.{arith}
use native.Mathlib.Numerals.{add-one}
use lib.Dec.{eqb}
use lib.ListN.{length, get_or, take, drop, length-append, drop_of_length-le}
use lib.Seq.{drop-drop, drop-cons, get_or-append-add, get_or-append_seam}
use borrow.Author.Tests.{eqb-true, leb-true, le-leb, eq-eqb, ne_eqb}
use Rattle.runs.proofs.Parts.{same_or_not}
use Rattle.order.proofs.Ordered.{same_refl, same_true}
use Rattle.lines.specs.Lines.{before, is_digit, digits, word_of, digits_of, well_formed}
use Rattle.lines.specs.Places.{place_of, digits_end, Fits}
use Rattle.lines.proofs.Scans.{fits_start}

-- A LIST IN TWO: what stands before a byte, and the rest; the digits in front, and the rest

pub before-take : (byte : ℕ) (xs : List ℕ) → take (length (before byte xs)) xs ≡ before byte xs
unfolding before
before-take byte [] = refl
before-take byte (b ∷ bs) = go (eqb b byte) (before-take byte bs)
  where
    go : (t : Bool) → take (length (before byte bs)) bs ≡ before byte bs
        → take (length (cond t [] (b ∷ before byte bs))) (b ∷ bs) ≡ cond t [] (b ∷ before byte bs)
    go true e = refl
    go false e = ap (λ (l : List ℕ). b ∷ l) e

before_split : (byte : ℕ) (xs : List ℕ) → length (before byte xs) < length xs → xs ≡ before byte xs ++ (byte ∷ drop (suc (length (before byte xs))) xs)
unfolding before
before_split byte [] h = absurd (omega arith)
before_split byte (b ∷ bs) h = go (eqb b byte) refl h (before_split byte bs)
  where
    go : (t : Bool) → eqb b byte ≡ t → length (cond t [] (b ∷ before byte bs)) < suc (length bs)
        → (length (before byte bs) < length bs → bs ≡ before byte bs ++ (byte ∷ drop (suc (length (before byte bs))) bs))
        → b ∷ bs ≡ cond t [] (b ∷ before byte bs) ++ (byte ∷ drop (suc (length (cond t [] (b ∷ before byte bs)))) (b ∷ bs))
    go true e k f = ap (λ (x : ℕ). x ∷ bs) (eqb-true b byte e)
    go false e k f = ap (λ (l : List ℕ). b ∷ l) (f (omega arith))

digits_split : (xs : List ℕ) → xs ≡ digits xs ++ drop (length (digits xs)) xs
unfolding digits
digits_split [] = refl
digits_split (b ∷ bs) = go (is_digit b) (digits_split bs)
  where
    go : (t : Bool) → bs ≡ digits bs ++ drop (length (digits bs)) bs
        → b ∷ bs ≡ cond t (b ∷ digits bs) [] ++ drop (length (cond t (b ∷ digits bs) [])) (b ∷ bs)
    go true e = ap (λ (l : List ℕ). b ∷ l) e
    go false e = refl

-- THE FORM OF A LINE, part by part
record Good (line : List ℕ) : Type 0 where
  pub word : 1 ≤ length (word_of line)
  pub some : 1 ≤ length (digits_of line)
  pub few : length (digits_of line) ≤ 18
  pub is : line ≡ word_of line ++ (32 ∷ (digits_of line ++ (10 ∷ [])))

good : (line : List ℕ) → well_formed line ≡ true → Good line
unfolding well_formed
good line e =
    let a = (and-eq-true_iff _ _).0 e in
    let b = (and-eq-true_iff _ _).0 a.1 in
    let d = (and-eq-true_iff _ _).0 b.1 in
    record { word = leb-true 1 _ a.0; some = leb-true 1 _ b.0; few = leb-true _ 18 d.0; is = same_true _ _ d.1 }

well : (line : List ℕ) → Good line → well_formed line ≡ true
unfolding well_formed
well line g = rw (le-leb 1 (length (word_of line)) g.word, le-leb 1 (length (digits_of line)) g.some, le-leb (length (digits_of line)) 18 g.few, ← g.is) (same_refl line)

ill : (line : List ℕ) → (Good line → ⊥) → false ≡ well_formed line
ill line n = go (well_formed line) refl
  where
    go : (t : Bool) → well_formed line ≡ t → false ≡ t
    go true e = absurd (n (good line e))
    go false e = refl

good_length : (line : List ℕ) → Good line → length line ≡ length (word_of line) + 1 + length (digits_of line) + 1
good_length line g = ap length g.is ∙ simp length-append (omega arith)

good_lf : (line : List ℕ) → Good line → get_or line (length (word_of line) + 1 + length (digits_of line)) 0 ≡ 10
good_lf line g =
    let w = word_of line in
    let d = digits_of line in
    let n : length w + 1 + length d ≡ length w + suc (length d) = omega arith in
    ap (λ (l : List ℕ). get_or l (length w + 1 + length d) 0) g.is
    ∙ rw n (get_or-append-add w (32 ∷ (d ++ (10 ∷ []))) (suc (length d)) 0)
    ∙ get_or-append_seam d 10 [] 0

-- THE TESTS of the code: s is where the first space stands

pub space_is : (line : List ℕ) (s : ℕ) → s ≡ place_of 32 line 0 → s ≡ length (word_of line)
unfolding place_of word_of
space_is line s e = omega (arith, e)

module _ (line : List ℕ) (s : ℕ) (e : s ≡ place_of 32 line 0) where
  pub judged_wordless : s ≡ 0 → false ≡ well_formed line
  judged_wordless h = ill line (λ g. omega (arith, g.word, space_is line s e))

  pub judged_spaceless : length line ≤ s → false ≡ well_formed line
  judged_spaceless h = ill line (λ g. omega (arith, good_length line g, space_is line s e))

  module _ (k : ℕ) (q : k ≡ digits_end line (s + 1)) where
    digits_is : k ≡ s + 1 + length (digits_of line)
    unfolding digits_end digits_of
    digits_is = q ∙ ap (λ (n : ℕ). s + 1 + length (digits (drop (n + 1) line))) (space_is line s e)

    pub judged_numberless : k ≡ s + 1 → false ≡ well_formed line
    judged_numberless h = ill line (λ g. omega (arith, g.some, digits_is))

    pub judged_many : s + 1 + 18 < k → false ≡ well_formed line
    judged_many h = ill line (λ g. omega (arith, g.few, digits_is))

    pub judged_more : (k + 1 ≡ length line → ⊥) → false ≡ well_formed line
    judged_more h = ill line (λ g. h (omega (arith, good_length line g, digits_is, space_is line s e)))

    pub judged_end : (s ≡ 0 → ⊥) → s < length line → (k ≡ s + 1 → ⊥) → k ≤ s + 1 + 18 → k + 1 ≡ length line → eqb (get_or line k 0) 10 ≡ well_formed line
    unfolding word_of digits_of
    judged_end a b d f h = same_or_not (get_or line k 0) 10
        (λ z. eq-eqb (get_or line k 0) 10 z ∙ sym (well line (made z)))
        (λ n. ne_eqb (get_or line k 0) 10 n ∙ ill line (λ g. n (rw (← at_lf) at (good_lf line g))))
      where
        at_lf : k ≡ length (word_of line) + 1 + length (digits_of line)
        at_lf = omega (arith, digits_is, space_is line s e)

        -- behind the word, the space and the digits there is one byte
        tail : get_or line k 0 ≡ 10 → drop k line ≡ 10 ∷ []
        tail z = drop-cons line k 0 (omega arith) ∙ rw (z, drop_of_length-le line {i = suc k} (omega arith))

        split : get_or line k 0 ≡ 10 → line ≡ word_of line ++ (32 ∷ (digits_of line ++ (10 ∷ [])))
        split z =
            let w = before 32 line in
            let l : length w < length line = omega (arith, space_is line s e) in
            let r = drop (length w + 1) line in
            let x : drop (length (digits r)) r ≡ drop k line = drop-drop (length (digits r)) (length w + 1) line ∙ ap (λ (n : ℕ). drop n line) (sym at_lf) in
            before_split 32 line l
            ∙ ap (λ (m : List ℕ). w ++ (32 ∷ m)) (rw (← add-one (length w)) (digits_split r ∙ ap (λ (m : List ℕ). digits r ++ m) (x ∙ tail z)))

        made : get_or line k 0 ≡ 10 → Good line
        made z = record { word = omega (arith, space_is line s e); some = omega (arith, digits_is); few = omega (arith, digits_is); is = split z }

-- WHAT A WELL-FORMED LINE ALLOWS

pub well_few : (line : List ℕ) → well_formed line ≡ true → length (digits_of line) ≤ 18
well_few line t = (good line t).few

module _ (line : List ℕ) (s : ℕ) (t : well_formed line ≡ true) (e : s ≡ place_of 32 line 0) where
  pub well_space : s + 1 ≤ length line
  well_space = omega (arith, good_length line (good line t), space_is line s e)

  pub well_fits : Fits line 0 (s + 1)
  unfolding digits_of
  well_fits =
      let f : length (digits (drop (length (word_of line) + 1) line)) ≤ 18 = well_few line t in
      fits_start line (s + 1) (rw (space_is line s e) f)
