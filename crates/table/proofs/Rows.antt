-- Rows 1, 2 and 4 as the code asks them: each way out, and what is known when none is taken. Assumes nothing.
use mathlib.Core.Path.{◌≡◌, refl, sym, ap, ◌∙◌}
use mathlib.Core.Bool.{Bool, true, false, cond, not, or-true}
use mathlib.Core.List.{List, [], ◌∷◌, map}
use Prim.Native.Nat.{ℕ, suc, ◌+◌, ◌/◌, ◌%◌, ◌≤◌, ◌<◌}
use native.Mathlib.Omega.{arith}
use lib.Dec.{eqb, ltb}
use lib.ListN.{length}
use borrow.Author.Tests.{lt-ltb, le-ltb, eq-eqb, ne_eqb, ltb-false, eqb-true, not-false}
use Rattle.std.specs.Prelude.{Option, Some, None}
use Rattle.runs.specs.Parts.{nth}
use Rattle.numbers.specs.Little.{numbers}
use Rattle.rule.specs.Shapes.{shaped, first, some?}
use Rattle.rule.specs.Refusals.{bad_shape, too_many, no_frequency}
use Rattle.rule.proofs.Places.{none}
use Rattle.vocab.specs.Places.{numbers_from}
use Rattle.table.specs.Answers.{first_place}
use Rattle.vocab.proofs.Places.{numbers_start, numbers_step, numbers_end}

-- ONE OF SOME TESTS, from the front

module _ (b : Bool) (bs : List Bool) where
  some_here : b ≡ true → some? (b ∷ bs) ≡ true
  unfolding some?
  some_here e = rw e

  some_later : some? bs ≡ true → some? (b ∷ bs) ≡ true
  unfolding some?
  some_later e = rw e (or-true b)

  some_rest : b ≡ false → some? (b ∷ bs) ≡ some? bs
  unfolding some?
  some_rest e = rw e

some_single : (b : Bool) → some? (b ∷ []) ≡ b
unfolding some?
some_single true = refl
some_single false = refl

-- ROW 1

module _ (ws es fs al ae : List ℕ) (seeding : ℕ) where
  pub shape_seeding : 1 < seeding → true ≡ bad_shape ws es fs al ae seeding
  unfolding bad_shape
  shape_seeding h = sym (some_here _ _ (lt-ltb 1 seeding h))

  pub shape_frequencies : (length fs % 8 ≡ 0 → ⊥) → true ≡ bad_shape ws es fs al ae seeding
  unfolding bad_shape
  shape_frequencies h = sym (some_later _ _ (some_here _ _ (ap not (ne_eqb (length fs % 8) 0 h))))

  pub shape_counts : (length es / 4 ≡ length fs / 8 → ⊥) → true ≡ bad_shape ws es fs al ae seeding
  unfolding bad_shape
  shape_counts h = sym (some_later _ _ (some_later _ _ (some_here _ _ (ap not (ne_eqb (length es / 4) (length fs / 8) h)))))

  module _ (b : Bool) (e : b ≡ shaped ws es) where
    pub shape_words : not b ≡ true → true ≡ bad_shape ws es fs al ae seeding
    unfolding bad_shape
    shape_words h = sym (some_later _ _ (some_later _ _ (some_later _ _ (some_here _ _ (ap not (sym e) ∙ h)))))

    pub shape_end : (d : Bool) → d ≡ shaped al ae → seeding ≤ 1 → length fs % 8 ≡ 0 → length es / 4 ≡ length fs / 8 → not b ≡ false
        → not d ≡ bad_shape ws es fs al ae seeding
    unfolding bad_shape
    shape_end d f h₁ h₂ h₃ h₄ =
        ap not f
        ∙ sym (some_rest _ _ (le-ltb 1 seeding h₁)
        ∙ some_rest _ _ (ap not (eq-eqb (length fs % 8) 0 h₂))
        ∙ some_rest _ _ (ap not (eq-eqb (length es / 4) (length fs / 8) h₃))
        ∙ some_rest _ _ (ap not (sym e) ∙ h₄)
        ∙ some_single (not (shaped al ae)))

-- what holds of a table that it does not refuse
pub record Sound (ws es fs al ae : List ℕ) (seeding : ℕ) : Type 0 where
  pub setting : seeding ≤ 1
  pub whole : length fs % 8 ≡ 0
  pub counts : length es / 4 ≡ length fs / 8
  pub words-shaped : shaped ws es ≡ true
  pub symbols_shaped : shaped al ae ≡ true

pub sound : (ws es fs al ae : List ℕ) (seeding : ℕ) (b : Bool) → b ≡ bad_shape ws es fs al ae seeding → b ≡ false → Sound ws es fs al ae seeding
unfolding bad_shape
sound ws es fs al ae seeding b e h =
    let n = none _ (sym e ∙ h) in
    record {
      setting = ltb-false 1 seeding n.0;
      whole = eqb-true (length fs % 8) 0 (not-false _ n.1.0);
      counts = eqb-true (length es / 4) (length fs / 8) (not-false _ n.1.1.0);
      words-shaped = not-false _ n.1.1.1.0;
      symbols_shaped = not-false _ n.1.1.1.1.0;
    }

-- ROW 2

module _ (words size bytes symbols symbolBytes prefix suffix : ℕ) where
  pub many_words : 16777216 < words → true ≡ too_many words size bytes symbols symbolBytes prefix suffix
  unfolding too_many
  many_words h = sym (some_here _ _ (lt-ltb 16777216 words h))

  pub many_pieces : 16777216 < size → true ≡ too_many words size bytes symbols symbolBytes prefix suffix
  unfolding too_many
  many_pieces h = sym (some_later _ _ (some_here _ _ (lt-ltb 16777216 size h)))

  pub many_bytes : 268435456 < bytes → true ≡ too_many words size bytes symbols symbolBytes prefix suffix
  unfolding too_many
  many_bytes h = sym (some_later _ _ (some_later _ _ (some_here _ _ (lt-ltb 268435456 bytes h))))

  pub many_symbols : 65536 < symbols → true ≡ too_many words size bytes symbols symbolBytes prefix suffix
  unfolding too_many
  many_symbols h = sym (some_later _ _ (some_later _ _ (some_later _ _ (some_here _ _ (lt-ltb 65536 symbols h)))))

  pub many_symbol_bytes : 1048576 < symbolBytes → true ≡ too_many words size bytes symbols symbolBytes prefix suffix
  unfolding too_many
  many_symbol_bytes h = sym (some_later _ _ (some_later _ _ (some_later _ _ (some_later _ _ (some_here _ _ (lt-ltb 1048576 symbolBytes h))))))

  pub many_prefix : 255 < prefix → true ≡ too_many words size bytes symbols symbolBytes prefix suffix
  unfolding too_many
  many_prefix h = sym (some_later _ _ (some_later _ _ (some_later _ _ (some_later _ _ (some_later _ _ (some_here _ _ (lt-ltb 255 prefix h)))))))

  pub many_end : words ≤ 16777216 → size ≤ 16777216 → bytes ≤ 268435456 → symbols ≤ 65536 → symbolBytes ≤ 1048576 → prefix ≤ 255
      → ltb 255 suffix ≡ too_many words size bytes symbols symbolBytes prefix suffix
  unfolding too_many
  many_end h₁ h₂ h₃ h₄ h₅ h₆ = sym (
      some_rest _ _ (le-ltb 16777216 words h₁)
      ∙ some_rest _ _ (le-ltb 16777216 size h₂)
      ∙ some_rest _ _ (le-ltb 268435456 bytes h₃)
      ∙ some_rest _ _ (le-ltb 65536 symbols h₄)
      ∙ some_rest _ _ (le-ltb 1048576 symbolBytes h₅)
      ∙ some_rest _ _ (le-ltb 255 prefix h₆)
      ∙ some_single (ltb 255 suffix))

pub ruleset many_rules = (many_words, many_pieces, many_bytes, many_symbols, many_symbol_bytes, many_prefix, many_end)

-- what holds of numbers that it does not refuse
pub record Limits (words size bytes symbols symbolBytes prefix suffix : ℕ) : Type 0 where
  pub words_few : words ≤ 16777216
  pub size_low : size ≤ 16777216
  pub bytes_few : bytes ≤ 268435456
  pub symbols_few : symbols ≤ 65536
  pub symbol_bytes_few : symbolBytes ≤ 1048576
  pub prefix_short : prefix ≤ 255
  pub suffix_short : suffix ≤ 255

pub limits : (words size bytes symbols symbolBytes prefix suffix : ℕ) (b : Bool)
    → b ≡ too_many words size bytes symbols symbolBytes prefix suffix → b ≡ false → Limits words size bytes symbols symbolBytes prefix suffix
unfolding too_many
limits words size bytes symbols symbolBytes prefix suffix b e h =
    let n = none _ (sym e ∙ h) in
    record {
      words_few = ltb-false _ _ n.0;
      size_low = ltb-false _ _ n.1.0;
      bytes_few = ltb-false _ _ n.1.1.0;
      symbols_few = ltb-false _ _ n.1.1.1.0;
      symbol_bytes_few = ltb-false _ _ n.1.1.1.1.0;
      prefix_short = ltb-false _ _ n.1.1.1.1.1.0;
      suffix_short = ltb-false _ _ n.1.1.1.1.1.1.0;
    }

-- THE PLACE OF THE FIRST TEST THAT HOLDS, where the tests are counted from i

unfoldable pub place_from : ℕ → List Bool → Option ℕ
place_from i bs = cond (some? bs) (Some (i + first bs)) None

pub place_start : (bs : List Bool) → first_place bs ≡ place_from 0 bs
unfolding first_place place_from
place_start bs = let e : first bs ≡ 0 + first bs = omega arith in ap (λ (n : ℕ). cond (some? bs) (Some n) None) e

module _ (i : ℕ) (b : Bool) (bs : List Bool) where
  pub place_here : b ≡ true → place_from i (b ∷ bs) ≡ Some i
  unfolding place_from some? first
  place_here e = let z : i + 0 ≡ i = omega arith in rw e (ap Some z)

  pub place_later : b ≡ false → place_from i (b ∷ bs) ≡ place_from (i + 1) bs
  unfolding place_from some? first
  place_later e =
      let s : i + suc (first bs) ≡ (i + 1) + first bs = omega arith in
      rw e (ap (λ (n : ℕ). cond (some? bs) (Some n) None) s)

pub place_end : (i : ℕ) → place_from i [] ≡ None
unfolding place_from some?
place_end i = refl

-- ROW 4: the whole answer is the answer from the i-th frequency on

unfoldable pub zero_from : List ℕ → ℕ → Option ℕ
zero_from fs i = place_from i (map (eqb 0) (numbers_from 8 fs i))

module _ (fs : List ℕ) where
  pub zero_start : first_place (no_frequency fs) ≡ zero_from fs 0
  unfolding no_frequency zero_from
  zero_start = place_start (no_frequency fs) ∙ ap (λ (l : List ℕ). place_from 0 (map (eqb 0) l)) (numbers_start 8 fs)

  module _ (k : Option ℕ) (i : ℕ) (inv : k ≡ zero_from fs i) where
    module _ (f : ℕ) (h : i < length fs / 8) (e : f ≡ nth (numbers 8 fs) i) where
      here : zero_from fs i ≡ place_from i (eqb 0 f ∷ map (eqb 0) (numbers_from 8 fs (i + 1)))
      unfolding zero_from
      here = rw (numbers_step 8 fs i h, e)

      pub zero_out : f ≡ 0 → Some i ≡ k
      zero_out z = sym (inv ∙ here ∙ place_here _ _ _ (eq-eqb 0 f (sym z)))

      pub zero_turn : (f ≡ 0 → ⊥) → k ≡ zero_from fs (i + 1)
      unfolding zero_from
      zero_turn z = inv ∙ here ∙ place_later _ _ _ (ne_eqb 0 f (λ q. z (sym q)))

    pub zero_end : length fs / 8 ≤ i → None ≡ k
    unfolding zero_from
    zero_end h = sym (inv ∙ rw (numbers_end 8 fs i h) (place_end i))

pub ruleset zero_rules = (zero_start, zero_out, zero_turn, zero_end)
