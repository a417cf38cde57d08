-- The laws of the loops over a word, and of a word lent as a part of a run. Their premises are the facts as a proof of the code has
-- them, so that `search` finds them. Assumes nothing.
use mathlib.Core.Path.{◌≡◌, refl, sym, ap, ◌∙◌}
use mathlib.Core.Bool.{Bool, true, false, not, ◌&&◌}
use mathlib.Core.List.{List, [], ◌∷◌}
use Prim.Native.Nat.{ℕ, suc, ◌+◌, ◌-◌, ◌≤◌, ◌<◌}
use native.Mathlib.Omega.{arith}
use lib.ListN.{length, drop, length-map, length-drop}
use lib.Seq.{take_all}
use borrow.Author.Tests.{not-true, eq-eqb, ne_eqb}
use Rattle.runs.specs.Parts.{part}
use Rattle.rfc3629.specs.Rows.{char_len}
use Rattle.rfc3629.specs.Cut.{well_formed, unit_len, units_by, cut, seeded, singles}
use Rattle.rfc3629.proofs.Rows.{len_bounds}
use Rattle.rfc3629.proofs.Units.{well_nil, well_bad, well_next, unit_byte, unit_none, unit_char, unit_bounds, units_nil, units_next}
use Rattle.rfc3629.proofs.Texts.{cut_bytes, seeded_bytes, seeded-chars, seeded_few}
use Rattle.rule.specs.Table.{chars}
use Rattle.text.specs.Units.{setting_of, by_chars, chars_in, Next, Counted}
use Rattle.std.specs.Prelude.{Option, Some, None, is_some, cond}
use Rattle.std.specs.Option.{unwrap_or}
use Rattle.chars.specs.Places.{rest, some_length}
use Rattle.text.specs.declared.Seeding.{Seeding}
use Rattle.text.specs.declared.Seeding.TheVariants.{Bytes, Chars}
use Rattle.chars.proofs.Places.{rest-length, rest_end, rest_on, rest_all, len_none, len_some}

-- THE SEEDING OF A SETTING

pub seeding-chars : (n : ℕ) → n ≡ 1 → by_chars Chars ≡ chars n
unfolding by_chars setting_of
seeding-chars n e = sym (eq-eqb n 1 e)

pub seeding_bytes : (n : ℕ) → (n ≡ 1 → ⊥) → by_chars Bytes ≡ chars n
unfolding by_chars setting_of
seeding_bytes n e = sym (ne_eqb n 1 e)

pub ruleset seeding_rules = (seeding-chars, seeding_bytes)

-- WELL FORMED: the whole answer is the answer from here on

pub well_start : (w : List ℕ) → well_formed w ≡ well_formed (rest 0 w)
well_start w = rw (rest_all w)

module _ (w : List ℕ) (i : ℕ) (r : Bool) where
  pub well_end : r ≡ well_formed (rest i w) → length w ≤ i → true ≡ r
  well_end e h = sym (e ∙ rw (rest_end i w h, well_nil))

module _ (w : List ℕ) (i : ℕ) (r : Bool) where
  pub well_out : r ≡ well_formed (rest i w) → i < length w → None ≡ some_length (char_len (rest i w)) → false ≡ r
  well_out e h t = sym (e ∙ well_bad (rest i w) (omega (arith, rest-length i w)) (sym (len_none (char_len (rest i w)) t)))

module _ (w : List ℕ) (i k : ℕ) (t : Some k ≡ some_length (char_len (rest i w))) where
  len_here : (k ≡ char_len (rest i w)) × (0 < k)
  len_here = len_some k (char_len (rest i w)) t

  pub char_fits : i ≤ length w → i + k ≤ length w
  char_fits h = omega (arith, len_here.0, (len_bounds (rest i w)).0, rest-length i w)

  pub char_on : i < i + k
  char_on = omega (arith, len_here.1)

  pub well_turn : (r : Bool) → r ≡ well_formed (rest i w) → r ≡ well_formed (rest (i + k) w)
  well_turn r e = e ∙ well_next (rest i w) (omega (arith, len_here.0, len_here.1)) ∙ ap well_formed (rw (← len_here.0) (rest_on i w k))

-- COUNTING: the units passed and those to come are all of them

pub count_start : (w : List ℕ) → 0 + length (units_by true (rest 0 w)) ≡ length (units_by true w)
count_start w = rw (rest_all w) (omega arith)

singles-length : (w : List ℕ) → length (singles w) ≡ length w
unfolding singles
singles-length w = length-map w (λ a. a ∷ [])

module _ (w : List ℕ) (i n : ℕ) where
  pub count_end : well_formed w ≡ well_formed (rest i w) → n + length (units_by true (rest i w)) ≡ length (units_by true w) → length w ≤ i
      → Some n ≡ chars_in w
  unfolding chars_in
  count_end e c h =
      let z : length (units_by true (rest i w)) ≡ 0 = rw (rest_end i w h, units_nil true) in
      let m : n ≡ length (units_by true w) = omega arith in
      rw (← well_end w i (well_formed w) e h) (ap Some m)

pub count-out : (w : List ℕ) (i : ℕ) → well_formed w ≡ well_formed (rest i w) → i < length w → None ≡ some_length (char_len (rest i w))
    → None ≡ chars_in w
unfolding chars_in
count-out w i e h t = rw (← well_out w i (well_formed w) e h t)

module _ (w : List ℕ) (i k : ℕ) (t : Some k ≡ some_length (char_len (rest i w))) where
  pub count-turn : (n m : ℕ) → n + length (units_by true (rest i w)) ≡ m → n + 1 + length (units_by true (rest (i + k) w)) ≡ m
  count-turn n m e =
      let q : (k ≡ char_len (rest i w)) × (0 < k) = len_here w i k t in
      let l : unit_len true (rest i w) ≡ k = unit_char (rest i w) (omega arith) ∙ sym q.0 in
      let u = ap length (units_next true (rest i w) (omega (arith, len_bounds (rest i w)))) in
      let v : length (units_by true (rest i w)) ≡ suc (length (units_by true (rest (i + k) w))) = rw (l, rest_on i w k) at u in
      omega arith

-- A WORD, SEEDING BY SEEDING

told : (w : List ℕ) → is_some (chars_in w) ≡ well_formed w
unfolding chars_in
told w = split (well_formed w)
  where
    split : (b : Bool) → is_some (cond b (Some (length (units_by true w))) None) ≡ b
    split true = refl
    split false = refl

counted : (w : List ℕ) → unwrap_or (chars_in w) (length w) ≡ length (cut w)
unfolding chars_in cut
counted w = split (well_formed w) refl
  where
    split : (b : Bool) → well_formed w ≡ b → unwrap_or (chars_in w) (length w) ≡ length (cut w)
    split true e = rw e refl
    split false e =
        let z : unwrap_or (cond (well_formed w) (Some (length (units_by true w))) None) (length w) ≡ length w = rw e refl in
        z ∙ sym (singles-length w) ∙ sym (ap length (cut_bytes w e))

module _ (d : Seeding) where
  pub whole_bytes : (t : Bool) → d ≡ Bytes → false ≡ (by_chars d && t)
  unfolding by_chars setting_of
  whole_bytes t e = rw e

  pub whole_chars : (w : List ℕ) (o : Option ℕ) (r : Bool) → d ≡ Chars → o ≡ chars_in w → r ≡ is_some o → r ≡ (by_chars d && well_formed w)
  unfolding by_chars setting_of
  whole_chars w o r e k h = rw e (h ∙ ap is_some k ∙ told w)

  module _ (w : List ℕ) where
    pub count_bytes : d ≡ Bytes → Counted (by_chars d) w (length w)
    unfolding by_chars setting_of
    count_bytes e = record { is = rw (e, seeded_bytes w) (sym (singles-length w)); few = omega arith }

    pub count-chars : (o : Option ℕ) (r : ℕ) → d ≡ Chars → o ≡ chars_in w → r ≡ unwrap_or o (length w) → Counted (by_chars d) w r
    unfolding by_chars setting_of
    count-chars o r e k h =
        let i : r ≡ length (seeded true w) = h ∙ ap (λ (q : Option ℕ). unwrap_or q (length w)) k ∙ counted w ∙ rw seeded-chars in
        record { is = rw e i; few = omega (arith, seeded_few true w) }

pub ruleset whole_rules = (whole_bytes, whole_chars)

-- ONE UNIT

module _ (c : Bool) (w : List ℕ) (at : ℕ) (a : at < length w) where
  here : part at (length w - at) w ≡ rest at w
  unfolding part rest
  here = take_all (length w - at) (drop at w) (omega (arith, length-drop at w))

  next_is : (k : ℕ) → k ≡ unit_len c (rest at w) → Next c w at (length w) (at + k)
  next_is k e =
      let u = unit_bounds c (rest at w) (omega (arith, rest-length at w)) in
      record { is = rw here (ap (λ j. at + j) e); on = omega arith; inside = omega (arith, rest-length at w) }

  pub next_byte : not c ≡ true → Next c w at (length w) (at + 1)
  next_byte h = next_is 1 (rw (not-true c h) (sym (unit_byte (rest at w))))

  pub next_none : None ≡ some_length (char_len (rest at w)) → Next c w at (length w) (at + 1)
  next_none t = next_is 1 (sym (unit_none c (rest at w) (sym (len_none _ t))))

  pub next_char : (k : ℕ) → c ≡ true → Some k ≡ some_length (char_len (rest at w)) → Next c w at (length w) (at + k)
  next_char k h t =
      let q = len_some k (char_len (rest at w)) t in
      next_is k (q.0 ∙ rw h (sym (unit_char (rest at w) (omega (arith, q.1)))))
