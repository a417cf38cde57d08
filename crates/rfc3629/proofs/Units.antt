-- The laws of `well_formed` and `units_by` without their bounds: a step for each character or unit, an induction over the units, and what it
-- shows: put together they are the word, each has 1 to 4 bytes, and there are no more of them than bytes.
use mathlib.Core.Path.{◌≡◌, refl, ap, ◌∙◌}
use mathlib.Core.Bool.{Bool, true, false, ◌&&◌, and-eq-true_iff}
use mathlib.Core.List.{List, [], ◌∷◌, ◌++◌, flatten}
use Prim.Native.Nat.{ℕ, zero, suc, ◌≤◌, ◌<◌}
use native.Mathlib.Omega.{arith}
use lib.Dec.{ltb}
use lib.ListN.{length, take, drop, length-drop, take-append-drop}
use lib.Seq.{length-take-le}
use borrow.Author.Tests.{ltb-true, lt-ltb}
use Rattle.rfc3629.specs.Rows.{char_len}
use Rattle.rfc3629.specs.Cut.{goes_on, well_formed, unit_len, units_in, units_by, singles, together, Short}
use Rattle.rfc3629.proofs.Rows.{cond_elim, len_bounds}

-- what is left after k bytes has a smaller bound
fewer : (k a f : ℕ) (r : List ℕ) → length (a ∷ r) ≤ suc f → 0 < k → length (drop k (a ∷ r)) ≤ f
fewer k a f r h p = simp length-drop (omega arith)

-- `well_formed`: any bound from the length on serves
and_same : (t : Bool) {x y : Bool} → (t ≡ true → x ≡ y) → (t && x) ≡ (t && y)
and_same true h = h refl
and_same false h = refl

goes_on_any : (f g : ℕ) (w : List ℕ) → length w ≤ f → length w ≤ g → goes_on f w ≡ goes_on g w
unfolding goes_on
goes_on_any zero zero w p q = refl
goes_on_any zero (suc g) [] p q = refl
goes_on_any zero (suc g) (a ∷ r) p q = absurd (omega arith)
goes_on_any (suc f) zero [] p q = refl
goes_on_any (suc f) zero (a ∷ r) p q = absurd (omega arith)
goes_on_any (suc f) (suc g) [] p q = refl
goes_on_any (suc f) (suc g) (a ∷ r) p q =
    let k = char_len (a ∷ r) in
    and_same (ltb 0 k) (λ t. let h = ltb-true 0 k t in goes_on_any f g (drop k (a ∷ r)) (fewer k a f r p h) (fewer k a g r q h))

pub well_nil : well_formed [] ≡ true
unfolding well_formed goes_on
well_nil = refl

pub well_bad : (w : List ℕ) → 0 < length w → char_len w ≡ 0 → well_formed w ≡ false
unfolding well_formed goes_on
well_bad [] h e = absurd (omega arith)
well_bad (a ∷ r) h e = simp e

pub well_next : (w : List ℕ) → 0 < char_len w → well_formed w ≡ well_formed (drop (char_len w) w)
unfolding well_formed goes_on
well_next [] h = absurd (omega (arith, len_bounds []))
well_next (a ∷ r) h =
    let k = char_len (a ∷ r) in
    rw (lt-ltb 0 k h) (goes_on_any (length r) (length (drop k (a ∷ r))) (drop k (a ∷ r)) (fewer k a (length r) r (omega arith) h) (omega arith))

-- the length of a unit
pub unit_byte : (w : List ℕ) → unit_len false w ≡ 1
unfolding unit_len
unit_byte w = refl

pub unit_none : (c : Bool) (w : List ℕ) → char_len w ≡ 0 → unit_len c w ≡ 1
unfolding unit_len
unit_none true w e = rw e
unit_none false w e = refl

pub unit_char : (w : List ℕ) → 0 < char_len w → unit_len true w ≡ char_len w
unfolding unit_len
unit_char w h = rw (lt-ltb 0 (char_len w) h)

pub unit_bounds : (c : Bool) (w : List ℕ) → 0 < length w → (0 < unit_len c w) × (unit_len c w ≤ length w) × (unit_len c w ≤ 4)
unfolding unit_len
unit_bounds c w h =
    cond_elim (λ k. (0 < k) × (k ≤ length w) × (k ≤ 4)) (c && ltb 0 (char_len w))
    (λ e. let p = ltb-true 0 (char_len w) ((and-eq-true_iff c (ltb 0 (char_len w))).0 e).1 in let b = len_bounds w in omega arith)
    (λ e. omega arith)

-- `units_by`: any bound from the length on serves
units_in_any : (c : Bool) (f g : ℕ) (w : List ℕ) → length w ≤ f → length w ≤ g → units_in c f w ≡ units_in c g w
unfolding units_in
units_in_any c zero zero w p q = refl
units_in_any c zero (suc g) [] p q = refl
units_in_any c zero (suc g) (a ∷ r) p q = absurd (omega arith)
units_in_any c (suc f) zero [] p q = refl
units_in_any c (suc f) zero (a ∷ r) p q = absurd (omega arith)
units_in_any c (suc f) (suc g) [] p q = refl
units_in_any c (suc f) (suc g) (a ∷ r) p q =
    let k = unit_len c (a ∷ r) in
    let h = (unit_bounds c (a ∷ r) (omega arith)).0 in
    ap (λ us. take k (a ∷ r) ∷ us) (units_in_any c f g (drop k (a ∷ r)) (fewer k a f r p h) (fewer k a g r q h))

pub units_nil : (c : Bool) → units_by c [] ≡ []
unfolding units_by units_in
units_nil c = refl

pub units_next : (c : Bool) (w : List ℕ) → 0 < length w → units_by c w ≡ take (unit_len c w) w ∷ units_by c (drop (unit_len c w) w)
unfolding units_by units_in
units_next c [] h = absurd (omega arith)
units_next c (a ∷ r) h =
    let k = unit_len c (a ∷ r) in
    ap (λ us. take k (a ∷ r) ∷ us)
    (units_in_any c (length r) (length (drop k (a ∷ r))) (drop k (a ∷ r)) (fewer k a (length r) r (omega arith) (unit_bounds c (a ∷ r) h).0) (omega arith))

-- what holds of no units, and of one more in front, holds of the units of every word
module _ (c : Bool) (P : List ℕ → List (List ℕ) → Type 0) (none : P [] [])
    (more : (w : List ℕ) (us : List (List ℕ)) → 0 < length w → P (drop (unit_len c w) w) us → P w (take (unit_len c w) w ∷ us)) where
  units_in_ind : (f : ℕ) (w : List ℕ) → length w ≤ f → P w (units_in c f w)
  unfolding units_in
  units_in_ind zero [] h = none
  units_in_ind zero (a ∷ r) h = absurd (omega arith)
  units_in_ind (suc f) [] h = none
  units_in_ind (suc f) (a ∷ r) h =
      let k = unit_len c (a ∷ r) in
      more (a ∷ r) _ (omega arith) (units_in_ind f (drop k (a ∷ r)) (fewer k a f r h (unit_bounds c (a ∷ r) (omega arith)).0))

  pub units_ind : (w : List ℕ) → P w (units_by c w)
  unfolding units_by
  units_ind w = units_in_ind (length w) w (omega arith)

pub units-joined : (c : Bool) (w : List ℕ) → together (units_by c w) ≡ w
unfolding together flatten
units-joined c = units_ind c (λ w us. together us ≡ w) refl (λ w us h e. ap (λ l. take (unit_len c w) w ++ l) e ∙ take-append-drop (unit_len c w) w)

pub units-short : (c : Bool) (w : List ℕ) → Short (units_by c w)
unfolding Short
units-short c =
    units_ind c (λ w us. Short us) tt
    (λ w us h s. let b = unit_bounds c w h in let l = length-take-le (unit_len c w) w b.1 in (omega arith, omega arith, s))

pub units_few : (c : Bool) (w : List ℕ) → length (units_by c w) ≤ length w
units_few c =
    units_ind c (λ w us. length us ≤ length w) (omega arith)
    (λ w us h e. let b = unit_bounds c w h in omega (arith, length-drop (unit_len c w) w))

pub units_bytes : (w : List ℕ) → units_by false w ≡ singles w
unfolding singles unit_len
units_bytes [] = units_nil false
units_bytes (a ∷ r) = units_next false (a ∷ r) (omega arith) ∙ ap (λ us. (a ∷ []) ∷ us) (units_bytes r)
