-- Row 6 as the code asks it: the units of a word, a weight that stops at 2^53, and a pass over the words. Assumes nothing.
use mathlib.Core.Path.{◌≡◌, sym, ap, ◌∙◌}
use mathlib.Core.List.{List, map}
use Prim.Native.Nat.{ℕ, ◌+◌, ◌*◌, ◌-◌, ◌/◌, ◌^◌, ◌≤◌, ◌<◌}
use native.Mathlib.Omega.{arith}
use native.Mathlib.Nat.{le-div_iff_mul-le, div-lt_iff_lt-mul}
use lib.ListN.{length, take, drop}
use borrow.Author.Tests.{lt-ltb, le-ltb}
use Rattle.runs.specs.Parts.{nth, part}
use Rattle.runs.proofs.Parts.{below_or_not, part-short, part_lent}
use Rattle.numbers.specs.Little.{numbers}
use Rattle.rule.specs.Shapes.{parts}
use Rattle.rule.specs.Table.{chars, units, units_of, total, weighed}
use Rattle.text.specs.declared.Seeding.{Seeding}
use Rattle.text.specs.Units.{by_chars, Counted}
use Rattle.text.proofs.Steps.{counted_units}
use Rattle.vocab.specs.Places.{numbers_from}
use Rattle.vocab.proofs.Places.{numbers_start, numbers_step, numbers_end, parts_start, parts_step, parts_end}
use Rattle.table.specs.Weighing.{unit_count, capped, Heavier, IsWeighed}

-- THE UNITS OF A WORD that is lent as a part of a run, as they are counted

module _ (seeding : ℕ) (d : Seeding) (e : by_chars d ≡ chars seeding) (ws : List ℕ) (from to r : ℕ)
    (n : Counted (by_chars d) (take (to - from) (drop from ws)) r) where
  pub lent_units : r ≡ length (units seeding (part from (to - from) ws))
  lent_units = counted_units d seeding e (take (to - from) (drop from ws)) r n ∙ rw (part_lent from to ws)

  pub lent_few : r ≤ to - from
  lent_few =
      let s : length (take (to - from) (drop from ws)) ≤ to - from = rw (part_lent from to ws) (part-short from (to - from) ws) in
      omega (arith, n.few)

-- A WEIGHT UP TO 2^53

pub capped_low : (n : ℕ) → n ≤ 2 ^ 53 → capped n ≡ n
unfolding capped
capped_low n h = below_or_not n (2 ^ 53) (λ k. rw (lt-ltb n (2 ^ 53) k)) (λ k. rw (le-ltb n (2 ^ 53) k) (omega arith))

pub capped_high : (n : ℕ) → 2 ^ 53 ≤ n → capped n ≡ 2 ^ 53
unfolding capped
capped_high n h = rw (le-ltb n (2 ^ 53) h)

-- what is added to a weight that stopped changes nothing
capped_add : (a b : ℕ) → capped (capped a + b) ≡ capped (a + b)
capped_add a b = below_or_not a (2 ^ 53)
    (λ k. ap (λ (n : ℕ). capped (n + b)) (capped_low a (omega arith)))
    (λ k. ap (λ (n : ℕ). capped (n + b)) (capped_high a k) ∙ capped_high (2 ^ 53 + b) (omega arith) ∙ sym (capped_high (a + b) (omega arith)))

module _ (weight f u : ℕ) (h : weight ≤ 2 ^ 53) where
  pub heavier_none : u ≡ 0 → Heavier weight f u weight
  heavier_none z =
      let e : f * u ≡ 0 = ap (λ (n : ℕ). f * n) z ∙ omega arith in
      let s : weight + f * u ≡ weight = omega arith in
      record { is = sym (ap capped s ∙ capped_low weight h); low = h }

  module _ (p : u ≡ 0 → ⊥) where
    some : 0 < u
    some = below_or_not 0 u (λ k. k) (λ k. absurd (p (omega arith)))

    pub heavier_fits : f ≤ (2 ^ 53 - weight) / u → weight + f * u ≤ 2 ^ 53
    heavier_fits k = let m = (le-div_iff_mul-le {x = f} {y = 2 ^ 53 - weight} some).0 k in omega arith

    pub heavier_top : (2 ^ 53 - weight) / u < f → Heavier weight f u (2 ^ 53)
    heavier_top k =
        let m = (div-lt_iff_lt-mul {x = 2 ^ 53 - weight} {y = f} some).0 k in
        record { is = sym (capped_high (weight + f * u) (omega arith)); low = omega arith }

    pub heavier_sum : f ≤ (2 ^ 53 - weight) / u → Heavier weight f u (weight + f * u)
    heavier_sum k = record { is = sym (capped_low (weight + f * u) (heavier_fits k)); low = heavier_fits k }

pub ruleset heavier_rules = (heavier_none, heavier_top, heavier_fits, heavier_sum)

-- A PASS OVER THE WORDS: the whole weight and all units are those so far and those from the i-th word on, which starts at `last`

unfoldable pub weight_from : ℕ → List ℕ → List ℕ → List ℕ → ℕ → ℕ → ℕ
weight_from seeding ws es fs last i = weighed (numbers_from 8 fs i) (map (units seeding) (parts ws last (numbers_from 4 es i)))

unfoldable pub units_from : ℕ → List ℕ → List ℕ → ℕ → ℕ → ℕ
units_from seeding ws es last i = total (map length (map (units seeding) (parts ws last (numbers_from 4 es i))))

module _ (seeding : ℕ) (ws es : List ℕ) where
  pub units_start : unit_count seeding ws es ≡ 0 + units_from seeding ws es 0 0
  unfolding unit_count units_of units_from
  units_start =
      let e : units_from seeding ws es 0 0 ≡ 0 + units_from seeding ws es 0 0 = omega arith in
      rw (parts_start ws es) e

  pub weight_start : (fs : List ℕ) → capped (weighed (numbers 8 fs) (units_of seeding ws es)) ≡ capped (0 + weight_from seeding ws es fs 0 0)
  unfolding units_of weight_from
  weight_start fs =
      let e : weight_from seeding ws es fs 0 0 ≡ 0 + weight_from seeding ws es fs 0 0 = omega arith in
      rw (parts_start ws es, numbers_start 8 fs) (ap capped e)

  module _ (last i e u : ℕ) (h : i < length es / 4) (q : e ≡ nth (numbers 4 es) i) (n : u ≡ length (units seeding (part last (e - last) ws))) where
    pub units-turn : (k m : ℕ) → k ≡ m + units_from seeding ws es last i → k ≡ (m + u) + units_from seeding ws es e (i + 1)
    unfolding units_from total
    units-turn k m inv =
        let z : units_from seeding ws es last i ≡ u + units_from seeding ws es e (i + 1) = rw (parts_step ws es i last e h q, n) in
        omega arith

    module _ (fs : List ℕ) (f : ℕ) (l : i < length fs / 8) (g : f ≡ nth (numbers 8 fs) i) where
      weight_here : weight_from seeding ws es fs last i ≡ f * u + weight_from seeding ws es fs e (i + 1)
      unfolding weight_from weighed
      weight_here = rw (parts_step ws es i last e h q, numbers_step 8 fs i l, ← g, n)

      pub weight_turn : (k w v : ℕ) → Heavier w f u v → k ≡ capped (w + weight_from seeding ws es fs last i) → k ≡ capped (v + weight_from seeding ws es fs e (i + 1))
      weight_turn k w v r inv =
          let a : w + (f * u + weight_from seeding ws es fs e (i + 1)) ≡ (w + f * u) + weight_from seeding ws es fs e (i + 1) = omega arith in
          inv
          ∙ ap (λ (x : ℕ). capped (w + x)) weight_here
          ∙ ap capped a
          ∙ sym (capped_add (w + f * u) (weight_from seeding ws es fs e (i + 1)))
          ∙ ap (λ (x : ℕ). capped (x + weight_from seeding ws es fs e (i + 1))) (sym r.is)

  module _ (fs : List ℕ) (last i : ℕ) where
    units_last : length es / 4 ≤ i → units_from seeding ws es last i ≡ 0
    unfolding units_from total
    units_last h = rw (parts_end ws es i last h)

    weight_last : length fs / 8 ≤ i → weight_from seeding ws es fs last i ≡ 0
    unfolding weight_from weighed
    weight_last h = rw (numbers_end 8 fs i h)

    pub weighed_end : (w m : ℕ) → capped (weighed (numbers 8 fs) (units_of seeding ws es)) ≡ capped (w + weight_from seeding ws es fs last i)
        → unit_count seeding ws es ≡ m + units_from seeding ws es last i → length es / 4 ≤ i → length fs / 8 ≤ i → w ≤ 2 ^ 53 → m ≤ length ws → IsWeighed seeding ws es fs w m
    weighed_end w m p q h k l few =
        let z = weight_last k in
        let y = units_last h in
        let s : w + weight_from seeding ws es fs last i ≡ w = omega arith in
        record { weight_is = sym (p ∙ ap capped s ∙ capped_low w l); units_is = omega arith; few = few }
