-- Row 5 as the code asks it: two words that follow one another, and the first that is not above its predecessor. Assumes nothing.
use mathlib.Core.Path.{◌≡◌, refl, sym, ap, ◌∙◌}
use mathlib.Core.Bool.{Bool, true, false, not}
use mathlib.Core.List.{List, ◌∷◌}
use Prim.Native.Nat.{ℕ, ◌+◌, ◌-◌, ◌/◌, ◌≤◌, ◌<◌}
use lib.ListN.{length}
use Rattle.std.specs.declared.cmp.Ordering.{Ordering}
use Rattle.std.specs.declared.cmp.Ordering.TheVariants.{Less, Equal, Greater}
use Rattle.std.specs.Ordering.{is_lt}
use Rattle.order.specs.Order.{compared}
use Rattle.runs.specs.Parts.{nth, part}
use Rattle.std.specs.Prelude.{Option, Some, None}
use Rattle.numbers.specs.Little.{numbers}
use Rattle.rule.specs.Shapes.{rise_to, shaped, parts, parts_by, is_below, below}
use Rattle.rule.specs.Refusals.{not_above, misplaced}
use Rattle.vocab.specs.Places.{numbers_from}
use Rattle.vocab.proofs.Places.{parts_start, parts_step, parts_end}
use Rattle.vocab.proofs.Shaped.{shaped_rises, risen_up, risen_under, risen_rest}
use Rattle.table.specs.Answers.{first_place}
use Rattle.table.proofs.Rows.{place_from, place_start, place_here, place_later, place_end}

-- BYTE ORDER as it is asked

lt_below : (o : Ordering) → is_lt o ≡ is_below o
unfolding is_below
lt_below Less = refl
lt_below Equal = refl
lt_below Greater = refl

pub below_lent : (v w : List ℕ) (o : Ordering) (b : Bool) → o ≡ compared v w → b ≡ is_lt o → b ≡ below v w
unfolding below
below_lent v w o b e h = h ∙ lt_below o ∙ ap is_below e

-- ENDS THAT ARE SHAPED rise, from the first and from the second on

module _ (ws es : List ℕ) (t : shaped ws es ≡ true) where
  pub shaped-first : rise_to (length ws) 0 (numbers_from 4 es 0) ≡ true
  shaped-first = shaped_rises ws es (shaped ws es) refl t

  pub shaped_second : (e : ℕ) → 0 < length es / 4 → e ≡ nth (numbers 4 es) 0 → rise_to (length ws) e (numbers_from 4 es 1) ≡ true
  shaped_second e h q = risen_rest es (length ws) 0 0 shaped-first e h q

-- THE FIRST THAT IS LOW: the whole answer is the answer from the i-th end on, where the word before it stands from `from` to `to`

unfoldable pub low_from : List ℕ → ℕ → ℕ → List ℕ → ℕ → Option ℕ
low_from ws from to es i = place_from i (not_above (part from (to - from) ws ∷ parts ws to (numbers_from 4 es i)))

module _ (ws es : List ℕ) where
  pub low_start : (e : ℕ) → 0 < length es / 4 → e ≡ nth (numbers 4 es) 0 → first_place (misplaced ws es) ≡ low_from ws 0 e es 1
  unfolding misplaced low_from
  low_start e h q =
      let p : place_from 1 (not_above (parts_by ws es)) ≡ low_from ws 0 e es 1 = rw (parts_start ws es, parts_step ws es 0 0 e h q) in
      place_start (misplaced ws es) ∙ place_later 0 false (not_above (parts_by ws es)) refl ∙ p

  module _ (k : Option ℕ) (from to i : ℕ) (inv : k ≡ low_from ws from to es i) where
    pub low_end : length es / 4 ≤ i → None ≡ k
    unfolding low_from not_above
    low_end h = sym (inv ∙ rw (parts_end ws es i to h) (place_end i))

    module _ (e : ℕ) (h : i < length es / 4) (q : e ≡ nth (numbers 4 es) i) (b : Bool)
        (f : b ≡ below (part from (to - from) ws) (part to (e - to) ws)) where
      here : low_from ws from to es i ≡ place_from i (not b ∷ not_above (part to (e - to) ws ∷ parts ws e (numbers_from 4 es (i + 1))))
      unfolding low_from not_above
      here = rw (parts_step ws es i to e h q, f)

      pub low_out : not b ≡ true → Some i ≡ k
      low_out t = sym (inv ∙ here ∙ place_here _ _ _ t)

      pub low_turn : not b ≡ false → k ≡ low_from ws to e es (i + 1)
      unfolding low_from
      low_turn t = inv ∙ here ∙ place_later _ _ _ t

pub ruleset low_rules = (risen_up, risen_under, risen_rest, shaped_second, low_start, low_out, low_turn, low_end)
