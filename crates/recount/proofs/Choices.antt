-- What a caller of the recount knows of its answer. Assumes nothing.
use mathlib.Core.Path.{◌≡◌, refl, sym, ap, ◌∙◌}
use mathlib.Core.List.{List}
use Prim.Native.Nat.{ℕ, ◌≤◌, ◌<◌}
use native.Mathlib.Omega.{arith}
use Rattle.std.specs.Prelude.{Option, Some, None}
use Rattle.rule.specs.Seeding.{Entry}
use Rattle.rule.specs.Sums.{AllUnder, symbols_in}
use Rattle.rule.specs.Training.{count, choose, limits}
use Rattle.rule.specs.Training as rule
use Rattle.rule.proofs.Choosing.{choose_times}
use Rattle.rule.proofs.Counts.{count_symbols, counted_below}
use Rattle.recount.specs.Recount.{ruled, told, Chosen}
use Rattle.recount.specs.declared.Choice.{Choice}

module _ (p : List ℕ) (limit : ℕ) (ps : List (List ℕ)) (es : List Entry) where
  is_choice : (r : Option Choice) → Chosen p limit ps es r → choose (limits p limit) ps es ≡ told r
  unfolding limits
  is_choice r c = c.is (limits p limit) refl refl

  -- two answers that the contract allows are one
  pub chosen_single : (q r : Option Choice) → Chosen p limit ps es q → Chosen p limit ps es r → q ≡ r
  unfolding told ruled
  chosen_single q r a b = same q r a.some b.some (sym (is_choice q a) ∙ is_choice r b)
    where
      same : (q r : Option Choice) → ((c : Choice) → q ≡ Some c → 0 < c.times) → ((c : Choice) → r ≡ Some c → 0 < c.times) → told q ≡ told r → q ≡ r
      same None None f g e = refl
      same None (Some d) f g e = let z : 0 ≡ d.times = ap (λ (c : rule.Choice). c.times) e in let y = g d refl in absurd (omega arith)
      same (Some c) None f g e = let z : c.times ≡ 0 = ap (λ (c : rule.Choice). c.times) e in let y = f c refl in absurd (omega arith)
      same (Some c) (Some d) f g e = ap (λ (x : rule.Choice). Some (record { left = x.left; right = x.right; times = x.times })) e

  module _ (r : Option Choice) (c : Chosen p limit ps es r) (d : Choice) (e : r ≡ Some d) where
    chosen_is : choose (limits p limit) ps es ≡ ruled d
    unfolding told
    chosen_is = rw e at (is_choice r c)

    -- the answer has its pair's count, which is some
    pub chosen_counted : (0 < d.times) × (d.times ≡ count d.left d.right es)
    unfolding ruled
    chosen_counted = (c.some d e, rw chosen_is at (choose_times (limits p limit) ps es (rw chosen_is (c.some d e))))

    -- its two numbers are pieces that there are
    pub chosen_below : (n : ℕ) → AllUnder n es → (d.left < n) × (d.right < n)
    chosen_below n b = counted_below n d.left d.right es b (omega (arith, chosen_counted.0, chosen_counted.1))

    -- its count is no more than the weight of the words
    pub chosen_light : d.times ≤ symbols_in es
    chosen_light = omega (arith, chosen_counted.1, count_symbols d.left d.right es)
