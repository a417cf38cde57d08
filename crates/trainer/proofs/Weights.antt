-- The kept words of a table that passed: their frequencies are at least 1, and they have no more symbols than the table has units. Assumes nothing.
use mathlib.Core.Path.{◌≡◌, ap, ◌∙◌}
use mathlib.Core.Bool.{false}
use mathlib.Core.List.{List, [], ◌∷◌, map}
use Prim.Native.Nat.{ℕ, zero, suc, ◌≤◌}
use native.Mathlib.Omega.{arith}
use lib.Dec.{eqb}
use borrow.Author.Tests.{eqb-false}
use Rattle.rule.specs.Table.{Task, U, frequencies}
use Rattle.rule.specs.Seeding.{Entry, decorated, seeds, number_of, keep, kept_with, kept}
use Rattle.rule.specs.Refusals.{no_frequency, zero_frequency}
use Rattle.rule.specs.Sums.{in_use}
use Rattle.rule.proofs.Places.{None, none}
use Rattle.lazy.proofs.Table.{kept-units}
use Rattle.word.specs.Layout.{entry_at}
use Rattle.word.specs.declared.WordSet.{WordSet}
use Rattle.states.specs.Tracking.{Weighed}
use Rattle.seeding.specs.Seeding.{Sown}

-- THE SYMBOLS IN USE

pub sown_live : (t : Task) (n : ℕ) (xs ys cs vs ws : List ℕ) (c u : ℕ) (w : WordSet) → Sown t n xs ys cs vs ws c u w → n ≡ U t → w.live ≤ n
sown_live t n xs ys cs vs ws c u w s e =
    let used = s.words.used ∙ ap in_use s.view in
    omega (arith, used, kept-units t, e)

-- EVERY FREQUENCY IS AT LEAST 1

weighed-more : (e : Entry) (es : List Entry) → 1 ≤ e.frequency → Weighed es → Weighed (e ∷ es)
unfolding entry_at
weighed-more e es h g zero l = h
weighed-more e es h g (suc k) l = g k (omega arith)

keep-weighed : (f : ℕ) (ss : List ℕ) (es : List Entry) → 1 ≤ f → Weighed es → Weighed (keep f ss es)
unfolding keep
keep-weighed f [] es h g = g
keep-weighed f (s ∷ []) es h g = g
keep-weighed f (s ∷ s₁ ∷ ss) es h g = weighed-more (record { frequency = f; symbols = s ∷ s₁ ∷ ss }) es h g

none_weighed : Weighed []
none_weighed k l = absurd (omega arith)

kept_with-weighed : (ps : List (List ℕ)) (fs : List ℕ) (ds : List (List (List ℕ))) → None (map (eqb 0) fs) → Weighed (kept_with ps fs ds)
unfolding kept_with
kept_with-weighed ps [] ds h = none_weighed
kept_with-weighed ps (f ∷ fs) [] h = none_weighed
kept_with-weighed ps (f ∷ fs) (d ∷ ds) h =
    let z = eqb-false 0 f h.0 in
    keep-weighed f (map (number_of ps) d) (kept_with ps fs ds) (omega arith) (kept_with-weighed ps fs ds h.1)

pub kept-weighed : (t : Task) → zero_frequency t.frequency_bytes ≡ false → Weighed (kept t)
unfolding kept frequencies zero_frequency no_frequency
kept-weighed t h = kept_with-weighed (seeds t) (frequencies t) (decorated t) (none (no_frequency t.frequency_bytes) h)
