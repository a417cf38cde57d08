-- The lazy rule a turn at a time, for a loop: the whole is what is made so far, grown by what the lazy rule makes of the rest.
use mathlib.Core.Path.{◌≡◌, refl, sym, ap, ◌∙◌}
use mathlib.Core.Bool.{true, false}
use mathlib.Core.List.{List, [], ◌∷◌, ◌++◌, append_assoc, append-nil}
use Prim.Native.Nat.{ℕ, zero, suc, ◌+◌, ◌≤◌, ◌<◌, max}
use native.Mathlib.Omega.{arith}
use lib.ListN.{length}
use borrow.Author.Tests.{eq-eqb, ne_eqb, le-leb, lt-leb, le-ltb, lt-ltb}
use Rattle.rule.specs.Table.{Task}
use Rattle.rule.specs.Seeding.{Entry}
use Rattle.rule.specs.Training.{count, within, Choice, Merge, merge_of}
use Rattle.lazy.specs.Lazy.{insert, live, gained, Turn, again, gone, low, long, join, turn, Took, one_more, merged, pieces_with, words_with, act, lazy}
use Rattle.lazy.specs.Loop.{grown}

pub grown_start : (r : Took) → r ≡ grown [] 0 r
unfolding grown
grown_start r = let h : r.taken ≡ 0 + r.taken = omega arith in λ i. record { merges = r.merges; taken = h i }

grown_one : (ms : List Merge) (c : ℕ) (r : Took) → grown ms c (one_more r) ≡ grown ms (c + 1) r
unfolding grown one_more
grown_one ms c r = let h : c + suc r.taken ≡ c + 1 + r.taken = omega arith in λ i. record { merges = ms ++ r.merges; taken = h i }

grown-merged : (ms : List Merge) (c : ℕ) (m : Merge) (r : Took) → grown ms c (merged m r) ≡ grown (ms ++ (m ∷ [])) (c + 1) r
unfolding grown merged
grown-merged ms c m r =
    let h : c + suc r.taken ≡ c + 1 + r.taken = omega arith in
    let g : ms ++ (m ∷ r.merges) ≡ (ms ++ (m ∷ [])) ++ r.merges = sym (append_assoc ms (m ∷ []) r.merges) in
    λ i. record { merges = g i; taken = h i }

-- WHICH TURN IT IS, by the tests as facts
module _ (t : Task) (ps : List (List ℕ)) (es : List Entry) (e : Choice) where
  abbrev now : ℕ
  now = count e.left e.right es

  turn_again : (now ≡ e.times → ⊥) → 1 ≤ now → turn t ps es e ≡ again
  unfolding turn
  turn_again n h = rw (ne_eqb now e.times n, le-leb 1 now h)

  turn_gone : (now ≡ e.times → ⊥) → now ≡ 0 → turn t ps es e ≡ gone
  unfolding turn
  turn_gone n h = rw (ne_eqb now e.times n, lt-leb 1 now (omega arith))

  turn_low : now ≡ e.times → e.times < max 1 t.min_frequency → turn t ps es e ≡ low
  unfolding turn
  turn_low c h = rw (eq-eqb now e.times c, lt-ltb e.times (max 1 t.min_frequency) h)

  turn_long : now ≡ e.times → max 1 t.min_frequency ≤ e.times → within t ps e.left e.right ≡ false → turn t ps es e ≡ long
  unfolding turn
  turn_long c h f = rw (eq-eqb now e.times c, le-ltb e.times (max 1 t.min_frequency) h, f)

  turn_join : now ≡ e.times → max 1 t.min_frequency ≤ e.times → within t ps e.left e.right ≡ true → turn t ps es e ≡ join
  unfolding turn
  turn_join c h f = rw (eq-eqb now e.times c, le-ltb e.times (max 1 t.min_frequency) h, f)

lazy-turn : (t : Task) (k n : ℕ) (ps : List (List ℕ)) (es : List Entry) (e : Choice) (qu : List Choice) (u : Turn) → turn t ps es e ≡ u
    → lazy t (suc k) (suc n) ps es (e ∷ qu) ≡ act u t n ps es e qu (lazy t k)
unfolding lazy
lazy-turn t k n ps es e qu u h = rw h

-- THE TURNS
module _ (t : Task) (k n : ℕ) (ps : List (List ℕ)) (es : List Entry) (e : Choice) (qu : List Choice) (whole : Took) (ms : List Merge) (c : ℕ)
    (h : whole ≡ grown ms c (lazy t (suc k) (suc n) ps es (e ∷ qu))) where
  pub step_again : (count e.left e.right es ≡ e.times → ⊥) → 1 ≤ count e.left e.right es
      → whole ≡ grown ms (c + 1) (lazy t k (suc n) ps es (insert (live es e.left e.right) qu))
  unfolding act
  step_again a b = h ∙ ap (grown ms c) (lazy-turn t k n ps es e qu again (turn_again t ps es e a b)) ∙ grown_one ms c _

  pub step_gone : (count e.left e.right es ≡ e.times → ⊥) → count e.left e.right es ≡ 0
      → whole ≡ grown ms (c + 1) (lazy t k (suc n) ps es qu)
  unfolding act
  step_gone a b = h ∙ ap (grown ms c) (lazy-turn t k n ps es e qu gone (turn_gone t ps es e a b)) ∙ grown_one ms c _

  pub step_long : count e.left e.right es ≡ e.times → max 1 t.min_frequency ≤ e.times → within t ps e.left e.right ≡ false
      → whole ≡ grown ms (c + 1) (lazy t k (suc n) ps es qu)
  unfolding act
  step_long a b d = h ∙ ap (grown ms c) (lazy-turn t k n ps es e qu long (turn_long t ps es e a b d)) ∙ grown_one ms c _

  pub step_low : count e.left e.right es ≡ e.times → e.times < max 1 t.min_frequency → whole ≡ record { merges = ms; taken = c + 1 }
  unfolding act grown
  step_low a b = h ∙ ap (grown ms c) (lazy-turn t k n ps es e qu low (turn_low t ps es e a b)) ∙ (λ i. record { merges = append-nil ms i; taken = c + 1 })

  pub step_join : count e.left e.right es ≡ e.times → max 1 t.min_frequency ≤ e.times → within t ps e.left e.right ≡ true
      → whole ≡ grown (ms ++ (merge_of t ps es e.left e.right ∷ [])) (c + 1) (lazy t k n (pieces_with t ps e) (words_with ps es e) (gained (length ps) (words_with ps es e) qu))
  unfolding act
  step_join a b d = h ∙ ap (grown ms c) (lazy-turn t k n ps es e qu join (turn_join t ps es e a b d)) ∙ grown-merged ms c (merge_of t ps es e.left e.right) _

-- THE WAYS OUT that take no entry
module _ (t : Task) (k : ℕ) (ps : List (List ℕ)) (es : List Entry) (whole : Took) (ms : List Merge) (c : ℕ) where
  done_is : whole ≡ grown ms c (record { merges = []; taken = 0 }) → whole ≡ record { merges = ms; taken = c }
  unfolding grown
  done_is h = let g : c + 0 ≡ c = omega arith in h ∙ (λ i. record { merges = append-nil ms i; taken = g i })

  pub step_empty : (n : ℕ) → whole ≡ grown ms c (lazy t k n ps es []) → whole ≡ record { merges = ms; taken = c }
  unfolding lazy
  step_empty n h = done_is (h ∙ ap (grown ms c) (go k n))
    where
      go : (k n : ℕ) → lazy t k n ps es [] ≡ record { merges = []; taken = 0 }
      go zero n = refl
      go (suc k) zero = refl
      go (suc k) (suc n) = refl

  pub step_full : (qu : List Choice) → whole ≡ grown ms c (lazy t k 0 ps es qu) → whole ≡ record { merges = ms; taken = c }
  unfolding lazy
  step_full qu h = done_is (h ∙ ap (grown ms c) (go k))
    where
      go : (k : ℕ) → lazy t k 0 ps es qu ≡ record { merges = []; taken = 0 }
      go zero = refl
      go (suc k) = refl
