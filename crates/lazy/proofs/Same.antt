-- The merges of the lazy rule are those of training, and it takes at most five entries for each symbol.
use mathlib.Core.Path.{◌≡◌, refl, sym, ap, ◌∙◌}
use mathlib.Core.Bool.{Bool, true, false, cond}
use mathlib.Core.List.{List, [], ◌∷◌}
use Prim.Native.Nat.{ℕ, zero, suc, ◌*◌, ◌≤◌, ◌<◌, max}
use native.Mathlib.Omega.{arith}
use lib.Dec.{eqb, ltb, leb}
use lib.ListN.{length}
use borrow.Author.Tests.{eqb-true, eqb-false, leb-true, leb-false, ltb-true, ltb-false}
use Rattle.rule.specs.Table.{Task}
use Rattle.rule.specs.Seeding.{Entry}
use Rattle.rule.specs.Training.{count, within, Choice, Merge, merge_of, train_from}
use Rattle.rule.specs.Sums.{AllUnder, in_use}
use Rattle.rule.proofs.Demand.{train_next, train_spent}
use Rattle.lazy.specs.Lazy.{insert, live, seeds, gained, Turn, again, gone, low, long, join, turn, one_more, merged, pieces_with, words_with, act, lazy, lazy_train}
use Rattle.lazy.specs.Sums.{potential}
use Rattle.lazy.specs.Invariant.{Inv}
use Rattle.lazy.proofs.Order.{differ}
use Rattle.lazy.proofs.Invariant.{inv_seeds, inv_drop, inv_again, inv_join, inv_chosen, inv_low, inv_empty}
use Rattle.lazy.proofs.Bound.{potential-drop, potential_again, potential_join, potential-seeds}

-- WHAT A TURN HAS FOUND
module _ (t : Task) (ps : List (List ℕ)) (es : List Entry) (e : Choice) where
  abbrev now : ℕ
  now = count e.left e.right es

  abbrev pub Means : Turn → Type 0
  Means again = (now ≡ e.times → ⊥) × (1 ≤ now)
  Means gone = (now ≡ e.times → ⊥) × (now ≡ 0)
  Means low = (now ≡ e.times) × (e.times < max 1 t.min_frequency)
  Means long = (now ≡ e.times) × (max 1 t.min_frequency ≤ e.times) × (within t ps e.left e.right ≡ false)
  Means join = (now ≡ e.times) × (max 1 t.min_frequency ≤ e.times) × (within t ps e.left e.right ≡ true)

  pub turn_means : Means (turn t ps es e)
  unfolding turn
  turn_means = go₁ (eqb now e.times) refl
    where
      go₄ : (b : Bool) → leb 1 now ≡ b → (now ≡ e.times → ⊥) → Means (cond b again gone)
      go₄ true h n = (n, leb-true 1 now h)
      go₄ false h n = (n, let z = leb-false 1 now h in omega arith)

      go₃ : (b : Bool) → within t ps e.left e.right ≡ b → now ≡ e.times → max 1 t.min_frequency ≤ e.times → Means (cond b join long)
      go₃ true h c n = (c, n, h)
      go₃ false h c n = (c, n, h)

      go₂ : (b : Bool) → ltb e.times (max 1 t.min_frequency) ≡ b → now ≡ e.times → Means (cond b low (cond (within t ps e.left e.right) join long))
      go₂ true h c = (c, ltb-true _ _ h)
      go₂ false h c = go₃ (within t ps e.left e.right) refl c (ltb-false _ _ h)

      go₁ : (b : Bool) → eqb now e.times ≡ b
          → Means (cond b (cond (ltb e.times (max 1 t.min_frequency)) low (cond (within t ps e.left e.right) join long)) (cond (leb 1 now) again gone))
      go₁ true h = go₂ (ltb e.times (max 1 t.min_frequency)) refl (eqb-true _ _ h)
      go₁ false h = go₄ (leb 1 now) refl (eqb-false _ _ h)

-- what is dropped without a merge keeps the invariant
module _ (t : Task) (ps : List (List ℕ)) (es : List Entry) (e : Choice) (qu : List Choice) (i : Inv t ps es (e ∷ qu)) where
  pub inv_gone : Means t ps es e gone → Inv t ps es qu
  inv_gone m = inv_drop t ps es e qu i (λ f k. let z = m.1 in omega arith)

  pub inv_long : Means t ps es e long → Inv t ps es qu
  inv_long m = inv_drop t ps es e qu i (λ f k. differ _ f m.2)

none_left : (t : Task) (ps : List (List ℕ)) (es : List Entry) → train_from t zero ps es ≡ []
unfolding train_from
none_left t ps es = refl

-- THE MERGES ARE THOSE OF TRAINING, with fuel for the potential
pub lazy_trains : (t : Task) (k n : ℕ) (ps : List (List ℕ)) (es : List Entry) (qu : List Choice) → Inv t ps es qu → potential es qu ≤ k
    → (lazy t k n ps es qu).merges ≡ train_from t n ps es
unfolding lazy act one_more merged
lazy_trains t zero zero ps es qu i h = sym (none_left t ps es)
lazy_trains t zero (suc n) ps es [] i h = sym (train_spent t (suc n) ps es (inv_empty t ps es i))
lazy_trains t zero (suc n) ps es (e ∷ qu) i h = absurd (omega (arith, potential-drop es e qu))
lazy_trains t (suc k) zero ps es qu i h = sym (none_left t ps es)
lazy_trains t (suc k) (suc n) ps es [] i h = sym (train_spent t (suc n) ps es (inv_empty t ps es i))
lazy_trains t (suc k) (suc n) ps es (e ∷ qu) i h = go (turn t ps es e) (turn_means t ps es e) (lazy_trains t k)
  where
    go : (u : Turn) → Means t ps es e u
        → ((n : ℕ) (ps : List (List ℕ)) (es : List Entry) (qu : List Choice) → Inv t ps es qu → potential es qu ≤ k → (lazy t k n ps es qu).merges ≡ train_from t n ps es)
        → (act u t n ps es e qu (lazy t k)).merges ≡ train_from t (suc n) ps es
    go again m f = f (suc n) ps es _ (inv_again t ps es e qu i) (omega (arith, potential_again es e qu m.0))
    go gone m f = f (suc n) ps es qu (inv_gone t ps es e qu i m) (omega (arith, potential-drop es e qu))
    go low m f = sym (train_spent t (suc n) ps es (inv_low t ps es e qu i m.1))
    go long m f = f (suc n) ps es qu (inv_long t ps es e qu i m) (omega (arith, potential-drop es e qu))
    go join m f =
        ap (λ (ms : List Merge). merge_of t ps es e.left e.right ∷ ms)
        (f n (pieces_with t ps e) (words_with ps es e) _ (inv_join t ps es e qu i) (omega (arith, potential_join t ps es e qu i)))
        ∙ sym (train_next t n ps es e.left e.right (inv_chosen t ps es e qu i m.0 m.1 m.2))

-- ENTRIES TAKEN, with any fuel: at most the potential
pub lazy-taken : (t : Task) (k n : ℕ) (ps : List (List ℕ)) (es : List Entry) (qu : List Choice) → Inv t ps es qu → (lazy t k n ps es qu).taken ≤ potential es qu
unfolding lazy act one_more merged
lazy-taken t zero n ps es qu i = omega arith
lazy-taken t (suc k) zero ps es qu i = omega arith
lazy-taken t (suc k) (suc n) ps es [] i = omega arith
lazy-taken t (suc k) (suc n) ps es (e ∷ qu) i = go (turn t ps es e) (turn_means t ps es e) (lazy-taken t k)
  where
    go : (u : Turn) → Means t ps es e u
        → ((n : ℕ) (ps : List (List ℕ)) (es : List Entry) (qu : List Choice) → Inv t ps es qu → (lazy t k n ps es qu).taken ≤ potential es qu)
        → (act u t n ps es e qu (lazy t k)).taken ≤ potential es (e ∷ qu)
    go again m f = omega (arith, f (suc n) ps es (insert (live es e.left e.right) qu) (inv_again t ps es e qu i), potential_again es e qu m.0)
    go gone m f = omega (arith, f (suc n) ps es qu (inv_gone t ps es e qu i m), potential-drop es e qu)
    go low m f = omega (arith, potential-drop es e qu)
    go long m f = omega (arith, f (suc n) ps es qu (inv_long t ps es e qu i m), potential-drop es e qu)
    go join m f =
        omega (
          arith,
          f n (pieces_with t ps e) (words_with ps es e) (gained (length ps) (words_with ps es e) qu) (inv_join t ps es e qu i),
          potential_join t ps es e qu i,
        )

-- FUEL FOR THE POTENTIAL IS ENOUGH: more changes nothing, so no run is cut off
pub lazy_fuel : (t : Task) (k j n : ℕ) (ps : List (List ℕ)) (es : List Entry) (qu : List Choice) → Inv t ps es qu → potential es qu ≤ k → potential es qu ≤ j
    → lazy t k n ps es qu ≡ lazy t j n ps es qu
unfolding lazy act
lazy_fuel t zero zero n ps es qu i h l = refl
lazy_fuel t zero (suc j) zero ps es qu i h l = refl
lazy_fuel t zero (suc j) (suc n) ps es [] i h l = refl
lazy_fuel t zero (suc j) (suc n) ps es (e ∷ qu) i h l = absurd (omega (arith, potential-drop es e qu))
lazy_fuel t (suc k) zero zero ps es qu i h l = refl
lazy_fuel t (suc k) zero (suc n) ps es [] i h l = refl
lazy_fuel t (suc k) zero (suc n) ps es (e ∷ qu) i h l = absurd (omega (arith, potential-drop es e qu))
lazy_fuel t (suc k) (suc j) zero ps es qu i h l = refl
lazy_fuel t (suc k) (suc j) (suc n) ps es [] i h l = refl
lazy_fuel t (suc k) (suc j) (suc n) ps es (e ∷ qu) i h l = go (turn t ps es e) (turn_means t ps es e) (lazy_fuel t k j)
  where
    go : (u : Turn) → Means t ps es e u
        → ((n : ℕ) (ps : List (List ℕ)) (es : List Entry) (qu : List Choice) → Inv t ps es qu → potential es qu ≤ k → potential es qu ≤ j → lazy t k n ps es qu ≡ lazy t j n ps es qu)
        → act u t n ps es e qu (lazy t k) ≡ act u t n ps es e qu (lazy t j)
    go again m f = ap one_more (f (suc n) ps es _ (inv_again t ps es e qu i) (omega (arith, potential_again es e qu m.0)) (omega (arith, potential_again es e qu m.0)))
    go gone m f = ap one_more (f (suc n) ps es qu (inv_gone t ps es e qu i m) (omega (arith, potential-drop es e qu)) (omega (arith, potential-drop es e qu)))
    go low m f = refl
    go long m f = ap one_more (f (suc n) ps es qu (inv_long t ps es e qu i m) (omega (arith, potential-drop es e qu)) (omega (arith, potential-drop es e qu)))
    go join m f =
        ap (merged (merge_of t ps es e.left e.right))
        (f n (pieces_with t ps e) (words_with ps es e) _ (inv_join t ps es e qu i) (omega (arith, potential_join t ps es e qu i)) (omega (arith, potential_join t ps es e qu i)))

-- THE THEOREMS, from pieces and words whose symbols are all numbers in use
module _ (t : Task) (n : ℕ) (ps : List (List ℕ)) (es : List Entry) (sound : AllUnder (length ps) es) where
  -- the lazy rule makes the merges of training
  pub lazy-same : (lazy_train t n ps es).merges ≡ train_from t n ps es
  unfolding lazy_train
  lazy-same = lazy_trains t (5 * in_use es) n ps es (seeds es) (inv_seeds t ps es sound) (potential-seeds es)

  -- five entries for each symbol are enough: with more, nothing changes
  pub lazy_any_fuel : (k : ℕ) → 5 * in_use es ≤ k → lazy t k n ps es (seeds es) ≡ lazy_train t n ps es
  unfolding lazy_train
  lazy_any_fuel k l = let p = potential-seeds es in lazy_fuel t k (5 * in_use es) n ps es (seeds es) (inv_seeds t ps es sound) (omega arith) p

  -- and no run takes more, whatever its fuel
  pub lazy_bound : (k : ℕ) → (lazy t k n ps es (seeds es)).taken ≤ 5 * in_use es
  lazy_bound k = omega (arith, lazy-taken t k n ps es (seeds es) (inv_seeds t ps es sound), potential-seeds es)
