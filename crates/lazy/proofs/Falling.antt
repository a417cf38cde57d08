-- Savings never rise from a merge to the next, and there are no more merges than symbols.
use mathlib.Core.Path.{◌≡◌, refl, sym, ◌∙◌}
use mathlib.Core.Bool.{true}
use mathlib.Core.List.{List, [], ◌∷◌}
use mathlib.Core.Logic.{◌≢◌, ⊎_elim}
use Prim.Native.Nat.{ℕ, zero, suc, ◌+◌, ◌*◌, ◌≤◌, ◌<◌, max}
use native.Mathlib.Nat.{mul-zero}
use native.Mathlib.Omega.{arith}
use lib.ListN.{length}
use Rattle.rule.specs.Table.{Task}
use Rattle.rule.specs.Seeding.{Entry}
use Rattle.rule.specs.Rewriting.{rewrites, count_in}
use Rattle.rule.specs.Training.{count, rewrite_all, saving, within, Choice, choose, Merge, train_from}
use Rattle.rule.specs.Demand.{Chosen}
use Rattle.rule.specs.Sums.{AllUnder, in_use}
use Rattle.runs.proofs.Parts.{same_or_not, below_or_not}
use Rattle.rule.proofs.Rewriting.{rewrites_some}
use Rattle.rule.proofs.Counts.{rewrites-count, counts_fall, counted_below, counts_new_left, counts_new_right}
use Rattle.rule.proofs.Choosing.{choose-spent, choose_chosen}
use Rattle.rule.proofs.Demand.{train_next, train_spent}
use Rattle.lazy.specs.Lazy.{live, pieces_with, words_with}
use Rattle.lazy.specs.Sums.{all_rewrites, FallsFrom}
use Rattle.lazy.proofs.Old.{sound_with, within_with}
use Rattle.lazy.proofs.Bound.{units-rewrite}

-- the chosen pair has the greatest count
pub chosen_most : (t : Task) (ps : List (List ℕ)) (es : List Entry) (a b : ℕ) → Chosen t ps es a b → (p q : ℕ) → within t ps p q ≡ true → count p q es ≤ count a b es
chosen_most t ps es a b c p q w =
    same_or_not p a (λ y. same_or_not q b (λ z. rw (y, z) (omega arith)) (λ n. other (λ k. n k.1))) (λ n. other (λ k. n k.0))
  where
    other : ((p ≡ a) × (q ≡ b) → ⊥) → count p q es ≤ count a b es
    other n = ⊎_elim (λ h. omega arith) (λ h. let z = h.0 in omega arith) (c.ahead p q w n)

-- AFTER A MERGE no pair within the limit counts more than the merged one did: an old pair never rises, a new one is at most as often as the rewrites
module _ (t : Task) (ps : List (List ℕ)) (es : List Entry) (a b : ℕ) (sound : AllUnder (length ps) es) (c : Chosen t ps es a b) where
  abbrev e : Choice
  e = record { left = a; right = b; times = count a b es }

  abbrev es' : List Entry
  es' = words_with ps es e

  old_most : (p q : ℕ) → within t (pieces_with t ps e) p q ≡ true → length ps ≢ p → length ps ≢ q → (n : ℕ) → count p q es' ≡ n → count p q es' ≤ count a b es
  old_most p q f hp hq zero z = omega arith
  old_most p q f hp hq (suc n) z =
      let o = counts_fall p q a b (length ps) hp hq es in
      let m = counted_below (length ps) p q es sound (omega arith) in
      let g : within t ps p q ≡ true = sym (within_with t ps es e p q m.0 m.1) ∙ f in
      omega (arith, chosen_most t ps es a b c p q g)

  pub next_most : (p q : ℕ) → within t (pieces_with t ps e) p q ≡ true → count p q es' ≤ count a b es
  next_most p q f =
      same_or_not p (length ps)
      (λ y. rw y (omega (arith, counts_new_left a b (length ps) q es sound, rewrites-count a b es)))
      (λ m.
      same_or_not q (length ps)
      (λ y. rw y (omega (arith, counts_new_right a b (length ps) p es sound, rewrites-count a b es)))
      (λ n. old_most p q f (λ z. m (sym z)) (λ z. n (sym z)) (count p q es') refl))

-- by cases: training has ended, or a pair is chosen
train_case : (t : Task) (n : ℕ) (ps : List (List ℕ)) (es : List Entry) (P : List Merge → Type 0) → P []
    → ((a b : ℕ) → Chosen t ps es a b → P (train_from t (suc n) ps es)) → P (train_from t (suc n) ps es)
train_case t n ps es P none some =
    below_or_not (choose t ps es).times (max 1 t.min_frequency)
    (λ h. rw (train_spent t (suc n) ps es (choose-spent t ps es h)) none)
    (λ h. some (choose t ps es).left (choose t ps es).right (choose_chosen t ps es h))

-- SAVINGS NEVER RISE
pub train_falls : (t : Task) (n : ℕ) (ps : List (List ℕ)) (es : List Entry) (c : ℕ) → AllUnder (length ps) es
    → ((p q : ℕ) → within t ps p q ≡ true → count p q es ≤ c) → FallsFrom c (train_from t n ps es)
unfolding FallsFrom train_from saving live
train_falls t zero ps es c s h = tt
train_falls t (suc n) ps es c s h = train_case t n ps es (FallsFrom c) tt (λ a b d. go a b d (train_falls t n))
  where
    go : (a b : ℕ) → Chosen t ps es a b
        → ((ps : List (List ℕ)) (es : List Entry) (c : ℕ) → AllUnder (length ps) es → ((p q : ℕ) → within t ps p q ≡ true → count p q es ≤ c) → FallsFrom c (train_from t n ps es))
        → FallsFrom c (train_from t (suc n) ps es)
    go a b d f =
        rw (train_next t n ps es a b d)
        (h a b d.is_open.in_limit, f (pieces_with t ps (live es a b)) (words_with ps es (live es a b)) (count a b es) (sound_with t ps es (live es a b) s) (next_most t ps es a b s d))

-- A MERGE COSTS A SYMBOL, so there are no more merges than symbols
rewrites_any : (a b : ℕ) (es : List Entry) → 1 ≤ count a b es → 1 ≤ all_rewrites a b es
unfolding count all_rewrites
rewrites_any a b [] h = absurd (omega arith)
rewrites_any a b (e ∷ es) h = go (count_in a b e.symbols) refl (rewrites_any a b es) h
  where
    go : (c : ℕ) → count_in a b e.symbols ≡ c → (1 ≤ count a b es → 1 ≤ all_rewrites a b es) → 1 ≤ e.frequency * c + count a b es → 1 ≤ rewrites a b e.symbols + all_rewrites a b es
    go zero z f k = omega (arith, f (omega (arith, mul-zero e.frequency)))
    go (suc c) z f k = omega (arith, rewrites_some a b e.symbols (omega arith))

pub merge_shrinks : (a b x : ℕ) (es : List Entry) → 1 ≤ count a b es → in_use (rewrite_all a b x es) < in_use es
merge_shrinks a b x es h = omega (arith, units-rewrite a b x es, rewrites_any a b es h)

pub merges_units : (t : Task) (n : ℕ) (ps : List (List ℕ)) (es : List Entry) → length (train_from t n ps es) ≤ in_use es
unfolding train_from live
merges_units t zero ps es = omega arith
merges_units t (suc n) ps es = train_case t n ps es (λ ms. length ms ≤ in_use es) (omega arith) (λ a b d. go a b d (merges_units t n))
  where
    go : (a b : ℕ) → Chosen t ps es a b → ((ps : List (List ℕ)) (es : List Entry) → length (train_from t n ps es) ≤ in_use es) → length (train_from t (suc n) ps es) ≤ in_use es
    go a b d f =
        let m = merge_shrinks a b (length ps) es d.is_open.occurs in
        let k = f (pieces_with t ps (live es a b)) (words_with ps es (live es a b)) in
        rw (train_next t n ps es a b d) (omega arith)
