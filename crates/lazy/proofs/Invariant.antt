-- The invariant of the lazy queue: it holds of the seeds, and every turn keeps it.
use mathlib.Core.Path.{◌≡◌, refl, sym, ◌∙◌}
use mathlib.Core.Bool.{Bool, true, false, ◌||◌}
use mathlib.Core.List.{List, [], ◌∷◌}
use mathlib.Core.Logic.{◌⊎◌, inl}
use Prim.Native.Nat.{ℕ, zero, suc, ◌+◌, ◌≤◌, ◌<◌, max}
use native.Mathlib.Omega.{arith}
use lib.Dec.{eqb}
use lib.ListN.{length}
use borrow.Author.Tests.{eqb-false}
use Rattle.rule.specs.Table.{Task}
use Rattle.rule.specs.Seeding.{Entry}
use Rattle.rule.specs.Rewriting.{bit, is_pair}
use Rattle.rule.specs.Training.{count, within, Choice}
use Rattle.rule.specs.Sums.{AllUnder}
use Rattle.rule.specs.Demand.{Lower, Open, Chosen}
use Rattle.rule.proofs.Rewriting.{pair_true}
use Rattle.rule.proofs.Counts.{counts_fall, counted_below}
use Rattle.lazy.specs.Lazy.{insert, total, entries, Pair, live, all_spots, enter_all, holding, seeds, gained, pieces_with, words_with}
use Rattle.lazy.specs.Invariant.{First, Every, Sorted, Fair, Inv}
use Rattle.lazy.proofs.Order.{first_refl, first-lower, first-ahead}
use Rattle.lazy.proofs.Old.{length_with, sound_with, within_with, old_with, gone_with}
use Rattle.lazy.proofs.Spots.{In, counted_in, spots-below, in_holding, holding_in}
use Rattle.rule.proofs.Places.{either_false}
use Rattle.lazy.proofs.Queue.{every_map, every_two, every_insert, sorted_insert, find, entries_cons, entries-insert, is_of-live, enter_all-keeps, enter_all_stay, enter_all_has}

fair_live : (ps : List (List ℕ)) (es : List Entry) (l r : ℕ) → l < length ps → r < length ps → Fair ps es (live es l r)
unfolding live
fair_live ps es l r h k = record { promise = omega arith; left_known = h; right_known = k }

unique_insert : (es : List Entry) (l r : ℕ) (qu : List Choice) → entries l r qu ≡ 0 → ((p q : ℕ) → entries p q qu ≤ 1) → (p q : ℕ) → entries p q (insert (live es l r) qu) ≤ 1
unique_insert es l r qu z u p q = rw (entries-insert p q (live es l r) qu, is_of-live p q es l r) (go (is_pair p q l r) refl)
  where
    go : (b : Bool) → is_pair p q l r ≡ b → bit b + entries p q qu ≤ 1
    go true e = let y = pair_true p q l r e in let k : entries p q qu ≡ 0 = rw (← y.0, ← y.1) z in omega arith
    go false e = omega (arith, u p q)

first_at : (es : List Entry) (e f : Choice) (p q : ℕ) → First e f → f.left ≡ p → f.right ≡ q → count f.left f.right es ≤ f.times → First e (live es p q)
unfolding live
first_at es e f p q h l r k = rw (← l, ← r) (first-lower h (count f.left f.right es) k)

-- what pairs entered one by one keep: the order, one entry for each, and fair ones
module _ (ps : List (List ℕ)) (es : List Entry) (cs : List Pair) where
  sorted_enter_all : (qu : List Choice) → Sorted qu → Sorted (enter_all es cs qu)
  sorted_enter_all qu h = enter_all-keeps es Sorted cs (λ c m l z k. sorted_insert (live es c.left c.right) l k) qu h

  unique_enter_all : (qu : List Choice) → ((p q : ℕ) → entries p q qu ≤ 1) → (p q : ℕ) → entries p q (enter_all es cs qu) ≤ 1
  unique_enter_all qu h = enter_all-keeps es (λ l. (p q : ℕ) → entries p q l ≤ 1) cs (λ c m l z k. unique_insert es c.left c.right l z k) qu h

  fair_enter_all : ((c : Pair) → In c cs → (c.left < length ps) × (c.right < length ps)) → (qu : List Choice) → Every (Fair ps es) qu → Every (Fair ps es) (enter_all es cs qu)
  fair_enter_all b qu h = enter_all-keeps es (Every (Fair ps es)) cs
      (λ c m l z k. every_insert (Fair ps es) (live es c.left c.right) l (fair_live ps es c.left c.right (b c m).0 (b c m).1) k) qu h

module _ (t : Task) (ps : List (List ℕ)) (es : List Entry) where
  -- AT THE START
  pub inv_seeds : AllUnder (length ps) es → Inv t ps es (seeds es)
  unfolding seeds entries total
  inv_seeds h = record {
    sound = h;
    sorted = sorted_enter_all ps es (all_spots es) [] tt;
    unique = unique_enter_all ps es (all_spots es) [] (λ p q. omega arith);
    present = λ p q f k. enter_all_has es [] k (counted_in p q es k);
    fair = fair_enter_all ps es (all_spots es) (spots-below (length ps) es h) [] tt;
  }

  module _ (e : Choice) (qu : List Choice) (i : Inv t ps es (e ∷ qu)) where
    -- AN ENTRY DROPPED, of a pair that is gone or over-long
    pub inv_drop : (within t ps e.left e.right ≡ true → 1 ≤ count e.left e.right es → ⊥) → Inv t ps es qu
    inv_drop n = record {
      sound = i.sound;
      sorted = i.sorted.1;
      unique = λ p q. omega (arith, i.unique p q, entries_cons p q e qu);
      present = λ p q f k. go p q f k (is_pair p q e.left e.right) refl (rw (entries_cons p q e qu) at (i.present p q f k));
      fair = i.fair.1;
    }
      where
        go : (p q : ℕ) → within t ps p q ≡ true → 1 ≤ count p q es → (b : Bool) → is_pair p q e.left e.right ≡ b → 1 ≤ bit b + entries p q qu → 1 ≤ entries p q qu
        go p q f k true h m =
            let y = pair_true p q e.left e.right h in
            absurd (n (rw (y.0, y.1) f) (rw (y.0, y.1) k))
        go p q f k false h m = omega arith

    -- AN ENTRY CORRECTED
    pub inv_again : Inv t ps es (insert (live es e.left e.right) qu)
    inv_again = record {
      sound = i.sound;
      sorted = sorted_insert (live es e.left e.right) qu i.sorted.1;
      unique = λ p q. rw (same p q) (i.unique p q);
      present = λ p q f k. rw (same p q) (i.present p q f k);
      fair = every_insert (Fair ps es) (live es e.left e.right) qu (fair_live ps es e.left e.right i.fair.0.left_known i.fair.0.right_known) i.fair.1;
    }
      where
        same : (p q : ℕ) → entries p q (insert (live es e.left e.right) qu) ≡ entries p q (e ∷ qu)
        same p q = rw (entries-insert p q (live es e.left e.right) qu, entries_cons p q e qu, is_of-live p q es e.left e.right)

    -- AN ENTRY MERGED
    pub inv_join : Inv t (pieces_with t ps e) (words_with ps es e) (gained (length ps) (words_with ps es e) qu)
    unfolding gained
    inv_join = record {
      sound = sound_with t ps es e i.sound;
      sorted = sorted_enter_all ps' es' cs qu i.sorted.1;
      unique = unique_enter_all ps' es' cs qu (λ p q. omega (arith, i.unique p q, entries_cons p q e qu));
      present = λ p q f k. go p q f k (eqb p x || eqb q x) refl;
      fair = fair_enter_all ps' es' cs (λ c m. spots-below (length ps') es' (sound_with t ps es e i.sound) c (in_holding x c (all_spots es') m)) qu (every_map older qu i.fair.1);
    }
      where
        ps' : List (List ℕ)
        ps' = pieces_with t ps e

        es' : List Entry
        es' = words_with ps es e

        x : ℕ
        x = length ps

        cs : List Pair
        cs = holding x (all_spots es')

        older : (f : Choice) → Fair ps es f → Fair ps' es' f
        older f h =
            let k = length_with t ps es e in
            let m = old_with t ps es e f.left f.right h.left_known h.right_known in
            record { promise = omega arith; left_known = omega arith; right_known = omega arith }

        old : (p q : ℕ) → 1 ≤ count p q es' → (b : Bool) → is_pair p q e.left e.right ≡ b → 1 ≤ bit b + entries p q qu → 1 ≤ entries p q qu
        old p q k true h m =
            let y = pair_true p q e.left e.right h in
            let z : count p q es' ≡ 0 = rw (← y.0, ← y.1) (gone_with t ps es e i.fair.0.left_known i.fair.0.right_known) in
            omega arith
        old p q k false h m = omega arith

        go : (p q : ℕ) → within t ps' p q ≡ true → 1 ≤ count p q es' → (b : Bool) → (eqb p x || eqb q x) ≡ b → 1 ≤ entries p q (enter_all es' cs qu)
        go p q f k true h = enter_all_has es' qu k (holding_in x p q h (counted_in p q es' k))
        go p q f k false h =
            let d = either_false (eqb p x) (eqb q x) h in
            let o = counts_fall p q e.left e.right x (λ z. eqb-false p x d.0 (sym z)) (λ z. eqb-false q x d.1 (sym z)) es in
            let one : 1 ≤ count p q es = omega arith in
            let b = counted_below x p q es i.sound one in
            let g : within t ps p q ≡ true = sym (within_with t ps es e p q b.0 b.1) ∙ f in
            enter_all_stay es' p q cs qu (old p q k (is_pair p q e.left e.right) refl (rw (entries_cons p q e qu) at (i.present p q g one)))

    -- THE FIRST ENTRY STANDS BEFORE EVERY PAIR within the limit that occurs: its count now is at most what its own entry promises
    pub inv_first : (p q : ℕ) → within t ps p q ≡ true → 1 ≤ count p q es → First e (live es p q)
    inv_first p q f k =
        let m = find (λ g. First e g × Fair ps es g) p q (e ∷ qu) (i.present p q f k) ((first_refl e, i.fair.0), every_two (λ g a b. (a, b)) qu i.sorted.0 i.fair.1) in
        first_at es e m.it p q m.holds.0 m.left m.right m.holds.1.promise

    -- so it is the pair that demand 3 names, if it is not stale and its count is enough
    pub inv_chosen : count e.left e.right es ≡ e.times → max 1 t.min_frequency ≤ e.times → within t ps e.left e.right ≡ true
        → Chosen t ps es e.left e.right
    unfolding live
    inv_chosen c n f = record {
      is_open = record { in_limit = f; occurs = omega arith; frequent = omega arith };
      ahead = λ p q g d. rw c (go p q g d (count p q es) refl);
    }
      where
        go : (p q : ℕ) → within t ps p q ≡ true → ((p ≡ e.left) × (q ≡ e.right) → ⊥) → (j : ℕ) → count p q es ≡ j
            → (count p q es < e.times) ⊎ ((count p q es ≡ e.times) × Lower e.left e.right p q)
        go p q g d zero z = inl (omega arith)
        go p q g d (suc j) z = first-ahead e (live es p q) (inv_first p q g (omega arith)) d

    -- and no pair may be merged, if its count is not enough
    pub inv_low : e.times < max 1 t.min_frequency → (p q : ℕ) → Open t ps es p q → ⊥
    unfolding live
    inv_low n p q o =
        let a = o.occurs in
        let b = o.frequent in
        let h = (inv_first p q o.in_limit a).counts in
        omega arith

  -- nor if the queue is empty
  pub inv_empty : Inv t ps es [] → (p q : ℕ) → Open t ps es p q → ⊥
  unfolding entries total
  inv_empty i p q o = let z = i.present p q o.in_limit o.occurs in omega arith
