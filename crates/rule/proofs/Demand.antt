-- Training obeys demand 3, and demand 3 leaves one list of merges.
use mathlib.Core.Path.{◌≡◌, refl, sym, ◌∙◌}
use mathlib.Core.Bool.{Bool, true, false, cond}
use mathlib.Core.List.{List, [], ◌∷◌, ◌++◌, map, append_assoc, append-nil}
use mathlib.Core.Logic.{◌⊎◌, inl, inr}
use Prim.Native.Nat.{ℕ, zero, suc, ◌+◌, ◌-◌, ◌≤◌, ◌<◌, max}
use native.Mathlib.Nat.{add-zero}
use native.Mathlib.Omega.{arith}
use lib.Dec.{ltb}
use lib.ListN.{length, take, length-append}
use borrow.Author.Tests.{ltb-true, ltb-false, le-ltb}
use Rattle.rule.specs.Table.{Task}
use Rattle.rule.specs.Seeding.{Entry, seeds, kept}
use Rattle.rule.specs.Training.{rewrite_all, joined_of, choose, Merge, merge_of, train_from, trained}
use Rattle.rule.specs.Demand.{merge_at, pieces_after, words_after, Open, Chosen, Made, Demand}
use Rattle.rule.proofs.Choosing.{choose-spent, choose_chosen, chosen_one, chosen_is}

-- pieces and words after k merges, from any pieces and words; the first merge makes the number x
unfoldable pub pieces_from : List (List ℕ) → List Merge → ℕ → List (List ℕ)
pieces_from ps ms k = ps ++ map (λ m. m.spelled) (take k ms)

unfoldable pub words_from : ℕ → List Entry → List Merge → ℕ → List Entry
words_from x es ms zero = es
words_from x es ms (suc k) = rewrite_all (merge_at ms k).left (merge_at ms k).right (x + k) (words_from x es ms k)

-- after the first merge, the rest goes on from its pieces and words
pieces_start : (ps : List (List ℕ)) (ms : List Merge) → pieces_from ps ms 0 ≡ ps
unfolding pieces_from
pieces_start ps ms = append-nil ps

pieces_on : (ps : List (List ℕ)) (m : Merge) (ms : List Merge) (k : ℕ) → pieces_from ps (m ∷ ms) (suc k) ≡ pieces_from (ps ++ (m.spelled ∷ [])) ms k
unfolding pieces_from
pieces_on ps m ms k = sym (append_assoc ps (m.spelled ∷ []) (map (λ m. m.spelled) (take k ms)))

words_start : (x : ℕ) (es : List Entry) (ms : List Merge) → words_from x es ms 0 ≡ es
unfolding words_from
words_start x es ms = refl

words_on : (x : ℕ) (es : List Entry) (m : Merge) (ms : List Merge) (k : ℕ)
    → words_from x es (m ∷ ms) (suc k) ≡ words_from (suc x) (rewrite_all m.left m.right x es) ms k
unfolding words_from
words_on x es m ms zero = rw add-zero
words_on x es m ms (suc k) =
    let e : x + suc k ≡ suc x + k = omega arith in
    rw (e, words_on x es m ms k)

module _ (t : Task) where
  -- demand 3 from any pieces and words, with n merges at most
  pub record Follows (n : ℕ) (ps : List (List ℕ)) (es : List Entry) (ms : List Merge) : Type 0 where
    pub made : (k : ℕ) → k < length ms → Made t (pieces_from ps ms k) (words_from (length ps) es ms k) (merge_at ms k)
    pub fits : length ms ≤ n
    pub ends : (length ms ≡ n) ⊎ ((p q : ℕ) → Open t (pieces_from ps ms (length ms)) (words_from (length ps) es ms (length ms)) p q → ⊥)

  module _ (ps : List (List ℕ)) (es : List Entry) where
    -- the first merge, and the rest
    follows_head : {n : ℕ} {m : Merge} {ms : List Merge} → Follows n ps es (m ∷ ms) → Made t ps es m
    follows_head {ms = ms} f = rw (pieces_start, words_start) at (f.made 0 (omega arith))

    module _ (m : Merge) (ms : List Merge) where
      abbrev ps' : List (List ℕ)
      ps' = ps ++ (m.spelled ∷ [])

      abbrev es' : List Entry
      es' = rewrite_all m.left m.right (length ps) es

      longer : length ps' ≡ suc (length ps)
      longer = simp length-append (omega arith)

      words_next : (k : ℕ) → words_from (length ps) es (m ∷ ms) (suc k) ≡ words_from (length ps') es' ms k
      words_next k = rw longer (words_on (length ps) es m ms k)

      follows_tail : (n : ℕ) → Follows (suc n) ps es (m ∷ ms) → Follows n ps' es' ms
      follows_tail n f = record {
        made = λ k h. rw (pieces_on, words_next) at (f.made (suc k) (omega arith));
        fits = let h = f.fits in omega arith;
        ends = go f.ends;
      }
        where
          go : (suc (length ms) ≡ suc n) ⊎ ((p q : ℕ) → Open t (pieces_from ps (m ∷ ms) (suc (length ms))) (words_from (length ps) es (m ∷ ms) (suc (length ms))) p q → ⊥)
              → (length ms ≡ n) ⊎ ((p q : ℕ) → Open t (pieces_from ps' ms (length ms)) (words_from (length ps') es' ms (length ms)) p q → ⊥)
          go (inl e) = inl (omega arith)
          go (inr h) = inr (rw (pieces_on, words_next) at h)

      follows_cons : (n : ℕ) → Made t ps es m → Follows n ps' es' ms → Follows (suc n) ps es (m ∷ ms)
      follows_cons n c f = record { made = each; fits = let h = f.fits in omega arith; ends = go f.ends }
        where
          each : (k : ℕ) → k < suc (length ms) → Made t (pieces_from ps (m ∷ ms) k) (words_from (length ps) es (m ∷ ms) k) (merge_at (m ∷ ms) k)
          each zero h = rw (pieces_start, words_start) c
          each (suc k) h = rw (pieces_on, words_next) (f.made k (omega arith))

          go : (length ms ≡ n) ⊎ ((p q : ℕ) → Open t (pieces_from ps' ms (length ms)) (words_from (length ps') es' ms (length ms)) p q → ⊥)
              → (suc (length ms) ≡ suc n) ⊎ ((p q : ℕ) → Open t (pieces_from ps (m ∷ ms) (suc (length ms))) (words_from (length ps) es (m ∷ ms) (suc (length ms))) p q → ⊥)
          go (inl e) = inl (omega arith)
          go (inr h) = inr (rw (pieces_on, words_next) h)

    follows_none : (n : ℕ) → ((p q : ℕ) → Open t ps es p q → ⊥) → Follows n ps es []
    follows_none n h = record { made = λ k l. absurd (omega arith); fits = omega arith; ends = inr (rw (pieces_start, words_start) h) }

    follows_full : Follows 0 ps es []
    follows_full = record { made = λ k l. absurd (omega arith); fits = omega arith; ends = inl refl }

  -- training follows
  pub train_follows : (n : ℕ) (ps : List (List ℕ)) (es : List Entry) → Follows n ps es (train_from t n ps es)
  unfolding train_from
  train_follows zero ps es = follows_full ps es
  train_follows (suc n) ps es =
      let c = choose t ps es in
      go (ltb c.times (max 1 t.min_frequency)) refl (train_follows n (ps ++ (joined_of t ps c.left c.right ∷ [])) (rewrite_all c.left c.right (length ps) es))
    where
      m : Merge
      m = merge_of t ps es (choose t ps es).left (choose t ps es).right

      ms : List Merge
      ms = train_from t n (ps ++ (m.spelled ∷ [])) (rewrite_all m.left m.right (length ps) es)

      go : (x : Bool) → ltb (choose t ps es).times (max 1 t.min_frequency) ≡ x → Follows n (ps ++ (m.spelled ∷ [])) (rewrite_all m.left m.right (length ps) es) ms
          → Follows (suc n) ps es (cond x [] (m ∷ ms))
      go true e f = follows_none ps es (suc n) (choose-spent t ps es (ltb-true _ _ e))
      go false e f = follows_cons ps es m ms n (record { chosen = choose_chosen t ps es (ltb-false _ _ e); saving_is = refl; spelling_is = refl }) f

  -- TRAINING A MERGE AT A TIME, for whoever finds the pair in another way
  pub train_next : (n : ℕ) (ps : List (List ℕ)) (es : List Entry) (a b : ℕ) → Chosen t ps es a b
      → train_from t (suc n) ps es ≡ merge_of t ps es a b ∷ train_from t n (ps ++ (joined_of t ps a b ∷ [])) (rewrite_all a b (length ps) es)
  unfolding train_from
  train_next n ps es a b c =
      let i = chosen_is t ps es a b c in
      rw (le-ltb (choose t ps es).times (max 1 t.min_frequency) i.enough, i.left, i.right)

  pub train_spent : (n : ℕ) (ps : List (List ℕ)) (es : List Entry) → ((p q : ℕ) → Open t ps es p q → ⊥) → train_from t n ps es ≡ []
  unfolding train_from
  train_spent zero ps es h = refl
  train_spent (suc n) ps es h = go (ltb (choose t ps es).times (max 1 t.min_frequency)) refl _
    where
      go : (x : Bool) → ltb (choose t ps es).times (max 1 t.min_frequency) ≡ x → (rest : List Merge) → cond x [] rest ≡ []
      go true e rest = refl
      go false e rest = absurd (h _ _ (choose_chosen t ps es (ltb-false _ _ e)).is_open)

  -- one merge only can be made
  pub made_one : (ps : List (List ℕ)) (es : List Entry) (m m' : Merge) → Made t ps es m → Made t ps es m' → m ≡ m'
  made_one ps es m m' x y =
      let e = chosen_one t ps es m.left m.right m'.left m'.right x.chosen y.chosen in
      let s : m.saved ≡ m'.saved = x.saving_is ∙ rw (e.0, e.1) (sym y.saving_is) in
      let p : m.spelled ≡ m'.spelled = x.spelling_is ∙ rw (e.0, e.1) (sym y.spelling_is) in
      λ i. record { left = e.0 i; right = e.1 i; saved = s i; spelled = p i }

  -- what has stopped makes no merge
  stopped : (n : ℕ) (ps : List (List ℕ)) (es : List Entry) (m : Merge) (ns : List Merge) → Follows n ps es [] → Follows n ps es (m ∷ ns) → ⊥
  stopped n ps es m ns f g = go f.ends
    where
      go : (0 ≡ n) ⊎ ((p q : ℕ) → Open t (pieces_from ps [] 0) (words_from (length ps) es [] 0) p q → ⊥) → ⊥
      go (inl e) = let h = g.fits in omega arith
      go (inr h) = (rw (pieces_start, words_start) at h) m.left m.right (follows_head ps es g).chosen.is_open

  -- so one list only follows
  pub follows_one : (n : ℕ) (ps : List (List ℕ)) (es : List Entry) (ms ns : List Merge) → Follows n ps es ms → Follows n ps es ns → ms ≡ ns
  follows_one n ps es [] [] f g = refl
  follows_one n ps es [] (m ∷ ns) f g = absurd (stopped n ps es m ns f g)
  follows_one n ps es (m ∷ ms) [] f g = absurd (stopped n ps es m ms g f)
  follows_one n ps es (m ∷ ms) (m' ∷ ns) f g = go n f g (λ k qs fs. follows_one k qs fs ms ns)
    where
      e : m ≡ m'
      e = made_one ps es m m' (follows_head ps es f) (follows_head ps es g)

      go : (n : ℕ) → Follows n ps es (m ∷ ms) → Follows n ps es (m' ∷ ns)
          → ((k : ℕ) (qs : List (List ℕ)) (fs : List Entry) → Follows k qs fs ms → Follows k qs fs ns → ms ≡ ns) → m ∷ ms ≡ m' ∷ ns
      go zero f g r = let h = f.fits in absurd (omega arith)
      go (suc n) f g r =
          let h = r n _ _ (follows_tail ps es m ms n f) (rw (← e) at (follows_tail ps es m' ns n g)) in
          rw (e, h)

  -- demand 3 of a task is to follow from its seeds and kept words
  words_from_lem : (ms : List Merge) (k : ℕ) → words_after t ms k ≡ words_from (length (seeds t)) (kept t) ms k
  unfolding words_after words_from
  words_from_lem ms zero = refl
  words_from_lem ms (suc k) = rw (words_from_lem ms k)

  pieces_from_lem : (ms : List Merge) (k : ℕ) → pieces_after t ms k ≡ pieces_from (seeds t) ms k
  unfolding pieces_after pieces_from
  pieces_from_lem ms k = refl

  pub demand_follows : (ms : List Merge) → Demand t ms → Follows (t.vocab_size - length (seeds t)) (seeds t) (kept t) ms
  demand_follows ms d =
      let h = d.fits in
      record { made = λ k l. rw (pieces_from_lem, words_from_lem) at (d.made k l); fits = omega arith; ends = go d.ends }
    where
      go : (length (seeds t) + length ms ≡ t.vocab_size) ⊎ ((p q : ℕ) → Open t (pieces_after t ms (length ms)) (words_after t ms (length ms)) p q → ⊥)
          → (length ms ≡ t.vocab_size - length (seeds t)) ⊎ ((p q : ℕ) → Open t (pieces_from (seeds t) ms (length ms)) (words_from (length (seeds t)) (kept t) ms (length ms)) p q → ⊥)
      go (inl e) = inl (omega arith)
      go (inr h) = inr (rw (pieces_from_lem, words_from_lem) at h)

  pub follows_demand : (ms : List Merge) → length (seeds t) ≤ t.vocab_size → Follows (t.vocab_size - length (seeds t)) (seeds t) (kept t) ms → Demand t ms
  follows_demand ms l f =
      let h = f.fits in
      record { made = λ k h. rw (pieces_from_lem, words_from_lem) (f.made k h); fits = omega arith; ends = go f.ends }
    where
      go : (length ms ≡ t.vocab_size - length (seeds t)) ⊎ ((p q : ℕ) → Open t (pieces_from (seeds t) ms (length ms)) (words_from (length (seeds t)) (kept t) ms (length ms)) p q → ⊥)
          → (length (seeds t) + length ms ≡ t.vocab_size) ⊎ ((p q : ℕ) → Open t (pieces_after t ms (length ms)) (words_after t ms (length ms)) p q → ⊥)
      go (inl e) = inl (omega arith)
      go (inr h) = inr (rw (pieces_from_lem, words_from_lem) h)

  -- TRAINING OBEYS DEMAND 3, for every table whose seeds the vocabulary size holds: so for every table that is not refused
  pub demand_holds : length (seeds t) ≤ t.vocab_size → Demand t (trained t)
  unfolding trained
  demand_holds h = follows_demand _ h (train_follows (t.vocab_size - length (seeds t)) (seeds t) (kept t))

  -- DEMAND 3 LEAVES ONE LIST
  pub demand_single : (ms ns : List Merge) → Demand t ms → Demand t ns → ms ≡ ns
  demand_single ms ns d e = follows_one (t.vocab_size - length (seeds t)) (seeds t) (kept t) ms ns (demand_follows ms d) (demand_follows ns e)

  -- and that is the trained one
  pub demand_trained : (ms : List Merge) → Demand t ms → ms ≡ trained t
  demand_trained ms d = let h = d.fits in demand_single ms (trained t) d (demand_holds (omega arith))
