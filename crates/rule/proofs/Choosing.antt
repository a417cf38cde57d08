-- The pair that `choose` finds is the one that demand 3 names, and there is no other.
use mathlib.Core.Path.{◌≡◌, refl, sym, ap, ◌∙◌}
use mathlib.Core.Bool.{Bool, true, false, cond, ◌&&◌, ◌||◌, false≢true}
use mathlib.Core.List.{List, [], ◌∷◌, ◌++◌}
use mathlib.Core.Logic.{◌⊎◌, inl, inr, ⊎_elim}
use Prim.Native.Nat.{ℕ, ◌*◌, ◌≤◌, ◌<◌, max}
use native.Mathlib.Nat.{mul-zero}
use native.Mathlib.Omega.{arith}
use lib.Dec.{eqb, ltb}
use borrow.Author.Tests.{ltb-true, ltb-false, eqb-true, eqb-false}
use Rattle.rule.specs.Table.{Task}
use Rattle.rule.specs.Seeding.{Entry}
use Rattle.rule.specs.Rewriting.{bit, is_pair, link, count_in}
use Rattle.rule.specs.Training.{count, joined_of, within, Choice, nothing, better, best, candidates_in, candidates, choose, limits}
use Rattle.rule.specs.Demand.{Lower, Open, Chosen}
use Rattle.runs.proofs.Parts.{same_or_not, below_or_not}
use Rattle.rule.proofs.Rewriting.{pair_true}

-- c is at least as good as d
data AtLeast (c d : Choice) : Type 0 where
  more : d.times < c.times → AtLeast c d
  lower : d.times ≡ c.times → c.left < d.left → AtLeast c d
  level : d.times ≡ c.times → c.left ≡ d.left → c.right ≤ d.right → AtLeast c d

at_least_refl : (c : Choice) → AtLeast c c
at_least_refl c = level refl refl (omega arith)

trans : {c d e : Choice} → AtLeast c d → AtLeast d e → AtLeast c e
trans (more p) (more q) = more (omega arith)
trans (more p) (lower q x) = more (omega arith)
trans (more p) (level q x y) = more (omega arith)
trans (lower p u) (more q) = more (omega arith)
trans (lower p u) (lower q x) = lower (omega arith) (omega arith)
trans (lower p u) (level q x y) = lower (omega arith) (omega arith)
trans (level p u v) (more q) = more (omega arith)
trans (level p u v) (lower q x) = lower (omega arith) (omega arith)
trans (level p u v) (level q x y) = level (omega arith) (omega arith) (omega arith)

times_most : {c d : Choice} → AtLeast c d → d.times ≤ c.times
times_most (more p) = omega arith
times_most (lower p x) = omega arith
times_most (level p x y) = omega arith

-- and of another pair it is ahead
ahead_of : {c d : Choice} → AtLeast c d → ((d.left ≡ c.left) × (d.right ≡ c.right) → ⊥)
    → (d.times < c.times) ⊎ ((d.times ≡ c.times) × Lower c.left c.right d.left d.right)
ahead_of (more p) n = inl p
ahead_of (lower p x) n = inr (p, inl x)
ahead_of {c} {d} (level p x y) n = inr (p, inr (x, same_or_not d.right c.right (λ e. absurd (n (sym x, e))) (λ k. omega arith)))

-- what a test leaves is at least as good as both
tested : (d c : Choice) → AtLeast (cond (better d c) d c) d × AtLeast (cond (better d c) d c) c
tested d c = go (ltb c.times d.times) (eqb d.times c.times) (ltb d.left c.left) (eqb d.left c.left) (ltb d.right c.right) refl refl refl refl refl
  where
    go : (x y u v w : Bool) → ltb c.times d.times ≡ x → eqb d.times c.times ≡ y → ltb d.left c.left ≡ u → eqb d.left c.left ≡ v
        → ltb d.right c.right ≡ w → AtLeast (cond (x || (y && (u || (v && w)))) d c) d × AtLeast (cond (x || (y && (u || (v && w)))) d c) c
    go true y u v w ex ey eu ev ew = (at_least_refl d, more (ltb-true _ _ ex))
    go false false u v w ex ey eu ev ew = let n = eqb-false d.times c.times ey in (more (omega (arith, ltb-false c.times d.times ex)), at_least_refl c)
    go false true true v w ex ey eu ev ew = (at_least_refl d, lower (sym (eqb-true _ _ ey)) (ltb-true _ _ eu))
    go false true false false w ex ey eu ev ew =
        let n = eqb-false d.left c.left ev in
        (lower (eqb-true _ _ ey) (omega (arith, ltb-false d.left c.left eu)), at_least_refl c)
    go false true false true true ex ey eu ev ew =
        (at_least_refl d, level (sym (eqb-true _ _ ey)) (eqb-true _ _ ev) (omega (arith, ltb-true d.right c.right ew)))
    go false true false true false ex ey eu ev ew = (level (eqb-true _ _ ey) (sym (eqb-true _ _ ev)) (ltb-false _ _ ew), at_least_refl c)

-- membership
data In (c : Choice) : List Choice → Type 0 where
  here : {l : List Choice} → In c (c ∷ l)
  there : {d : Choice} {l : List Choice} → In c l → In c (d ∷ l)

in_left : {c : Choice} {l : List Choice} (m : List Choice) → In c l → In c (l ++ m)
in_left m here = here
in_left m (there i) = there (in_left m i)

in_right : {c : Choice} (l : List Choice) {m : List Choice} → In c m → In c (l ++ m)
in_right [] i = i
in_right (d ∷ l) i = there (in_right l i)

-- what holds of all of a list
abbrev All : (Choice → Type 0) → List Choice → Type 0
All P [] = Unit {0}
All P (x ∷ l) = P x × All P l

all_in : (P : Choice → Type 0) {x : Choice} {l : List Choice} → In x l → All P l → P x
all_in P here a = a.0
all_in P (there i) a = all_in P i a.1

all_append : (P : Choice → Type 0) (l m : List Choice) → All P l → All P m → All P (l ++ m)
all_append P [] m a b = b
all_append P (x ∷ l) m a b = (a.0, all_append P l m a.1 b)

-- the best is at least as good as each, and is one of them
best-first : (c : Choice) (ds : List Choice) → AtLeast (best c ds) c
unfolding best
best-first c [] = at_least_refl c
best-first c (d ∷ ds) = trans (best-first (cond (better d c) d c) ds) (tested d c).1

best_all : {x : Choice} (c : Choice) {ds : List Choice} → In x ds → AtLeast (best c ds) x
unfolding best
best_all {x} c (here {l = l}) = trans (best-first (cond (better x c) x c) l) (tested x c).0
best_all {x} c (there {d = d} i) = best_all (cond (better d c) d c) i

best_in : (c : Choice) (ds : List Choice) → (best c ds ≡ c) ⊎ In (best c ds) ds
unfolding best
best_in c [] = inl refl
best_in c (d ∷ ds) = go (better d c) (best_in (cond (better d c) d c) ds)
  where
    go : (b : Bool) → (best (cond b d c) ds ≡ cond b d c) ⊎ In (best (cond b d c) ds) ds → (best (cond b d c) ds ≡ c) ⊎ In (best (cond b d c) ds) (d ∷ ds)
    go true (inl e) = inr (rw e here)
    go true (inr i) = inr (there i)
    go false (inl e) = inl e
    go false (inr i) = inr (there i)

module _ (t : Task) (ps : List (List ℕ)) (all : List Entry) where
  abbrev at : ℕ → ℕ → Choice
  at p q = record { left = p; right = q; times = count p q all }

  -- a pair within the limit that occurs is a candidate
  word_in : (p q : ℕ) → within t ps p q ≡ true → (w : List ℕ) → 0 < count_in p q w → In (at p q) (candidates_in t ps all w)
  unfolding candidates_in count_in link
  word_in p q k [] h = absurd (omega arith)
  word_in p q k (s ∷ []) h = absurd (omega arith)
  word_in p q k (s ∷ u ∷ r) h = go (is_pair p q s u) refl (within t ps s u) refl (λ m. word_in p q k (u ∷ r) m)
    where
      go : (b : Bool) → is_pair p q s u ≡ b → (c : Bool) → within t ps s u ≡ c → (0 < count_in p q (u ∷ r) → In (at p q) (candidates_in t ps all (u ∷ r)))
          → In (at p q) (cond c (at s u ∷ candidates_in t ps all (u ∷ r)) (candidates_in t ps all (u ∷ r)))
      go true e true f m = let z = pair_true p q s u e in rw (z.0, z.1) here
      go true e false f m =
          let z = pair_true p q s u e in
          let g : within t ps p q ≡ false = rw (z.0, z.1) at f in
          absurd (false≢true (sym g ∙ k))
      go false e true f m = there (m (omega (arith, ap bit e)))
      go false e false f m = m (omega (arith, ap bit e))

  words_in_lem : (p q : ℕ) → within t ps p q ≡ true → (es : List Entry) → 0 < count p q es → In (at p q) (candidates t ps all es)
  unfolding candidates count
  words_in_lem p q k [] h = absurd (omega arith)
  words_in_lem p q k (e ∷ es) h =
      below_or_not 0 (count_in p q e.symbols)
      (λ m. in_left (candidates t ps all es) (word_in p q k e.symbols m))
      (λ m. in_right (candidates_in t ps all e.symbols) (words_in_lem p q k es (omega (arith, none (count_in p q e.symbols) m))))
    where
      none : (n : ℕ) → n ≤ 0 → e.frequency * n ≡ 0
      none n m = let z : n ≡ 0 = omega arith in rw (z, mul-zero)

  -- a candidate is within the limit and has its count
  record Sound (c : Choice) : Type 0 where
    inside : within t ps c.left c.right ≡ true
    counted : c.times ≡ count c.left c.right all

  word_sound : (w : List ℕ) → All Sound (candidates_in t ps all w)
  unfolding candidates_in
  word_sound [] = tt
  word_sound (s ∷ []) = tt
  word_sound (s ∷ u ∷ r) = go (within t ps s u) refl (word_sound (u ∷ r))
    where
      go : (c : Bool) → within t ps s u ≡ c → All Sound (candidates_in t ps all (u ∷ r))
          → All Sound (cond c (at s u ∷ candidates_in t ps all (u ∷ r)) (candidates_in t ps all (u ∷ r)))
      go true e a = (record { inside = e; counted = refl }, a)
      go false e a = a

  words_sound : (es : List Entry) → All Sound (candidates t ps all es)
  unfolding candidates
  words_sound [] = tt
  words_sound (e ∷ es) = all_append Sound (candidates_in t ps all e.symbols) (candidates t ps all es) (word_sound e.symbols) (words_sound es)

module _ (t : Task) (ps : List (List ℕ)) (es : List Entry) where
  -- the choice is at least as good as every pair within the limit that occurs
  choose_all : (p q : ℕ) → within t ps p q ≡ true → 0 < count p q es → AtLeast (choose t ps es) (at t ps es p q)
  unfolding choose
  choose_all p q k h = best_all nothing (words_in_lem t ps es p q k es h)

  -- and has its own count, where there is one
  choose_sound : 0 < (choose t ps es).times → Sound t ps es (choose t ps es)
  unfolding choose
  choose_sound h = ⊎_elim
      (λ e. absurd (omega (arith, ap (λ (c : Choice). c.times) e)))
      (λ i. all_in (Sound t ps es) i (words_sound t ps es es))
      (best_in nothing (candidates t ps es es))

  pub choose_times : 0 < (choose t ps es).times → (choose t ps es).times ≡ count (choose t ps es).left (choose t ps es).right es
  choose_times h = (choose_sound h).counted

  -- where the choice is too rare, no pair may be merged
  pub choose-spent : (choose t ps es).times < max 1 t.min_frequency → (p q : ℕ) → Open t ps es p q → ⊥
  choose-spent h p q o =
      let m = o.occurs in
      let f = o.frequent in
      omega (arith, times_most (choose_all p q o.in_limit m))

  -- where it is not, it is the pair that demand 3 names
  pub choose_chosen : max 1 t.min_frequency ≤ (choose t ps es).times → Chosen t ps es (choose t ps es).left (choose t ps es).right
  choose_chosen h =
      let s = choose_sound (omega arith) in
      let e = s.counted in
      record {
        is_open = record { in_limit = s.inside; occurs = omega arith; frequent = omega arith };
        ahead = λ p q k n. rw (← e) (below_or_not 0 (count p q es) (λ o. ahead_of (choose_all p q k o) n) (λ z. inl (omega arith)));
      }

  -- there is one such pair at most
  pub chosen_one : (a b c d : ℕ) → Chosen t ps es a b → Chosen t ps es c d → (a ≡ c) × (b ≡ d)
  chosen_one a b c d x y =
      same_or_not c a (λ e. same_or_not d b (λ f. (sym e, sym f)) (λ n. clash (λ k. n k.1))) (λ n. clash (λ k. n k.0))
    where
      clash : ((c ≡ a) × (d ≡ b) → ⊥) → (a ≡ c) × (b ≡ d)
      clash n = cases (x.ahead c d y.is_open.in_limit n) (y.ahead a b x.is_open.in_limit (λ e. n (sym e.0, sym e.1)))
        where
          cases : (count c d es < count a b es) ⊎ ((count c d es ≡ count a b es) × Lower a b c d)
              → (count a b es < count c d es) ⊎ ((count a b es ≡ count c d es) × Lower c d a b) → (a ≡ c) × (b ≡ d)
          cases (inl h) (inl k) = absurd (omega arith)
          cases (inl h) (inr (k, l)) = absurd (omega arith)
          cases (inr (h, l)) (inl k) = absurd (omega arith)
          cases (inr (h, inl l)) (inr (k, inl m)) = absurd (omega arith)
          cases (inr (h, inl l)) (inr (k, inr m)) = absurd (omega arith)
          cases (inr (h, inr l)) (inr (k, inl m)) = absurd (omega arith)
          cases (inr (h, inr l)) (inr (k, inr m)) = absurd (omega arith)

  -- so any pair that demand 3 names is the choice
  open_enough : (a b : ℕ) → Open t ps es a b → max 1 t.min_frequency ≤ (choose t ps es).times
  open_enough a b o = below_or_not (choose t ps es).times (max 1 t.min_frequency) (λ h. absurd (choose-spent h a b o)) (λ h. h)

  pub record IsChoice (a b : ℕ) : Type 0 where
    pub left : (choose t ps es).left ≡ a
    pub right : (choose t ps es).right ≡ b
    pub enough : max 1 t.min_frequency ≤ (choose t ps es).times

  pub chosen_is : (a b : ℕ) → Chosen t ps es a b → IsChoice a b
  chosen_is a b c =
      let m = open_enough a b c.is_open in
      let e = chosen_one (choose t ps es).left (choose t ps es).right a b (choose_chosen m) c in
      record { left = e.0; right = e.1; enough = m }

-- A CHOICE ASKS NOTHING of a task but its prefix and its limit
module _ (t : Task) (p : List ℕ) (limit : ℕ) (ep : t.prefix ≡ p) (el : t.max_piece_length ≡ limit) (ps : List (List ℕ)) where
  pub within-limits : (a b : ℕ) → within t ps a b ≡ within (limits p limit) ps a b
  unfolding within joined_of limits
  within-limits a b = rw (ep, el)

  candidates_in_limits : (es : List Entry) (l : List ℕ) → candidates_in t ps es l ≡ candidates_in (limits p limit) ps es l
  unfolding candidates_in
  candidates_in_limits es [] = refl
  candidates_in_limits es (a ∷ []) = refl
  candidates_in_limits es (a ∷ b ∷ l) = rw (within-limits a b, candidates_in_limits es (b ∷ l))

  candidates_limits : (all es : List Entry) → candidates t ps all es ≡ candidates (limits p limit) ps all es
  unfolding candidates
  candidates_limits all [] = refl
  candidates_limits all (e ∷ es) = rw (candidates_in_limits all e.symbols, candidates_limits all es)

  pub choose-limits : (es : List Entry) → choose t ps es ≡ choose (limits p limit) ps es
  unfolding choose
  choose-limits es = rw (candidates_limits es es)
