-- Where the states track the words, the candidates of the touched pairs make the queue that the lazy rule makes: after a merge, and at the start.
-- Assumes nothing.
use mathlib.Core.Path.{◌≡◌, refl, sym, ap, ◌∙◌}
use mathlib.Core.Bool.{Bool, true, false, ◌||◌}
use mathlib.Core.List.{List, [], ◌++◌, map}
use mathlib.Core.Logic.{◌⊎◌, inl, inr}
use Prim.Native.Nat.{ℕ, ◌+◌, ◌<◌, ◌≤◌}
use native.Mathlib.Omega.{arith}
use lib.Dec.{eqb}
use lib.ListN.{length}
use borrow.Author.Tests.{eqb-true, eq-eqb}
use Rattle.runs.specs.Parts.{nth}
use Rattle.runs.proofs.Parts.{below_or_not}
use Rattle.rule.specs.Seeding.{Entry}
use Rattle.rule.specs.Sums.{AllUnder}
use Rattle.rule.specs.Training.{count, Choice}
use Rattle.lazy.specs.Lazy.{total, entries, Pair, pair, all_spots, enter_all, holding, seeds, gained as gainedQueue}
use Rattle.lazy.specs.Invariant.{Every, Fair}
use Rattle.lazy.proofs.Queue.{every_map, find}
use Rattle.lazy.proofs.Spots.{In, counted_in, spots-below, in_holding, holding_in}
use Rattle.lazy.proofs.Gains.{holding_either}
use Rattle.lazy.proofs.Canon.{enter_all-same}
use Rattle.queue.specs.declared.Candidate.{Candidate}
use Rattle.marks.specs.Marks.{gained, marked}
use Rattle.states.specs.State.{State, most, key, left_of, right_of, OfPair, Among}
use Rattle.states.specs.Tracking.{Tracks, Gaining, AllGained, Touching}
use Rattle.states.proofs.Keys.{key_pos, key_single, left_key, right_key}
use Rattle.states.proofs.Tracks.{tracked_exact}
use Rattle.waiting.specs.Waiting.{queue_of, gainers}
use Rattle.waiting.proofs.Queue.{queue_none}
use Rattle.waiting.proofs.Entered.{pair_of, AllReady, gainer_of, gainer_in, entered_gainers}

-- WHAT THE RULE ENTERS: a pair of small symbols, not the merged one, that has gained if it counts
record Entrant (σ : ℕ → State) (e p q : ℕ) : Type 0 where
  left : p < most
  right : q < most
  other : key p q ≡ e → ⊥
  gains : 1 ≤ (σ (key p q)).count → marked gained (σ (key p q)).marks ≡ true

-- what has gained, seen from the list cs of pairs that the rule enters into qu
record Entering (ws : List Entry) (qu : List Choice) (cs : List Pair) (c : ℕ) : Type 0 where
  of_pair : OfPair c
  absent : entries (left_of c) (right_of c) qu ≡ 0
  listed : 1 ≤ count (left_of c) (right_of c) ws → In (pair (left_of c) (right_of c)) cs

module _ {σ : ℕ → State} {e : ℕ} {ws : List Entry} {ks : List ℕ} (t : Tracks σ e ws) (m : Touching σ e ks) where
  -- a pair that the rule enters is that of a candidate
  entrant_in : (p q : ℕ) → Entrant σ e p q → 1 ≤ count p q ws → In (pair p q) (map pair_of (gainers σ ks))
  entrant_in p q r h = go (m.listed (key p q) (key_pos p q) r.other (m.gains (key p q) (key_pos p q) has))
    where
      counts : 1 ≤ (σ (key p q)).count
      counts = rw (t.exact p q r.left r.right r.other) h

      has : marked gained (σ (key p q)).marks ≡ true
      has = r.gains counts

      go : Among (key p q) ks → In (pair p q) (map pair_of (gainers σ ks))
      go a =
          let i = gainer_in σ ks a.at a.low (rw a.is (record { has = has; counts = counts })) in
          rw (a.is, left_key p q r.right, right_key p q r.right) at i

  -- THE CANDIDATES AND THE PAIRS OF THE RULE make one queue
  module _ (cands : List Candidate) (cs : List Pair)
      (f : (c : ℕ) → 0 < c → marked gained (σ c).marks ≡ true → Entering ws (queue_of cands) cs c)
      (g : (p q : ℕ) → In (pair p q) cs → Entrant σ e p q) where
    queue_entered : queue_of (cands ++ gainers σ ks) ≡ enter_all ws cs (queue_of cands)
    queue_entered =
        entered_gainers ws σ ks cands m.once ready
        ∙ enter_all-same ws (map pair_of (gainers σ ks)) cs made (λ c i h. entrant_in c.left c.right (g c.left c.right i) h) (queue_of cands)
      where
        ready : AllReady ws σ ks (queue_of cands)
        ready j l h =
            let r = f (nth ks j) (m.some j l) h.has in
            record { pair = r.of_pair; exact = tracked_exact t (nth ks j) r.of_pair (m.other j l); absent = r.absent }

        made : (c : Pair) → In c (map pair_of (gainers σ ks)) → 1 ≤ count c.left c.right ws → In c cs
        made c i h =
            let n = gainer_of σ c ks i in
            let r = f (nth ks n.at) (m.some n.at n.low) n.gains.has in
            rw n.is (r.listed (rw n.is at h))

-- AFTER THE MERGE THAT MAKES x

-- an entry of older symbols
abbrev pub Older : ℕ → Choice → Type 0
Older x f = (f.left < x) × (f.right < x)

-- the entries of a queue between two turns are such, where x is the next piece
pub fair_older : (ps : List (List ℕ)) (es : List Entry) (x : ℕ) → length ps ≡ x → (qu : List Choice) → Every (Fair ps es) qu → Every (Older x) qu
fair_older ps es x h = every_map (λ f r. let l = r.left_known in let k = r.right_known in (omega arith, omega arith))

-- and the merged pair does not hold x, if it is of older symbols
pub merged_older : (a b x : ℕ) {e : ℕ} → e ≡ key a b → a < x → b < x → x < most
    → (p q : ℕ) → p < most → q < most → e ≡ key p q → (p ≡ x → ⊥) × (q ≡ x → ⊥)
merged_older a b x h ha hb hx p q hp hq k =
    let s = key_single a b p q (omega arith) hq (sym h ∙ k) in
    let l = s.0 in
    let r = s.1 in
    ((λ z. omega arith), (λ z. omega arith))

-- no such entry is of a pair that holds x
older_none : (x p q : ℕ) (qu : List Choice) → Every (Older x) qu → (p ≡ x) ⊎ (q ≡ x) → entries p q qu ≡ 0
older_none x p q qu h o = below_or_not 0 (entries p q qu) (λ k. some k o) (λ k. omega arith)
  where
    some : 0 < entries p q qu → (p ≡ x) ⊎ (q ≡ x) → entries p q qu ≡ 0
    some k (inl z) = let f = find (Older x) p q qu k h in let i = f.left in let l = f.holds.0 in absurd (omega arith)
    some k (inr z) = let f = find (Older x) p q qu k h in let i = f.right in let l = f.holds.1 in absurd (omega arith)

holds_test : (x p q : ℕ) → (p ≡ x) ⊎ (q ≡ x) → (eqb p x || eqb q x) ≡ true
holds_test x p q (inl z) = rw (eq-eqb p x z)
holds_test x p q (inr z) = go (eqb p x)
  where
    go : (b : Bool) → (b || eqb q x) ≡ true
    go true = refl
    go false = eq-eqb q x z

test_holds : (x p q : ℕ) → (eqb p x || eqb q x) ≡ true → (p ≡ x) ⊎ (q ≡ x)
test_holds x p q h = go (eqb p x) refl h
  where
    go : (b : Bool) → eqb p x ≡ b → (b || eqb q x) ≡ true → (p ≡ x) ⊎ (q ≡ x)
    go true k l = inl (eqb-true p x k)
    go false k l = inr (eqb-true q x l)

-- THE CANDIDATES OF THE TOUCHED PAIRS make the queue that the rule makes
module _ {σ : ℕ → State} {e : ℕ} {ws : List Entry} {ks : List ℕ} (x : ℕ) (cands : List Candidate) where
  pub queue-gained : Gaining σ x → Tracks σ e ws → Touching σ e ks → x < most → AllUnder (x + 1) ws
      → ((p q : ℕ) → p < most → q < most → e ≡ key p q → (p ≡ x → ⊥) × (q ≡ x → ⊥)) → Every (Older x) (queue_of cands)
      → queue_of (cands ++ gainers σ ks) ≡ gainedQueue x ws (queue_of cands)
  unfolding gainedQueue
  queue-gained g t m hx u n h = queue_entered t m cands (holding x (all_spots ws)) entering entrant
    where
      entering : (c : ℕ) → 0 < c → marked gained (σ c).marks ≡ true → Entering ws (queue_of cands) (holding x (all_spots ws)) c
      entering c z k =
          let r = g.holds c z k in
          record {
            of_pair = r.0;
            absent = older_none x (left_of c) (right_of c) (queue_of cands) h r.1;
            listed = λ o. holding_in x (left_of c) (right_of c) (holds_test x (left_of c) (right_of c) r.1) (counted_in (left_of c) (right_of c) ws o);
          }

      has : (p q : ℕ) → p < most → q < most → (p ≡ x) ⊎ (q ≡ x) → 1 ≤ (σ (key p q)).count → marked gained (σ (key p q)).marks ≡ true
      has p q hp hq (inl z) k = rw z (g.left q hq (rw z at k))
      has p q hp hq (inr z) k = rw z (g.right p hp (rw z at k))

      apart : (p q : ℕ) → p < most → q < most → (p ≡ x) ⊎ (q ≡ x) → key p q ≡ e → ⊥
      apart p q hp hq (inl z) k = (n p q hp hq (sym k)).0 z
      apart p q hp hq (inr z) k = (n p q hp hq (sym k)).1 z

      entrant : (p q : ℕ) → In (pair p q) (holding x (all_spots ws)) → Entrant σ e p q
      entrant p q i =
          let b = spots-below (x + 1) ws u (pair p q) (in_holding x (pair p q) (all_spots ws) i) in
          let o = test_holds x p q (holding_either x (pair p q) (all_spots ws) i) in
          let bl = b.0 in
          let br = b.1 in
          let hp : p < most = omega arith in
          let hq : q < most = omega arith in
          record { left = hp; right = hq; other = apart p q hp hq o; gains = has p q hp hq o }

-- BEFORE THE FIRST MERGE

entries_none : (p q : ℕ) → entries p q (queue_of []) ≡ 0
unfolding entries total
entries_none p q = rw queue_none

pub queue-seeds : {σ : ℕ → State} {ws : List Entry} {ks : List ℕ} → AllGained σ → Tracks σ 0 ws → Touching σ 0 ks → AllUnder most ws
    → queue_of (gainers σ ks) ≡ seeds ws
unfolding seeds
queue-seeds {σ} {ws} {ks} g t m u = queue_entered t m [] (all_spots ws) entering entrant ∙ ap (enter_all ws (all_spots ws)) queue_none
  where
    entering : (c : ℕ) → 0 < c → marked gained (σ c).marks ≡ true → Entering ws (queue_of []) (all_spots ws) c
    entering c z k =
        record { of_pair = g.pairs c z k; absent = entries_none (left_of c) (right_of c); listed = counted_in (left_of c) (right_of c) ws }

    entrant : (p q : ℕ) → In (pair p q) (all_spots ws) → Entrant σ 0 p q
    entrant p q i =
        let b = spots-below most ws u (pair p q) i in
        record { left = b.0; right = b.1; other = λ z. let k = key_pos p q in omega arith; gains = g.counts p q b.0 b.1 }
