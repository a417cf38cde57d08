-- The candidates that touched pairs make, pushed one after the other: each is entered as the lazy rule enters its pair. Assumes nothing.
use mathlib.Core.Path.{◌≡◌, refl, sym, ap, ◌∙◌}
use mathlib.Core.Bool.{Bool, true, false, cond, ◌&&◌}
use mathlib.Core.List.{List, [], ◌∷◌, ◌++◌, map, append-nil, append_assoc}
use Prim.Native.Nat.{ℕ, zero, suc, ◌<◌, ◌≤◌}
use native.Mathlib.Omega.{arith}
use lib.Dec.{ltb}
use lib.ListN.{length}
use borrow.Author.Tests.{ltb-true, lt-ltb, le-leb, eq-eqb}
use Rattle.runs.specs.Parts.{nth}
use Rattle.rule.specs.Seeding.{Entry}
use Rattle.rule.specs.Rewriting.{bit}
use Rattle.rule.specs.Training.{count, Choice}
use Rattle.rule.proofs.Rewriting.{pair_miss}
use Rattle.lazy.specs.Lazy.{insert, entries, Pair, pair, live, enter, enter_all}
use Rattle.lazy.proofs.Order.{differ}
use Rattle.lazy.proofs.Queue.{entries-insert}
use Rattle.lazy.proofs.Spots.{In, here, there}
use Rattle.queue.specs.declared.Candidate.{Candidate}
use Rattle.marks.specs.Marks.{gained, marked}
use Rattle.states.specs.State.{State, key, left_of, right_of, OfPair}
use Rattle.waiting.specs.Waiting.{waits, queue_of, gainers}
use Rattle.waiting.proofs.Queue.{queue_push}

-- the pair of a candidate
abbrev pub pair_of : Candidate → Pair
pair_of e = pair (left_of e.key) (right_of e.key)

-- a key that has gained and counts
pub record Gains (σ : ℕ → State) (c : ℕ) : Type 0 where
  pub has : marked gained (σ c).marks ≡ true
  pub counts : 1 ≤ (σ c).count

-- WHAT IS ASKED OF SUCH A KEY: it is a pair's, its count is the one of the words, and the queue has no entry of it
pub record Ready (ws : List Entry) (σ : ℕ → State) (qu : List Choice) (c : ℕ) : Type 0 where
  pub pair : OfPair c
  pub exact : (σ c).count ≡ count (left_of c) (right_of c) ws
  pub absent : entries (left_of c) (right_of c) qu ≡ 0

-- A PAIR OF A CANDIDATE is that of a touched key that gains
pub record Gainer (σ : ℕ → State) (ks : List ℕ) (c : Pair) : Type 0 where
  pub at : ℕ
  pub low : at < length ks
  pub gains : Gains σ (nth ks at)
  pub is : c ≡ pair (left_of (nth ks at)) (right_of (nth ks at))

module _ (σ : ℕ → State) where
  -- a touched pair by cases: it makes a candidate, or none
  pub gainers_case : (P : List Candidate → Type 0) (c : ℕ) (ks : List ℕ) → (Gains σ c → P (record { count = (σ c).count; key = c } ∷ gainers σ ks))
      → ((Gains σ c → ⊥) → P (gainers σ ks)) → P (gainers σ (c ∷ ks))
  unfolding gainers
  gainers_case P c ks f g = go (marked gained (σ c).marks) (ltb 0 (σ c).count) refl refl
    where
      go : (a b : Bool) → marked gained (σ c).marks ≡ a → ltb 0 (σ c).count ≡ b
          → P (cond (a && b) (record { count = (σ c).count; key = c } ∷ gainers σ ks) (gainers σ ks))
      go true true h k = f (record { has = h; counts = ltb-true _ _ k })
      go true false h k = g (λ m. differ (ltb 0 (σ c).count) (lt-ltb 0 (σ c).count m.counts) k)
      go false b h k = g (λ m. differ (marked gained (σ c).marks) m.has h)

  -- no more candidates than touched pairs
  pub few_gainers : (ks : List ℕ) → length (gainers σ ks) ≤ length ks
  unfolding gainers
  few_gainers [] = omega arith
  few_gainers (c ∷ ks) =
      let h = few_gainers ks in
      gainers_case (λ l. length l ≤ suc (length ks)) c ks (λ _. omega arith) (λ _. omega arith)

  -- THE PAIRS OF THE CANDIDATES are those of the keys that gain
  gainer_first : (d : ℕ) (c : Pair) (ks : List ℕ) {cs : List Pair} → Gains σ d → (In c cs → Gainer σ (d ∷ ks) c) → In c (pair (left_of d) (right_of d) ∷ cs)
      → Gainer σ (d ∷ ks) c
  unfolding nth
  gainer_first d c ks g f here = record { at = 0; low = omega arith; gains = g; is = refl }
  gainer_first d c ks g f (there m) = f m

  gainer_later : (c : Pair) (d : ℕ) (ks : List ℕ) → Gainer σ ks c → Gainer σ (d ∷ ks) c
  unfolding nth
  gainer_later c d ks g = record { at = suc g.at; low = let l = g.low in omega arith; gains = g.gains; is = g.is }

  pub gainer_of : (c : Pair) (ks : List ℕ) → In c (map pair_of (gainers σ ks)) → Gainer σ ks c
  unfolding gainers
  gainer_of c [] m = elim m [ ]
  gainer_of c (d ∷ ks) m = go (gainer_of c ks) m
    where
      go : (In c (map pair_of (gainers σ ks)) → Gainer σ ks c) → In c (map pair_of (gainers σ (d ∷ ks))) → Gainer σ (d ∷ ks) c
      go f = gainers_case (λ l. In c (map pair_of l) → Gainer σ (d ∷ ks) c) d ks
          (λ g k. gainer_first d c ks g (λ i. gainer_later c d ks (f i)) k) (λ _ k. gainer_later c d ks (f k))

  pub gainer_in : (ks : List ℕ) (j : ℕ) → j < length ks → Gains σ (nth ks j) → In (pair (left_of (nth ks j)) (right_of (nth ks j))) (map pair_of (gainers σ ks))
  unfolding nth
  gainer_in [] j l g = absurd (omega arith)
  gainer_in (c ∷ ks) zero l g =
      gainers_case (λ (es : List Candidate). In (pair (left_of c) (right_of c)) (map pair_of es)) c ks (λ _. here) (λ n. absurd (n g))
  gainer_in (c ∷ ks) (suc j) l g =
      let m = gainer_in ks j (omega arith) g in
      gainers_case (λ (es : List Candidate). In (pair (left_of (nth ks j)) (right_of (nth ks j))) (map pair_of es)) c ks (λ _. there m) (λ _. m)

-- each key once
abbrev pub Once : List ℕ → Type 0
Once ks = (i j : ℕ) → i < j → j < length ks → nth ks i ≡ nth ks j → ⊥

module _ (ws : List Entry) (σ : ℕ → State) where
  -- every key of some that gains is ready
  abbrev pub AllReady : List ℕ → List Choice → Type 0
  AllReady ks qu = (j : ℕ) → j < length ks → Gains σ (nth ks j) → Ready ws σ qu (nth ks j)

  -- A KEY THAT GAINS is entered as the rule enters its pair
  enter_ready : (c : ℕ) (qu : List Choice) → Gains σ c → Ready ws σ qu c
      → enter ws (pair (left_of c) (right_of c)) qu ≡ insert (waits (record { count = (σ c).count; key = c })) qu
  unfolding enter live waits
  enter_ready c qu g r =
      rw (le-leb 1 (count (left_of c) (right_of c) ws) (let e = r.exact in let k = g.counts in omega arith), eq-eqb (entries (left_of c) (right_of c) qu) 0 r.absent, r.exact)

  -- and the others are ready still
  ready_still : (c d n : ℕ) (qu : List Choice) → (c ≡ d → ⊥) → OfPair c → Ready ws σ qu d → Ready ws σ (insert (waits (record { count = n; key = c })) qu) d
  unfolding waits
  ready_still c d n qu ne p r = record {
    pair = r.pair;
    exact = r.exact;
    absent =
        let z = ap bit (pair_miss (left_of d) (right_of d) (left_of c) (right_of c) (λ a b. ne (sym p.is ∙ (λ i. key (a i) (b i)) ∙ r.pair.is))) in
        omega (arith, entries-insert (left_of d) (right_of d) (waits (record { count = n; key = c })) qu, r.absent);
  }

  -- THE QUEUE WITH THE CANDIDATES is the queue with their pairs entered
  pub entered_gainers : (ks : List ℕ) (cands : List Candidate) → Once ks → AllReady ks (queue_of cands)
      → queue_of (cands ++ gainers σ ks) ≡ enter_all ws (map pair_of (gainers σ ks)) (queue_of cands)
  unfolding gainers enter_all nth
  entered_gainers [] cands once ready = ap queue_of (append-nil cands)
  entered_gainers (c ∷ ks) cands once ready =
      let rest : Once ks = λ i j l m. once (suc i) (suc j) (omega arith) (omega arith) in
      gainers_case σ (λ es. queue_of (cands ++ es) ≡ enter_all ws (map pair_of es) (queue_of cands)) c ks
      (λ g.
      let e : Candidate = record { count = (σ c).count; key = c } in
      let r = ready 0 (omega arith) g in
      let next = entered_gainers ks (cands ++ (e ∷ [])) rest
      (λ j l h. rw (queue_push cands e) (ready_still c (nth ks j) (σ c).count (queue_of cands) (once 0 (suc j) (omega arith) (omega arith)) r.pair (ready (suc j) (omega arith) h))) in
      ap queue_of (sym (append_assoc cands (e ∷ []) (gainers σ ks)))
      ∙ next
      ∙ ap (enter_all ws (map pair_of (gainers σ ks))) (queue_push cands e ∙ sym (enter_ready c (queue_of cands) g r)))
      (λ _. entered_gainers ks cands rest (λ j l. ready (suc j) (omega arith)))
