-- The queue of the lazy rule through a turn: an entry dropped, an entry corrected, what the head says. Assumes nothing.
use mathlib.Core.Path.{◌≡◌, sym, ◌∙◌}
use mathlib.Core.Bool.{true}
use mathlib.Core.List.{List, [], ◌∷◌, ◌++◌}
use mathlib.Core.Logic.{◌⊎◌, inl, inr}
use Prim.Native.Nat.{ℕ, ◌+◌, ◌-◌, ◌<◌, ◌≤◌, max}
use native.Mathlib.Omega.{arith}
use lib.ListN.{length}
use Rattle.runs.specs.Parts.{Kept}
use Rattle.rule.specs.Table.{Task}
use Rattle.rule.specs.Seeding.{Entry}
use Rattle.rule.specs.Training.{Choice, count, within, limits}
use Rattle.rule.specs.Demand.{Open, Chosen}
use Rattle.lazy.specs.Lazy.{insert, live}
use Rattle.lazy.specs.Invariant.{Inv}
use Rattle.lazy.proofs.Queue.{length-insert}
use Rattle.lazy.proofs.Invariant.{inv_drop, inv_again, inv_chosen, inv_low, inv_empty}
use Rattle.lazy.proofs.Bound.{potential-drop, potential_again}
use Rattle.queue.specs.declared.Candidate.{Candidate}
use Rattle.queue.specs.Heap.{Pushed, Popped}
use Rattle.queue.specs.Holding.{In}
use Rattle.queue.proofs.Holding.{in_here, in_rest, in_either, holds_push, holds_pop, holds-kept}
use Rattle.states.specs.State.{left_of, right_of, OfPair}
use Rattle.waiting.specs.Waiting.{waits, queue_of}
use Rattle.waiting.proofs.Queue.{queue_none, queue_pop, queue_cons}
use Rattle.rule.proofs.Choosing.{within-limits}
use Rattle.engine.specs.Engine.{Limits, Queued, Waiting}
use Rattle.engine.proofs.Queues.{limits_of}

-- A TASK, by its prefix and its limit; there is always one
pub within_task : (t : Task) {prefix : List ℕ} {limit : ℕ} → Limits t prefix limit → (ps : List (List ℕ)) (a b : ℕ)
    → within t ps a b ≡ within (limits prefix limit) ps a b
within_task t l ps a b = within-limits t _ _ l.prefix_is l.limit_is ps a b

-- THE HEAD e of a queue
module _ {prefix : List ℕ} {limit : ℕ} {ps : List (List ℕ)} {es : List Entry} {places k : ℕ} {e : Choice} {qu : List Choice}
    (s : Queued prefix limit ps es places k (e ∷ qu)) where
  pub queued_turns : 1 ≤ k
  queued_turns = omega (arith, potential-drop es e qu, s.fuel)

  pub queued_known : (e.left < length ps) × (e.right < length ps)
  queued_known = let f = (s.inv (limits prefix limit) (limits_of prefix limit)).fair.0 in (f.left_known, f.right_known)

  -- dropped, if its pair is gone or over-long
  pub queued_drop : (within (limits prefix limit) ps e.left e.right ≡ true → 1 ≤ count e.left e.right es → ⊥)
      → Queued prefix limit ps es places (k - 1) qu
  queued_drop n = record {
    inv = λ t l. inv_drop t ps es e qu (s.inv t l) (λ f. n (sym (within_task t l ps e.left e.right) ∙ f));
    fuel = omega (arith, potential-drop es e qu, s.fuel);
    few = let f = s.few in omega arith;
  }

  -- corrected, if it is stale
  pub queued_again : (count e.left e.right es ≡ e.times → ⊥) → Queued prefix limit ps es places (k - 1) (insert (live es e.left e.right) qu)
  queued_again n = record {
    inv = λ t l. inv_again t ps es e qu (s.inv t l);
    fuel = omega (arith, potential_again es e qu n, s.fuel);
    few = let f = s.few in omega (arith, length-insert (live es e.left e.right) qu);
  }

  -- no pair may be merged, if its count is not enough
  pub queued_low : (least : ℕ) → e.times < least → (t : Task) → Limits t prefix limit → max 1 t.min_frequency ≡ least
      → (a b : ℕ) → Open t ps es a b → ⊥
  queued_low least h t l m = inv_low t ps es e qu (s.inv t l) (rw m h)

  -- it is the pair of demand 3, if it is not stale, counts enough and is within the limit
  pub queued_chosen : (least : ℕ) → count e.left e.right es ≡ e.times → least ≤ e.times
      → within (limits prefix limit) ps e.left e.right ≡ true
      → (t : Task) → Limits t prefix limit → max 1 t.min_frequency ≡ least → Chosen t ps es e.left e.right
  queued_chosen least c h f t l m = inv_chosen t ps es e qu (s.inv t l) c (rw m h) (within_task t l ps e.left e.right ∙ f)

-- THE CANDIDATES
module _ {q m k places : ℕ} {prefix : List ℕ} {limit : ℕ} {ps : List (List ℕ)} {es : List Entry} {cs ds : List ℕ} where
  -- a pop takes the head out
  module _ {e : Candidate} (w : Waiting q m k places prefix limit ps es [] cs) (p : Popped q m e cs ds) where
    pub waiting_popped : Waiting q (m - 1) k places prefix limit ps es (waits e ∷ []) ds
    waiting_popped =
        let t = holds_pop w.candidates q m e cs ds w.holds p in
        record {
          candidates = t.before ++ t.after;
          holds = t.rest;
          pairs = λ f i. w.pairs f (rw t.split (in_rest f t.before e t.after i));
          queued = rw (queue_pop t) at w.queued;
        }

    pub waiting_pair : OfPair e.key
    waiting_pair =
        let t = holds_pop w.candidates q m e cs ds w.holds p in
        w.pairs e (rw t.split (in_here e t.before t.after))

  -- a change elsewhere
  pub waiting_kept : {taken : List Choice} (lo hi : ℕ) → Kept lo hi cs ds → hi ≤ q → Waiting q m k places prefix limit ps es taken cs
      → Waiting q m k places prefix limit ps es taken ds
  waiting_kept lo hi h o w = record {
    candidates = w.candidates;
    holds = holds-kept w.candidates q m lo hi cs ds w.holds h (inr o);
    pairs = w.pairs;
    queued = w.queued;
  }

  -- the head that was taken out waits again with its count now, if it is stale
  pub waiting_again : {c n : ℕ} (v : ℕ) → OfPair c → (v ≡ n → ⊥) → v ≡ count (left_of c) (right_of c) es
      → Pushed q m (record { count = v; key = c }) cs ds
      → Waiting q m k places prefix limit ps es (waits (record { count = n; key = c }) ∷ []) cs → Waiting q (m + 1) (k - 1) places prefix limit ps es [] ds
  unfolding waits live
  waiting_again {c} {n} v o ne e p w = record {
    candidates = record { count = v; key = c } ∷ w.candidates;
    holds = holds_push w.candidates q m (record { count = v; key = c }) cs ds w.holds p;
    pairs = λ f i. go f (in_either f (record { count = v; key = c }) w.candidates i);
    queued = rw (queue_cons (record { count = v; key = c }) w.candidates, e) (queued_again w.queued (λ z. ne (e ∙ z)));
  }
    where
      go : (f : Candidate) → (f ≡ record { count = v; key = c }) ⊎ In f w.candidates → OfPair f.key
      go f (inl z) = rw z o
      go f (inr i) = w.pairs f i

-- the head that was taken out is dropped, if its pair is gone or over-long
pub waiting_drop : {q m k places : ℕ} {prefix : List ℕ} {limit : ℕ} {ps : List (List ℕ)} {es : List Entry} {cs : List ℕ} {e : Choice}
    → (within (limits prefix limit) ps e.left e.right ≡ true → 1 ≤ count e.left e.right es → ⊥)
    → Waiting q m k places prefix limit ps es (e ∷ []) cs → Waiting q m (k - 1) places prefix limit ps es [] cs
waiting_drop n w = record { candidates = w.candidates; holds = w.holds; pairs = w.pairs; queued = queued_drop w.queued n }

-- no candidate is left: no pair may be merged
pub waiting_none : {q m k places : ℕ} {prefix : List ℕ} {limit : ℕ} {ps : List (List ℕ)} {es : List Entry} {cs : List ℕ} → m ≤ 0
    → Waiting q m k places prefix limit ps es [] cs → (t : Task) → Limits t prefix limit → (a b : ℕ) → Open t ps es a b → ⊥
waiting_none {m = m} {ps = ps} {es = es} z w t l = go w.candidates w.holds.long (w.queued.inv t l)
  where
    go : (fs : List Candidate) → length fs ≡ m → Inv t ps es (queue_of fs) → (a b : ℕ) → Open t ps es a b → ⊥
    go [] e i = inv_empty t ps es (rw queue_none at i)
    go (f ∷ fs) e i = absurd (omega arith)
