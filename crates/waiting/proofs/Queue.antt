-- The candidates of a heap as the queue of the lazy rule: what is popped is its first entry, and what is pushed goes to its place. Assumes nothing.
use mathlib.Core.Path.{◌≡◌, refl, sym, ap, ◌∙◌}
use mathlib.Core.List.{List, [], ◌∷◌, ◌++◌, map, map-append}
use mathlib.Core.Logic.{◌⊎◌, inl, inr}
use Prim.Native.Nat.{ℕ, suc, ◌^◌, ◌<◌, ◌≤◌}
use native.Mathlib.Omega.{arith}
use lib.ListN.{length}
use Rattle.rule.specs.Training.{Choice}
use Rattle.lazy.specs.Lazy.{insert}
use Rattle.lazy.specs.Invariant.{First, Every, ordered}
use Rattle.lazy.proofs.Queue.{length-insert}
use Rattle.lazy.proofs.Canon.{ordered_middle, ordered_push, ordered_root}
use Rattle.queue.specs.declared.Candidate.{Candidate}
use Rattle.queue.specs.Candidates.{rank}
use Rattle.queue.specs.Holding.{In, Taken}
use Rattle.queue.proofs.Holding.{rank_means, in_head, in_tail, in_rest}
use Rattle.states.proofs.Keys.{key_order}
use Rattle.waiting.specs.Waiting.{waits, queue_of}

-- THE ORDER BY RANK IS THE ORDER OF CHOICE
pub waits-first : (e f : Candidate) → e.key < 2 ^ 64 → rank f ≤ rank e → First (waits e) (waits f)
unfolding waits
waits-first e f k h = go (rank_means e f k h)
  where
    go : (f.count < e.count) ⊎ ((f.count ≡ e.count) × (e.key ≤ f.key))
        → First (waits e) (waits f)
    go (inl l) = record { counts = omega arith; lefts = λ z. absurd (omega arith); rights = λ z w. absurd (omega arith) }
    go (inr p) = let c = p.0 in let o = key_order e.key f.key p.1 in record { counts = omega arith; lefts = λ z. o.0; rights = λ z. o.1 }

-- before all of those that do not win against it
first_all : (e : Candidate) → e.key < 2 ^ 64 → (fs : List Candidate) → ((f : Candidate) → In f fs → rank f ≤ rank e) → Every (First (waits e)) (map waits fs)
first_all e k [] h = tt
first_all e k (f ∷ fs) h =
    (waits-first e f k (h f (in_head f f fs refl)), first_all e k fs (λ g m. h g (in_tail g f fs m)))

-- the entries do not depend on the order of the candidates
queue_middle : (l : List Candidate) (e : Candidate) (r : List Candidate) → queue_of (l ++ (e ∷ r)) ≡ queue_of (e ∷ (l ++ r))
unfolding queue_of
queue_middle l e r =
    ap ordered (map-append waits l (e ∷ r))
    ∙ ordered_middle (map waits l) (waits e) (map waits r)
    ∙ ap (λ (m : List Choice). insert (waits e) (ordered m)) (sym (map-append waits l r))
    ∙ sym (ordered_middle [] (waits e) (map waits (l ++ r)))

queue_root : (e : Candidate) (l : List Candidate) → Every (First (waits e)) (map waits l) → queue_of (e ∷ l) ≡ waits e ∷ queue_of l
unfolding queue_of
queue_root e l h = ordered_root (waits e) (map waits l) h

-- A POP TAKES THE FIRST ENTRY
pub queue_pop : {es : List Candidate} {e : Candidate} {base n : ℕ} {is : List ℕ} (t : Taken es e base n is)
    → queue_of es ≡ waits e ∷ queue_of (t.before ++ t.after)
queue_pop {es} {e} t =
    ap queue_of t.split
    ∙ queue_middle t.before e t.after
    ∙ queue_root e (t.before ++ t.after)
    (first_all e t.keyed (t.before ++ t.after) (λ f m. t.best f (rw t.split (in_rest f t.before e t.after m))))

-- A PUSH puts an entry in its place
pub queue_push : (es : List Candidate) (e : Candidate) → queue_of (es ++ (e ∷ [])) ≡ insert (waits e) (queue_of es)
unfolding queue_of
queue_push es e = ap ordered (map-append waits es (e ∷ [])) ∙ ordered_push (map waits es) (waits e)

pub queue_none : queue_of [] ≡ []
unfolding queue_of ordered
queue_none = refl

pub queue_cons : (e : Candidate) (es : List Candidate) → queue_of (e ∷ es) ≡ insert (waits e) (queue_of es)
unfolding queue_of
queue_cons e es = ordered_middle [] (waits e) (map waits es)

-- an entry for each candidate
pub queue-length : (es : List Candidate) → length (queue_of es) ≡ length es
queue-length [] = ap length queue_none
queue-length (e ∷ es) = ap length (queue_cons e es) ∙ length-insert (waits e) (queue_of es) ∙ ap suc (queue-length es)
