-- The queue of the lazy rule at a start and in a merge, and the keys of the candidates that enter it. Assumes nothing.
use mathlib.Core.Path.{◌≡◌, refl}
use mathlib.Core.Bool.{true}
use mathlib.Core.List.{List, [], ◌∷◌, ◌++◌}
use mathlib.Core.Logic.{⊎_elim}
use Prim.Native.Nat.{ℕ, suc, ◌*◌, ◌<◌, ◌≤◌}
use native.Mathlib.Omega.{arith}
use lib.ListN.{length}
use Rattle.runs.specs.Parts.{nth}
use Rattle.rule.specs.Table.{Task}
use Rattle.rule.specs.Seeding.{Entry}
use Rattle.rule.specs.Sums.{AllUnder, in_use}
use Rattle.rule.specs.Training.{Choice, joined_of, rewrite_all, limits}
use Rattle.lazy.specs.Lazy.{seeds, words_with, gained as gainedQueue}
use Rattle.lazy.specs.Invariant.{Every}
use Rattle.lazy.proofs.Invariant.{inv_seeds, inv_join}
use Rattle.lazy.proofs.Bound.{potential-seeds, potential_join, room_seeds, room_join}
use Rattle.queue.specs.declared.Candidate.{Candidate}
use Rattle.queue.specs.Holding.{In}
use Rattle.queue.proofs.Holding.{in_none, in_either}
use Rattle.marks.specs.Marks.{gained, marked}
use Rattle.states.specs.State.{State}
use Rattle.waiting.specs.Waiting.{gainers}
use Rattle.waiting.proofs.Entered.{gainers_case}
use Rattle.waiting.proofs.Gained.{Older, fair_older}
use Rattle.engine.specs.Engine.{Limits, Queued}

-- THE TASK with a prefix and a limit: what is known of every such task is known
pub limits_of : (prefix : List ℕ) (limit : ℕ) → Limits (limits prefix limit) prefix limit
unfolding limits
limits_of prefix limit = record { prefix_is = refl; limit_is = refl }

-- AT THE START every pair that occurs waits
pub queued_start : (prefix : List ℕ) (limit : ℕ) (ps : List (List ℕ)) (es : List Entry) (places : ℕ) → AllUnder (length ps) es → 3 * in_use es ≤ places
    → Queued prefix limit ps es places (5 * in_use es) (seeds es)
queued_start prefix limit ps es places u h =
    record { inv = λ t l. inv_seeds t ps es u; fuel = potential-seeds es; few = omega (arith, room_seeds es) }

-- IN A MERGE the entry e of its pair is taken out
module _ {prefix : List ℕ} {limit : ℕ} {ps : List (List ℕ)} {es : List Entry} {places k : ℕ} {e : Choice} {qu : List Choice}
    (q : Queued prefix limit ps es places k (e ∷ qu)) where
  pub queued_older : (x : ℕ) → length ps ≡ x → Every (Older x) qu
  queued_older x h = fair_older ps es x h qu (q.inv (limits prefix limit) (limits_of prefix limit)).fair.1

  queued_with : (s : List ℕ) → ((t : Task) → Limits t prefix limit → joined_of t ps e.left e.right ≡ s)
      → Queued prefix limit (ps ++ (s ∷ [])) (words_with ps es e) places k (gainedQueue (length ps) (words_with ps es e) qu)
  queued_with s f =
      let i = q.inv (limits prefix limit) (limits_of prefix limit) in
      record {
        inv = λ t l. rw (← f t l) (inv_join t ps es e qu (q.inv t l));
        fuel = omega (arith, potential_join (limits prefix limit) ps es e qu i, q.fuel);
        few = omega (arith, room_join (limits prefix limit) ps es e qu i, q.few);
      }

  -- and after it the pairs that gained wait too
  module _ (a b x : ℕ) (n : length ps ≡ x) (l : e.left ≡ a) (r : e.right ≡ b) where
    pub queued_join : (s : List ℕ) → ((t : Task) → Limits t prefix limit → joined_of t ps a b ≡ s)
        → Queued prefix limit (ps ++ (s ∷ [])) (rewrite_all a b x es) places k (gainedQueue x (rewrite_all a b x es) qu)
    queued_join s f = rw (← n, ← l, ← r) (queued_with s (λ t h. rw (l, r) (f t h)))

    pub queued_room : length (gainedQueue x (rewrite_all a b x es) qu) ≤ places
    queued_room =
        let i = q.inv (limits prefix limit) (limits_of prefix limit) in
        rw (← n, ← l, ← r) (omega (arith, room_join (limits prefix limit) ps es e qu i, q.few))

-- THE KEYS OF THE CANDIDATES are those of touched pairs that have gained
module _ (σ : ℕ → State) (P : ℕ → Type 0) where
  pub gainer_keys : (ks : List ℕ) → ((j : ℕ) → j < length ks → marked gained (σ (nth ks j)).marks ≡ true → P (nth ks j))
      → (f : Candidate) → In f (gainers σ ks) → P f.key
  unfolding gainers nth
  gainer_keys [] h f m = absurd (in_none f m)
  gainer_keys (c ∷ ks) h f m =
      let rest = gainer_keys ks (λ j l. h (suc j) (omega arith)) f in
      gainers_case σ (λ (l : List Candidate). In f l → P f.key) c ks
      (λ g i. ⊎_elim
      (λ (z : f ≡ record { count = (σ c).count; key = c }). rw z (h 0 (omega arith) g.has))
      rest
      (in_either f (record { count = (σ c).count; key = c }) (gainers σ ks) i))
      (λ _ i. rest i)
      m
