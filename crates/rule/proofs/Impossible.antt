-- What the definitions rule out: a trainer that refuses everything, one fixed answer, seeds without merges, invented merges, made-up savings.
use mathlib.Core.Path.{◌≡◌, refl, sym, ap, ◌∙◌}
use mathlib.Core.List.{List, [], ◌∷◌, append-nil}
use mathlib.Core.Logic.{◌⊎◌, inl, inr, ◌↔◌}
use Prim.Native.Nat.{ℕ, ◌+◌, ◌≤◌, ◌<◌}
use native.Mathlib.Omega.{arith}
use lib.ListN.{length}
use Rattle.rule.specs.Table.{Task, Rooms}
use Rattle.rule.specs.Seeding.{seeds, kept}
use Rattle.rule.specs.Training.{count, saving, Merge, trained}
use Rattle.rule.specs.Refusals.{Verdict, success, verdict}
use Rattle.rule.specs.Outcome.{train_outcome}
use Rattle.rule.specs.Demand.{merge_at, pieces_after, words_after, Open, Made, Demand}
use Rattle.rule.proofs.Judged.{Accepted, accepts, accepting}
use Rattle.rule.proofs.Left.{returns}
use Rattle.rule.proofs.Demand.{made_one, demand_single, demand_trained}
use Rattle.rule.proofs.Tables.{rooms, run}
use Rattle.rule.proofs.Examples.{table, ab, cd, any}

-- two tables: Bytes, `ab` and `cd`, size 300
abbrev one : Task
one = table (ab ∷ []) [] [] 0 300 0 any

abbrev other : Task
other = table (cd ∷ []) [] [] 0 300 0 any

-- what they come to, computed: the left numbers of their first merges, and that they are accepted
first_left : (merge_at (trained one) 0).left ≡ 97
unfolding run
first_left = refl

other_left : (merge_at (trained other) 0).left ≡ 99
unfolding run
other_left = refl

first_accepted : (verdict one (rooms 0 one)).number ≡ 0
unfolding run
first_accepted = refl

other_accepted : (verdict other (rooms 0 other)).number ≡ 0
unfolding run
other_accepted = refl

-- REFUSING EVERYTHING: a call with an answer run succeeds exactly when none of the ten conditions holds, and there are tables of which none does
pub succeeds_exactly : (t : Task) (r : Rooms) → 64 ≤ length r.answer → ((train_outcome t r).returned ≡ 0) ↔ Accepted t r
unfolding success
succeeds_exactly t r long = (
  λ e. (accepts t r (sym (returns t r long) ∙ e)).0,
  λ a. returns t r long ∙ ap (λ (v : Verdict). v.number) (accepting t r a),
)

pub some_accepted : Accepted one (rooms 0 one) × Accepted other (rooms 0 other)
some_accepted = ((accepts one (rooms 0 one) first_accepted).0, (accepts other (rooms 0 other) other_accepted).0)

-- ONE FIXED ANSWER: no list of merges is right for both tables
pub not_fixed : (ms : List Merge) → Demand one ms → Demand other ms → ⊥
not_fixed ms d e =
    let h : trained one ≡ trained other = sym (demand_trained one ms d) ∙ demand_trained other ms e in
    let k = ap (λ (l : List Merge). (merge_at l 0).left) h in
    omega (arith, first_left, other_left)

-- SEEDS WITHOUT MERGES: only at the vocabulary size, or where no pair may be merged; and not for the first table
pub seeds_alone : (t : Task) → Demand t [] → (length (seeds t) ≡ t.vocab_size) ⊎ ((p q : ℕ) → Open t (seeds t) (kept t) p q → ⊥)
unfolding pieces_after words_after
seeds_alone t d = go d.ends
  where
    go : (length (seeds t) + 0 ≡ t.vocab_size) ⊎ ((p q : ℕ) → Open t (pieces_after t [] 0) (words_after t [] 0) p q → ⊥)
        → (length (seeds t) ≡ t.vocab_size) ⊎ ((p q : ℕ) → Open t (seeds t) (kept t) p q → ⊥)
    go (inl e) = inl (omega arith)
    go (inr h) = inr (rw append-nil at h)

pub not_without_merges : Demand one [] → ⊥
not_without_merges d = omega (arith, ap (λ (l : List Merge). (merge_at l 0).left) (demand_trained one [] d), first_left)

-- A TRUE FIRST MERGE AND INVENTED OTHERS: at every place one merge only can stand, and two lists agree at every place
pub one_merge : (t : Task) (ms : List Merge) → Demand t ms → (k : ℕ) → k < length ms
    → (m : Merge) → Made t (pieces_after t ms k) (words_after t ms k) m → m ≡ merge_at ms k
one_merge t ms d k h m c = made_one t (pieces_after t ms k) (words_after t ms k) m (merge_at ms k) c (d.made k h)

pub same-place : (t : Task) (ms ns : List Merge) → Demand t ms → Demand t ns → (length ms ≡ length ns) × ((k : ℕ) → merge_at ms k ≡ merge_at ns k)
same-place t ms ns d e = let h = demand_single t ms ns d e in (ap length h, λ k. ap (λ (l : List Merge). merge_at l k) h)

-- MADE-UP SAVINGS: the saving of a merge is the count that its pair has in the words as the earlier merges left them
pub true_saving : (t : Task) (ms : List Merge) → Demand t ms → (k : ℕ) → k < length ms
    → (merge_at ms k).saved ≡ count (merge_at ms k).left (merge_at ms k).right (words_after t ms k)
unfolding saving
true_saving t ms d k h = (d.made k h).saving_is
