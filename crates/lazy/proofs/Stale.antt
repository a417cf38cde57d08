-- What a merge makes stale: at most two entries for each rewrite, since a report lowers one pair and each pair has one entry.
use mathlib.Core.Path.{◌≡◌, refl, ap}
use mathlib.Core.Bool.{Bool, true, false, cond}
use mathlib.Core.List.{List, [], ◌∷◌, ◌++◌}
use mathlib.Core.Logic.{◌≢◌}
use mathlib.Core.Option.{Option, none, some}
use Prim.Native.Nat.{ℕ, zero, suc, ◌+◌, ◌*◌, ◌≤◌}
use native.Mathlib.Omega.{arith}
use lib.Dec.{eqb}
use lib.ListN.{length}
use borrow.Author.Tests.{eq-eqb}
use Rattle.rule.specs.Table.{Task}
use Rattle.rule.specs.Seeding.{Entry}
use Rattle.rule.specs.Rewriting.{bit, is_pair, Span, one, hit, cut, src, hits, Report, before, after, reports_from, rewrite, rewrites, reports, count_in}
use Rattle.rule.specs.Training.{count, rewrite_all, Choice}
use Rattle.rule.specs.Sums.{lowered}
use Rattle.runs.proofs.Parts.{eqb_sym}
use Rattle.rfc3629.proofs.Rows.{cond_elim}
use Rattle.rule.proofs.Rewriting.{never_rises}
use Rattle.rule.proofs.Reports.{lowered-append, balance}
use Rattle.lazy.specs.Lazy.{total, is_of, entries, live, words_with}
use Rattle.lazy.specs.Sums.{all_reports, downs, all_rewrites, stale}
use Rattle.lazy.specs.Invariant.{Every, Fair, Inv}
use Rattle.lazy.proofs.Queue.{every_two, none_of, entries_cons, is_of-same}

-- SUMS OVER THE QUEUE
total_add : (g h : Choice → ℕ) (qu : List Choice) → total (λ f. g f + h f) qu ≡ total g qu + total h qu
unfolding total
total_add g h [] = refl
total_add g h (e ∷ qu) = let k = total_add g h qu in omega arith

total_zero : (qu : List Choice) → total (λ f. 0) qu ≡ 0
unfolding total
total_zero [] = refl
total_zero (e ∷ qu) = let k = total_zero qu in omega arith

total-same : (g h : Choice → ℕ) → ((f : Choice) → g f ≡ h f) → (qu : List Choice) → total g qu ≡ total h qu
unfolding total
total-same g h k [] = refl
total-same g h k (e ∷ qu) = let m = total-same g h k qu in omega (arith, k e)

total_le : (g h : Choice → ℕ) (qu : List Choice) → Every (λ f. g f ≤ h f) qu → total g qu ≤ total h qu
unfolding total
total_le g h [] k = omega arith
total_le g h (e ∷ qu) k = let m = total_le g h qu k.1 in let z = k.0 in omega arith

pub is_pair_sym : (p q s t : ℕ) → is_pair p q s t ≡ is_pair s t p q
is_pair_sym p q s t = rw (eqb_sym s p, eqb_sym t q)

-- A REWRITE HAS AT MOST TWO REPORTS that lower a count
downs-append : (l m : List Report) → downs (l ++ m) ≡ downs l + downs m
unfolding downs
downs-append [] m = omega arith
downs-append (r ∷ l) m = let h = downs-append l m in omega arith

downs-before : (a x : ℕ) (v : Option ℕ) → downs (before a x v) ≤ 1
unfolding downs before
downs-before a x none = omega arith
downs-before a x (some p) = omega arith

downs-after : (b x : ℕ) (l : List ℕ) → downs (after b x l) ≤ 1
unfolding downs after
downs-after b x [] = omega arith
downs-after b x (n ∷ l) = omega arith

downs_from : (a b x : ℕ) (v : Option ℕ) (ps : List Span) → downs (reports_from a b x v ps) ≤ 2 * hits ps
unfolding reports_from hits downs
downs_from a b x v [] = omega arith
downs_from a b x v (one s ∷ ps) = downs_from a b x (some s) ps
downs_from a b x v (hit ∷ ps) =
    let h = downs_from a b x (some x) ps in
    simp downs-append (omega (arith, downs-before a x v, downs-after b x (src a b ps)))

downs_all : (a b x : ℕ) (es : List Entry) → downs (all_reports a b x es) ≤ 2 * all_rewrites a b es
unfolding all_reports all_rewrites reports rewrites downs
downs_all a b x [] = omega arith
downs_all a b x (e ∷ es) =
    let h = downs_all a b x es in
    rw (downs-append (reports_from a b x none (cut a b e.symbols)) (all_reports a b x es)) (omega (arith, downs_from a b x none (cut a b e.symbols)))

-- EACH REPORT LOWERS ONE ENTRY at most
lowered-total : (qu : List Choice) → ((p q : ℕ) → entries p q qu ≤ 1) → (rs : List Report) → total (λ f. lowered f.left f.right rs) qu ≤ downs rs
unfolding lowered downs entries
lowered-total qu u [] = omega (arith, total_zero qu)
lowered-total qu u (r ∷ rs) =
    let h = lowered-total qu u rs in
    let k = total_add (λ f. cond r.up 0 (bit (is_pair f.left f.right r.left r.right))) (λ f. lowered f.left f.right rs) qu in
    omega (arith, k, go r.up)
  where
    go : (b : Bool) → total (λ f. cond b 0 (bit (is_pair f.left f.right r.left r.right))) qu ≤ cond b 0 1
    go true = omega (arith, total_zero qu)
    go false =
        omega (
          arith,
          u r.left r.right,
          total-same (λ f. bit (is_pair f.left f.right r.left r.right)) (is_of r.left r.right) (λ f. ap bit (is_pair_sym f.left f.right r.left r.right)) qu,
        )

-- A PAIR THAT NO REPORT LOWERS keeps its count
unlowered : (p q a b x : ℕ) → (p ≡ a → q ≡ b → ⊥) → x ≢ p → x ≢ q → (es : List Entry) → lowered p q (all_reports a b x es) ≡ 0
    → count p q (rewrite_all a b x es) ≡ count p q es
unfolding count rewrite_all all_reports lowered
unlowered p q a b x n hp hq [] z = refl
unlowered p q a b x n hp hq (e ∷ es) z =
    let k = lowered-append p q (reports a b x e.symbols) (all_reports a b x es) in
    let h = unlowered p q a b x n hp hq es (omega arith) in
    let m : count_in p q (rewrite a b x e.symbols) ≡ count_in p q e.symbols = omega (arith, balance p q a b x n e.symbols, never_rises p q a b x hp hq e.symbols) in
    rw (m, h)

-- STALE ENTRIES
stale_le : (es : List Entry) (f : Choice) → stale es f ≤ 1
unfolding stale
stale_le es f = cond_elim (λ n. n ≤ 1) (eqb (count f.left f.right es) f.times) (λ e. omega arith) (λ e. omega arith)

pub stale-live : (es : List Entry) (l r : ℕ) → stale es (live es l r) ≡ 0
unfolding stale live
stale-live es l r = rw (eq-eqb (count l r es) (count l r es) refl)

stale-same : (es es' : List Entry) (f : Choice) → count f.left f.right es' ≡ count f.left f.right es → stale es' f ≡ stale es f
unfolding stale
stale-same es es' f e = rw e

-- A MERGE MAKES AT MOST TWO ENTRIES STALE FOR EACH REWRITE
module _ (t : Task) (ps : List (List ℕ)) (es : List Entry) (e : Choice) (qu : List Choice) (i : Inv t ps es (e ∷ qu)) where
  pub stale_with : total (stale (words_with ps es e)) qu ≤ total (stale es) qu + 2 * all_rewrites e.left e.right es
  stale_with =
      let c = total_add (stale es) (λ f. lowered f.left f.right rs) qu in
      let d = lowered-total qu (λ p q. omega (arith, i.unique p q, entries_cons p q e qu)) rs in
      let m = downs_all e.left e.right (length ps) es in
      let t = total_le (stale (words_with ps es e)) (λ f. stale es f + lowered f.left f.right rs) qu (every_two each qu i.fair.1 others) in
      omega arith
    where
      rs : List Report
      rs = all_reports e.left e.right (length ps) es

      others : Every (λ f. f.left ≡ e.left → f.right ≡ e.right → ⊥) qu
      others = none_of e.left e.right qu (omega (arith, i.unique e.left e.right, entries_cons e.left e.right e qu, is_of-same e))

      each : (f : Choice) → Fair ps es f → (f.left ≡ e.left → f.right ≡ e.right → ⊥) → stale (words_with ps es e) f ≤ stale es f + lowered f.left f.right rs
      each f h n = go (lowered f.left f.right rs) refl
        where
          go : (k : ℕ) → lowered f.left f.right rs ≡ k → stale (words_with ps es e) f ≤ stale es f + k
          go zero z =
              let hl = h.left_known in
              let hr = h.right_known in
              omega (arith, stale-same es (words_with ps es e) f (unlowered f.left f.right e.left e.right (length ps) n (λ k. omega arith) (λ k. omega arith) es z))
          go (suc k) z = omega (arith, stale_le (words_with ps es e) f)
