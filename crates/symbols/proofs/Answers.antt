-- What `merge_symbols` answers is document 01's verdict, what it leaves is document 01's outcome, and both are single. Assumes nothing.
use mathlib.Core.Path.{◌≡◌, sym, ap, ◌∙◌}
use mathlib.Core.List.{List, [], ◌∷◌}
use mathlib.Core.Logic.{◌≢◌}
use mathlib.Core.Option.{Option, none, some}
use Prim.Native.Nat.{ℕ, ◌-◌, ◌*◌, ◌/◌, ◌%◌, ◌≤◌, ◌<◌}
use native.Mathlib.Omega.{arith}
use lib.ListN.{length, length-append}
use borrow.Author.Tests.{eq-eqb, ne_eqb, lt-ltb, le-ltb}
use Rattle.std.specs.Prelude.{Result, Ok, Err}
use Rattle.runs.specs.Parts.{zeros}
use Rattle.runs.proofs.Parts.{length-zeros}
use Rattle.numbers.specs.Little.{numbers}
use Rattle.numbers.proofs.Little.{length-numbers}
use Rattle.rule.specs.Rewriting.{Span, src, before, after, reports_from, rewrite, rewrites, reports}
use Rattle.rule.specs.Refusals.{Verdict, says}
use Rattle.rule.specs.Outcome.{merge_verdict, Merged as Outcome}
use Rattle.rule.proofs.Rewriting.{Cut, done, last, take2, keep, cut_view, length-rewrite}
use Rattle.rule.proofs.Merging.{merge_refused, merge_done}
use Rattle.symbols.specs.Merging.{verdict_of, Rewrote, Merging}
use Rattle.symbols.specs.declared.Merged.{Merged}
use Rattle.error.specs.declared.MergeError.{MergeError}
use Rattle.error.specs.declared.MergeError.TheVariants.{BadShape, ChangeRoom}
use Rattle.error.specs.Answers.{merge_error_verdict}
use Rattle.error.proofs.Answers.{merge_one_to_one}

module _ (s : List ℕ) (a b x : ℕ) (c : List ℕ) where
  -- a refusal leaves both runs as they were
  refused : (m : Result Merged MergeError) → verdict_of m ≡ merge_verdict s a b x c → (verdict_of m).number ≢ 0 → Merging s a b x c m s c
  refused m e n = record {
    answered = e;
    symbols = λ answer h. sym (ap (λ (o : Outcome). o.symbols) (merge_refused s a b x c answer h none));
    changes = λ answer h. sym (ap (λ (o : Outcome). o.changes) (merge_refused s a b x c answer h none));
  }
    where
      none : (merge_verdict s a b x c).number ≢ 0
      none z = n (ap (λ (v : Verdict). v.number) e ∙ z)

  pub bad_symbols : (length s % 4 ≡ 0 → ⊥) → Merging s a b x c (Err BadShape) s c
  unfolding verdict_of merge_error_verdict merge_verdict
  bad_symbols h = refused (Err BadShape) (rw (ne_eqb (length s % 4) 0 h)) (omega arith)

  pub bad_changes : length s % 4 ≡ 0 → (length c % 16 ≡ 0 → ⊥) → Merging s a b x c (Err BadShape) s c
  unfolding verdict_of merge_error_verdict merge_verdict
  bad_changes e h = refused (Err BadShape) (rw (eq-eqb (length s % 4) 0 e, ne_eqb (length c % 16) 0 h)) (omega arith)

  module _ (es : length s % 4 ≡ 0) (ec : length c % 16 ≡ 0) (count : ℕ) (counted : count ≡ length (reports a b x (numbers 4 s))) where
    pub too_short : length c / 16 < count → Merging s a b x c (Err ChangeRoom) s c
    unfolding verdict_of merge_error_verdict merge_verdict
    too_short h =
        let l : length c < 16 * length (reports a b x (numbers 4 s)) = omega arith in
        refused (Err ChangeRoom) (rw (eq-eqb (length s % 4) 0 es, eq-eqb (length c % 16) 0 ec, lt-ltb (length c) (16 * length (reports a b x (numbers 4 s))) l)) (omega arith)

    pub long_enough : count ≤ length c / 16 → 16 * length (reports a b x (numbers 4 s)) ≤ length c
    long_enough h = omega arith

    pub rewritten : count ≤ length c / 16 → (s' c' : List ℕ) (kept : ℕ) → Rewrote a b x s c s' c' kept → Merging s a b x c (Ok (record { rewrites = length s' / 4 - kept; kept = kept; reports = count })) s' c'
    unfolding verdict_of merge_verdict
    rewritten h s' c' kept r =
        record {
          answered = told ∙ sym says_so;
          symbols = λ answer l. r.word ∙ sym (ap (λ (o : Outcome). o.symbols) (merge_done s a b x c answer l success));
          changes = λ answer l. r.told ∙ sym (ap (λ (o : Outcome). o.changes) (merge_done s a b x c answer l success));
        }
      where
        lost : length s' / 4 - kept ≡ rewrites a b (numbers 4 s)
        lost = omega (arith, r.long_word, r.many, length-rewrite a b x (numbers 4 s), length-numbers 4 s)

        told : says 0 ((length s' / 4 - kept) ∷ kept ∷ count ∷ []) ≡ says 0 (rewrites a b (numbers 4 s) ∷ length (rewrite a b x (numbers 4 s)) ∷ length (reports a b x (numbers 4 s)) ∷ [])
        told = rw (lost, r.many, counted)

        says_so : merge_verdict s a b x c ≡ says 0 (rewrites a b (numbers 4 s) ∷ length (rewrite a b x (numbers 4 s)) ∷ length (reports a b x (numbers 4 s)) ∷ [])
        says_so = rw (eq-eqb (length s % 4) 0 es, eq-eqb (length c % 16) 0 ec, le-ltb (length c) (16 * length (reports a b x (numbers 4 s))) (long_enough h))

        success : (merge_verdict s a b x c).number ≡ 0
        success = ap (λ (v : Verdict). v.number) says_so

-- A LIST OF TWO PLACES A SYMBOL IS LONG ENOUGH

module _ (a b x : ℕ) where
  before_few : (p : Option ℕ) → length (before a x p) ≤ 2
  unfolding before
  before_few none = omega arith
  before_few (some p) = omega arith

  after_few : (r : List ℕ) → length (after b x r) ≤ 2
  unfolding after
  after_few [] = omega arith
  after_few (n ∷ r) = omega arith

  few_from : (p : Option ℕ) {w : List ℕ} {ps : List Span} → Cut a b w ps → length (reports_from a b x p ps) ≤ 2 * length w
  unfolding reports_from
  few_from p done = omega arith
  few_from p last = omega arith
  few_from p (take2 {ps = ps} v) =
      let h = few_from (some x) v in
      simp length-append (omega (arith, before_few p, after_few (src a b ps)))
  few_from p (keep {s = s} n v) = let h = few_from (some s) v in omega arith

  pub reports_few : (w : List ℕ) → length (reports a b x w) ≤ 2 * length w
  unfolding reports
  reports_few w = few_from none (cut_view a b w)

-- TWO OUTCOMES THAT THE CONTRACT ALLOWS ARE EQUAL

-- a refusal has a number
numbered : (e : MergeError) → 0 < (merge_error_verdict e).number
unfolding merge_error_verdict
numbered BadShape = omega arith
numbered ChangeRoom = omega arith

-- so the verdict tells the answer
verdict_single : (m n : Result Merged MergeError) → verdict_of m ≡ verdict_of n → m ≡ n
unfolding verdict_of
verdict_single (Err e) (Err f) h = rw (merge_one_to_one e f h)
verdict_single (Err e) (Ok m) h = absurd (omega (arith, numbered e, ap (λ (v : Verdict). v.number) h))
verdict_single (Ok m) (Err f) h = absurd (omega (arith, numbered f, ap (λ (v : Verdict). v.number) h))
verdict_single (Ok m) (Ok n) h =
    let z : m.rewrites ∷ m.kept ∷ m.reports ∷ [] ≡ n.rewrites ∷ n.kept ∷ n.reports ∷ [] = ap (λ (v : Verdict). v.gives) h in
    let er : m.rewrites ≡ n.rewrites = cc in
    let ek : m.kept ≡ n.kept = cc in
    let eq : m.reports ≡ n.reports = cc in
    ap (λ (r : ℕ). answered r m.kept m.reports) er ∙ ap (λ (k : ℕ). answered n.rewrites k m.reports) ek ∙ ap (answered n.rewrites n.kept) eq
  where
    answered : ℕ → ℕ → ℕ → Result Merged MergeError
    answered r k q = Ok (record { rewrites = r; kept = k; reports = q })

pub merging_single : {s : List ℕ} {a b x : ℕ} {c : List ℕ} {m n : Result Merged MergeError} {s₁ s₂ c₁ c₂ : List ℕ} → Merging s a b x c m s₁ c₁ → Merging s a b x c n s₂ c₂
    → (m ≡ n) × (s₁ ≡ s₂) × (c₁ ≡ c₂)
merging_single {m = m} {n = n} p q =
    let l : 64 ≤ length (zeros 64) = omega (arith, length-zeros 64) in
    (verdict_single m n (p.answered ∙ sym q.answered), p.symbols (zeros 64) l ∙ sym (q.symbols (zeros 64) l), p.changes (zeros 64) l ∙ sym (q.changes (zeros 64) l))
