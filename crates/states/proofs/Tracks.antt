-- States that track some words go on to: when an occurrence is rewritten and reported, when marks change, when a merge is done or settled. Assumes nothing.
use mathlib.Core.Path.{◌≡◌, refl, sym, ap, ◌∙◌}
use mathlib.Core.List.{List, [], ◌∷◌, ◌++◌}
use Prim.Native.Nat.{ℕ, ◌*◌, ◌<◌, ◌≤◌}
use native.Mathlib.Nat.{mul-le-mul_left, one-le-mul}
use native.Mathlib.Omega.{arith}
use lib.ListN.{length, get_or-eq_default}
use Rattle.runs.proofs.Parts.{same_or_not, below_or_not}
use Rattle.rule.specs.Rewriting.{bit, is_pair, Report, before, after, count_in}
use Rattle.rule.specs.Seeding.{Entry}
use Rattle.rule.specs.Sums.{raised, lowered, symbols_in}
use Rattle.rule.specs.Training.{count}
use Rattle.rule.proofs.Rewriting.{pair_miss}
use Rattle.rule.proofs.Counts.{count_symbols}
use Rattle.word.specs.Layout.{entry_at}
use Rattle.merge.proofs.Changes.{change_this, change_other}
use Rattle.states.specs.State.{State, blank, most, key, left_of, right_of, OfPair, Among, Change}
use Rattle.states.specs.Tracking.{Tracks, Reported, last_of, with_word, Weighed, Settled}
use Rattle.states.proofs.Keys.{key_pos, key_single}
use Rattle.states.proofs.Hits.{length_with, count_with, count_share, hit_count, hit_lowered}

-- an occurrence of (a,b) in word k, behind P and before R
module _ (a b x k : ℕ) (P R : List ℕ) (es : List Entry) (hk : k < length es) where
  abbrev frequency : ℕ
  frequency = (entry_at es k).frequency

  abbrev reported : List Report
  reported = before a x (last_of P) ++ after b x R

  symbols_with : (l : List ℕ) → (entry_at (with_word k l es) k).symbols ≡ l
  symbols_with l = ap (λ (e : Entry). e.symbols) (change_this (λ _. l) k es hk)

  share_with : (p q : ℕ) (l : List ℕ) → frequency * count_in p q l ≤ count p q (with_word k l es)
  share_with p q l = omega (arith, count_with p q k l es hk, count_share p q k es hk)

  module _ {σ : ℕ → State} {e : ℕ} (t : Tracks σ e (with_word k (P ++ (a ∷ b ∷ R)) es)) where
    -- THERE IS ENOUGH TO LOWER
    pub hit_enough : (p q : ℕ) → p < most → q < most → (entry_at es k).frequency * lowered p q (before a x (last_of P) ++ after b x R) ≤ (σ (key p q)).count
    hit_enough p q hp hq = omega (arith, t.least p q hp hq, share_with p q (P ++ (a ∷ b ∷ R)), mul-le-mul_left frequency (hit_lowered p q a b x P R))

    -- THE STATES TRACK THE REWRITTEN WORD, once its reports are in
    pub tracks_hit : e ≡ key a b → a < most → b < most → {τ : ℕ → State} → Reported (entry_at es k).frequency k (before a x (last_of P) ++ after b x R) σ τ
        → Tracks τ e (with_word k (P ++ (x ∷ R)) es)
    tracks_hit ee ha hb {τ} r = record {
      exact = λ p q hp hq n.
          let z : bit (is_pair p q a b) ≡ 0 = ap bit (pair_miss p q a b (λ i j. n (rw (ee, i, j)))) in
          let h = rw z at (hit_count p q a b x P R) in
          omega (arith, t.exact p q hp hq n, r.counts p q hp hq, count_with p q k (P ++ (a ∷ b ∷ R)) es hk, count_with p q k (P ++ (x ∷ R)) es hk, ap (λ (m : ℕ). frequency * m) h);
      least = λ p q hp hq.
          omega (arith, t.least p q hp hq, r.counts p q hp hq, count_with p q k (P ++ (a ∷ b ∷ R)) es hk, count_with p q k (P ++ (x ∷ R)) es hk, ap (λ (m : ℕ). frequency * m) (hit_count p q a b x P R));
      covers = λ p q j hp hq l. same_or_not j k
          (λ (i : j ≡ k). rw i (here p q hp hq (rw (i, symbols_with (P ++ (x ∷ R))) at l)))
          (λ n. r.grown (key p q) j (key_pos p q) (t.covers p q j hp hq (rw (change_other (λ _. P ++ (a ∷ b ∷ R)) k j es n) (rw (change_other (λ _. P ++ (x ∷ R)) k j es n) at l))));
      inside = λ c j z m. rw (length_with k (P ++ (x ∷ R)) es) (same_or_not j k
          (λ (i : j ≡ k). rw i hk)
          (λ n. rw (length_with k (P ++ (a ∷ b ∷ R)) es) at (t.inside c j z (r.known c j z n m))));
    }
      where
        here : (p q : ℕ) → p < most → q < most → 1 ≤ count_in p q (P ++ (x ∷ R)) → Among k (τ (key p q)).words
        here p q hp hq l = below_or_not 0 (raised p q reported)
            (λ g. r.noted p q hp hq g)
            (λ g. r.grown (key p q) k (key_pos p q)
            (t.covers p q k hp hq (rw (symbols_with (P ++ (a ∷ b ∷ R))) (omega (arith, hit_count p q a b x P R)))))

-- past the words nothing is held
entry_past : (es : List Entry) (k : ℕ) → length es ≤ k → entry_at es k ≡ record { frequency = 0; symbols = [] }
unfolding entry_at
entry_past es k h = get_or-eq_default es (record { frequency = 0; symbols = [] }) h

pub count_none : (p q : ℕ) → count_in p q [] ≡ 0
unfolding count_in
count_none p q = refl

-- STATES WITH THE SAME COUNTS AND LISTS track the same words
module _ {σ τ : ℕ → State} {e : ℕ} {es : List Entry} where
  tracks_kept : ((c : ℕ) → 0 < c → (τ c).count ≡ (σ c).count) → ((c : ℕ) → 0 < c → (τ c).words ≡ (σ c).words) → Tracks σ e es → Tracks τ e es
  tracks_kept hc hw t = record {
    exact = λ p q hp hq n. hc (key p q) (key_pos p q) ∙ t.exact p q hp hq n;
    least = λ p q hp hq. rw (hc (key p q) (key_pos p q)) (t.least p q hp hq);
    covers = λ p q k hp hq l. rw (hw (key p q) (key_pos p q)) (t.covers p q k hp hq l);
    inside = λ c k z m. t.inside c k z (rw (hw c z) at m);
  }

  pub tracks_same : ((c : ℕ) → 0 < c → τ c ≡ σ c) → Tracks σ e es → Tracks τ e es
  tracks_same h t = tracks_kept (λ c z. ap (λ (s : State). s.count) (h c z)) (λ c z. ap (λ (s : State). s.words) (h c z)) t

  pub tracks_marked : {c : ℕ} {s : State} → Change c s σ τ → s.count ≡ (σ c).count → s.words ≡ (σ c).words → Tracks σ e es → Tracks τ e es
  tracks_marked {c} {s} h ec ew t = tracks_kept
      (λ d z. same_or_not d c (λ i. rw (i, h.here) ec) (λ n. ap (λ (v : State). v.count) (h.others d z n)))
      (λ d z. same_or_not d c (λ i. rw (i, h.here) ew) (λ n. ap (λ (v : State). v.words) (h.others d z n)))
      t

  -- A SETTLED MERGE: a pair that a word holds has a count, since every word counts, and so its list is as it was
  pub tracks_settled : Weighed es → Settled e σ τ → Tracks σ e es → Tracks τ e es
  tracks_settled w s t = record {
    exact = λ p q hp hq n. s.counts (key p q) (key_pos p q) ∙ t.exact p q hp hq n;
    least = λ p q hp hq. rw (s.counts (key p q) (key_pos p q)) (t.least p q hp hq);
    covers = λ p q k hp hq l.
        let hk = held p q k l in
        let o = one-le-mul (w k hk) l in
        let h : 1 ≤ (σ (key p q)).count = omega (arith, count_share p q k es hk, t.least p q hp hq) in
        rw (s.words (key p q) (key_pos p q) h) (t.covers p q k hp hq l);
    inside = λ c k z m. t.inside c k z (s.inside c k z m);
  }
    where
      past : (p q k : ℕ) → length es ≤ k → count_in p q (entry_at es k).symbols ≡ 0
      past p q k g = rw (entry_past es k g) (count_none p q)

      held : (p q k : ℕ) → 1 ≤ count_in p q (entry_at es k).symbols → k < length es
      held p q k l = below_or_not k (length es) (λ g. g) (λ g. absurd (omega (arith, past p q k g)))

-- the count of a key that is a pair's
pub tracked_exact : {σ : ℕ → State} {e : ℕ} {es : List Entry} → Tracks σ e es → (c : ℕ) → OfPair c → (c ≡ e → ⊥) → (σ c).count ≡ count (left_of c) (right_of c) es
tracked_exact {σ} t c p n = ap (λ (d : ℕ). (σ d).count) (sym p.is) ∙ t.exact (left_of c) (right_of c) p.left p.right (λ z. n (sym p.is ∙ z))

-- no count passes the symbols
pub tracked_light : {σ : ℕ → State} {e : ℕ} {es : List Entry} → Tracks σ e es → (p q : ℕ) → (key p q ≡ e → ⊥) → p < most → q < most → (σ (key p q)).count ≤ symbols_in es
tracked_light {σ} {e} {es} t p q n hp hq = rw (t.exact p q hp hq n) (count_symbols p q es)

-- where no pair is merged, the count of each is exact
pub tracks_from : {σ : ℕ → State} {es : List Entry} (e : ℕ) → Tracks σ 0 es → Tracks σ e es
tracks_from e t = record {
  exact = λ p q hp hq n. t.exact p q hp hq (λ z. let h = key_pos p q in omega arith);
  least = t.least;
  covers = t.covers;
  inside = t.inside;
}

-- THE MERGED PAIR IS GONE and its state blank
module _ {σ τ : ℕ → State} {es : List Entry} (e a b : ℕ) where
  pub tracks_done : 0 < e → e ≡ key a b → a < most → b < most → ((k : ℕ) → count_in a b (entry_at es k).symbols ≡ 0) → count a b es ≡ 0
      → Tracks σ e es → Change e blank σ τ → Tracks τ 0 es
  tracks_done he ee ha hb hn hz t c = record {
    exact = λ p q hp hq n. same_or_not (key p q) e
        (λ i. let s = key_single p q a b hq hb (i ∙ ee) in rw (i, c.here, s.0, s.1, hz))
        (λ m. rw (c.others (key p q) (key_pos p q) m) (t.exact p q hp hq m));
    least = λ p q hp hq. same_or_not (key p q) e
        (λ i. let s = key_single p q a b hq hb (i ∙ ee) in rw (s.0, s.1, hz) (omega arith))
        (λ m. rw (c.others (key p q) (key_pos p q) m) (t.least p q hp hq));
    covers = λ p q k hp hq l. same_or_not (key p q) e
        (λ i. let s = key_single p q a b hq hb (i ∙ ee) in let g = rw (s.0, s.1, hn k) at l in absurd (omega arith))
        (λ m. rw (c.others (key p q) (key_pos p q) m) (t.covers p q k hp hq l));
    inside = λ d k z m. same_or_not d e
        (λ i. let g = rw (i, c.here) at m in let l = g.low in absurd (omega arith))
        (λ n. t.inside d k z (rw (c.others d z n) at m));
  }
