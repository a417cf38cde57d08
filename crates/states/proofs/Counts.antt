-- The first count, word by word: from blank states to states that track every word. Assumes nothing.
use mathlib.Core.Path.{◌≡◌, refl, ap}
use mathlib.Core.List.{List, [], ◌∷◌}
use Prim.Native.Nat.{ℕ, zero, suc, ◌+◌, ◌*◌, ◌<◌, ◌≤◌}
use native.Mathlib.Nat.{mul-zero}
use native.Mathlib.Numerals.{add-one}
use native.Mathlib.Omega.{arith}
use lib.ListN.{length}
use Rattle.runs.proofs.Parts.{same_or_not}
use Rattle.rule.specs.Rewriting.{count_in, link}
use Rattle.rule.specs.Seeding.{Entry}
use Rattle.rule.specs.Sums.{raised, lowered}
use Rattle.rule.specs.Training.{count}
use Rattle.word.specs.Layout.{entry_at}
use Rattle.marks.specs.Marks.{gained}
use Rattle.marks.proofs.Marks.{marked_none}
use Rattle.states.specs.State.{State, blank, most, key}
use Rattle.states.specs.Tracking.{Tracks, Reported, AllGained, mores, up_to}
use Rattle.states.proofs.Keys.{key_pos}
use Rattle.states.proofs.Tracks.{count_none}
use Rattle.states.proofs.Gains.{not_both}

-- THE REPORTS OF A WORD'S FIRST COUNT raise each pair as often as the word holds it, and lower none
module _ (p q : ℕ) where
  pub mores-raised : (l : List ℕ) → raised p q (mores l) ≡ count_in p q l
  unfolding mores raised count_in link
  mores-raised [] = refl
  mores-raised (a ∷ []) = refl
  mores-raised (a ∷ b ∷ l) = let h = mores-raised (b ∷ l) in omega arith

  pub mores-lowered : (l : List ℕ) → lowered p q (mores l) ≡ 0
  unfolding mores lowered
  mores-lowered [] = refl
  mores-lowered (a ∷ []) = refl
  mores-lowered (a ∷ b ∷ l) = let h = mores-lowered (b ∷ l) in omega arith

-- THE WORDS COUNTED SO FAR: none, one more, all
pub up_to_all : (k : ℕ) (es : List Entry) → length es ≤ k → up_to k es ≡ es
unfolding up_to
up_to_all k [] h = refl
up_to_all zero (e ∷ es) h = absurd (omega arith)
up_to_all (suc k) (e ∷ es) h = ap (λ (l : List Entry). e ∷ l) (up_to_all k es (omega arith))

length-up_to : (k : ℕ) (es : List Entry) → length (up_to k es) ≡ length es
unfolding up_to
length-up_to k [] = refl
length-up_to zero (e ∷ es) = ap suc (length-up_to zero es)
length-up_to (suc k) (e ∷ es) = ap suc (length-up_to k es)

symbols_none : (j : ℕ) (es : List Entry) → (entry_at (up_to 0 es) j).symbols ≡ []
unfolding up_to entry_at
symbols_none j [] = refl
symbols_none zero (e ∷ es) = refl
symbols_none (suc j) (e ∷ es) = symbols_none j es

entry_more : (k : ℕ) (es : List Entry) → k < length es → entry_at (up_to (suc k) es) k ≡ entry_at es k
unfolding up_to entry_at
entry_more k [] h = absurd (omega arith)
entry_more zero (e ∷ es) h = refl
entry_more (suc k) (e ∷ es) h = entry_more k es (omega arith)

entry_other : (k j : ℕ) (es : List Entry) → (j ≡ k → ⊥) → entry_at (up_to (suc k) es) j ≡ entry_at (up_to k es) j
unfolding up_to entry_at
entry_other k j [] n = refl
entry_other zero zero (e ∷ es) n = absurd (n refl)
entry_other zero (suc j) (e ∷ es) n = refl
entry_other (suc k) zero (e ∷ es) n = refl
entry_other (suc k) (suc j) (e ∷ es) n = entry_other k j es (λ i. n (ap suc i))

module _ (p q : ℕ) where
  count_none_yet : (es : List Entry) → count p q (up_to 0 es) ≡ 0
  unfolding up_to count count_in
  count_none_yet [] = refl
  count_none_yet (e ∷ es) = let h = count_none_yet es in omega (arith, mul-zero e.frequency)

  count_more : (k : ℕ) (es : List Entry) → k < length es
      → count p q (up_to (suc k) es) ≡ count p q (up_to k es) + (entry_at es k).frequency * count_in p q (entry_at es k).symbols
  unfolding up_to count count_in entry_at
  count_more k [] h = absurd (omega arith)
  count_more zero (e ∷ es) h = omega (arith, mul-zero e.frequency)
  count_more (suc k) (e ∷ es) h = let i = count_more k es (omega arith) in omega arith

-- BLANK STATES track words of which none is counted
module _ {σ : ℕ → State} (h : (c : ℕ) → 0 < c → σ c ≡ blank) where
  pub tracks_blank : (es : List Entry) → Tracks σ 0 (up_to 0 es)
  tracks_blank es = record {
    exact = λ p q hp hq n. rw (h (key p q) (key_pos p q), count_none_yet p q es);
    least = λ p q hp hq. rw (count_none_yet p q es) (omega arith);
    covers = λ p q k hp hq l. let g = rw (symbols_none k es, count_none p q) at l in absurd (omega arith);
    inside = λ c k z m. let g = rw (h c z) at m in let l = g.low in absurd (omega arith);
  }

  pub gained-blank : AllGained σ
  gained-blank = record {
    counts = λ p q hp hq l. let g = rw (h (key p q) (key_pos p q)) at l in absurd (omega arith);
    pairs = λ c z m. not_both gained 0 (marked_none gained) (rw (h c z) at m);
  }

-- ONE WORD MORE
module _ {σ τ : ℕ → State} (k : ℕ) (es : List Entry) (hk : k < length es) where
  pub tracks_word : Tracks σ 0 (up_to k es) → Reported (entry_at es k).frequency k (mores (entry_at es k).symbols) σ τ → Tracks τ 0 (up_to (k + 1) es)
  tracks_word t r = rw (add-one k) (record {
    exact = λ p q hp hq n. omega (arith, told p q hp hq, t.exact p q hp hq n, count_more p q k es hk);
    least = λ p q hp hq. omega (arith, told p q hp hq, t.least p q hp hq, count_more p q k es hk);
    covers = λ p q j hp hq l. same_or_not j k
        (λ (i : j ≡ k). rw i (r.noted p q hp hq (rw (mores-raised p q (entry_at es k).symbols) (rw (i, entry_more k es hk) at l))))
        (λ n. r.grown (key p q) j (key_pos p q) (t.covers p q j hp hq (rw (entry_other k j es n) at l)));
    inside = λ c j z m. rw (length-up_to (suc k) es) (same_or_not j k
        (λ (i : j ≡ k). rw i hk)
        (λ n. rw (length-up_to k es) at (t.inside c j z (r.known c j z n m))));
  })
    where
      told : (p q : ℕ) → p < most → q < most → (τ (key p q)).count ≡ (σ (key p q)).count + (entry_at es k).frequency * count_in p q (entry_at es k).symbols
      told p q hp hq =
          let h = rw (mores-raised p q (entry_at es k).symbols, mores-lowered p q (entry_at es k).symbols, mul-zero (entry_at es k).frequency) at (r.counts p q hp hq) in
          omega arith
