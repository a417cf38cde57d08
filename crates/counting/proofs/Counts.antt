-- The laws of counting a pair. Assumes nothing.
use mathlib.Core.Path.{◌≡◌, refl}
use mathlib.Core.List.{List, [], ◌∷◌}
use Prim.Native.Nat.{ℕ, ◌+◌, ◌-◌, ◌*◌, ◌^◌, ◌≤◌, ◌<◌}
use native.Mathlib.Omega.{arith}
use native.Mathlib.Nat.{mul-le-mul_left}
use lib.ListN.{length, drop, drop_of_length-le}
use Rattle.runs.specs.Parts.{nth}
use Rattle.rule.specs.Rewriting.{bit, is_pair, link, count_in}
use Rattle.rule.specs.Seeding.{Entry}
use Rattle.rule.specs.Training.{count}
use Rattle.rule.specs.Sums.{symbols_in}
use Rattle.rule.proofs.Counts.{count-length}
use Rattle.word.specs.Layout.{symbol_in, symbols_at, entry_at, Found, words_in}
use Rattle.word.specs.declared.WordSet.{WordSet}
use Rattle.word.specs.declared.Span.{Span}
use Rattle.word.proofs.Views.{symbols_length, symbols_two, symbols_next, corpus-length, drop_entry}
use Rattle.counting.specs.Counting.{Tested, Counted}

-- THE POSITIONS OF A WORD

count-short : (p q : ℕ) (l : List ℕ) → length l ≤ 1 → count_in p q l ≡ 0
unfolding count_in link
count-short p q [] h = refl
count-short p q (s ∷ []) h = refl
count-short p q (s ∷ t ∷ l) h = absurd (omega arith)

module _ (p q at n : ℕ) (cs : List ℕ) where
  count_two : 1 < n → at + n ≤ length cs
      → count_in p q (symbols_at at n cs) ≡ bit (is_pair p q (symbol_in (nth cs at)) (symbol_in (nth cs (at + 1)))) + count_in p q (symbols_at (at + 1) (n - 1) cs)
  unfolding count_in link
  count_two h l = rw (symbols_two at n cs h l, symbols_next at n cs h l)

  count_few : n ≤ 1 → at + n ≤ length cs → count_in p q (symbols_at at n cs) ≡ 0
  count_few h l = count-short p q (symbols_at at n cs) (omega (arith, symbols_length at n cs l))

-- the loop, at the i-th symbol: what is to come begins with the symbol before it
module _ (p q start n : ℕ) (cs : List ℕ) (room : start + n ≤ length cs) where
  pub hits_start : count_in p q (symbols_at start n cs) ≡ 0 + count_in p q (symbols_at (start + 1 - 1) (n + 1 - 1) cs)
  hits_start = let a : start + 1 - 1 ≡ start = omega arith in let b : n + 1 - 1 ≡ n = omega arith in rw (a, b) (omega arith)

  module _ (i hits : ℕ) (inv : count_in p q (symbols_at start n cs) ≡ hits + count_in p q (symbols_at (start + i - 1) (n + 1 - i) cs)) (low : 1 ≤ i) where
    pub hits-turn : i < n → (s t v : ℕ) → s ≡ symbol_in (nth cs (start + i - 1)) → t ≡ symbol_in (nth cs (start + i)) → Tested p q s t v
        → count_in p q (symbols_at start n cs) ≡ hits + v + count_in p q (symbols_at (start + (i + 1) - 1) (n + 1 - (i + 1)) cs)
    hits-turn h s t v es et ev =
        let at : start + i - 1 + 1 ≡ start + i = omega arith in
        let next : start + (i + 1) - 1 ≡ start + i - 1 + 1 = omega arith in
        let left : n + 1 - (i + 1) ≡ n + 1 - i - 1 = omega arith in
        let e : v ≡ bit (is_pair p q (symbol_in (nth cs (start + i - 1))) (symbol_in (nth cs (start + i - 1 + 1)))) = rw (at, ← es, ← et) ev.is in
        rw (next, left) (omega (arith, count_two p q (start + i - 1) (n + 1 - i) cs (omega arith) (omega arith)))

    pub hits_end : n ≤ i → i ≤ n + 1 → hits ≡ count_in p q (symbols_at start n cs)
    hits_end h m = omega (arith, count_few p q (start + i - 1) (n + 1 - i) cs (omega arith) (omega arith))

-- THE WORDS OF A SET

module _ (es : List Entry) (k : ℕ) (h : k < length es) where
  count_rest : (p q : ℕ) → count p q (drop k es) ≡ (entry_at es k).frequency * count_in p q (entry_at es k).symbols + count p q (drop (k + 1) es)
  unfolding count
  count_rest p q = rw (drop_entry es k h)

  weight_rest : symbols_in (drop k es) ≡ (entry_at es k).frequency * length (entry_at es k).symbols + symbols_in (drop (k + 1) es)
  unfolding symbols_in
  weight_rest = rw (drop_entry es k h)

-- a word's share, as the code makes it
module _ (w : WordSet) (cs : List ℕ) (k p q sum hits f : ℕ) (r : Span) (h : k < w.count) (light : sum + symbols_in (drop k (words_in w cs)) < 2 ^ 53)
    (found : Found w k cs r) (eh : hits ≡ count_in p q (symbols_at r.start r.length cs)) (ef : f ≡ (entry_at (words_in w cs) k).frequency) where
  inside : k < length (words_in w cs)
  inside = omega (arith, corpus-length cs w.starts w.count)

  hits_are : hits ≡ count_in p q (entry_at (words_in w cs) k).symbols
  hits_are = rw found.symbols at eh

  share : f * hits ≤ (entry_at (words_in w cs) k).frequency * length (entry_at (words_in w cs) k).symbols
  share = rw (hits_are, ef) (mul-le-mul_left (entry_at (words_in w cs) k).frequency (count-length p q (entry_at (words_in w cs) k).symbols))

  pub share_fits : f * hits < 2 ^ 64
  share_fits = omega (arith, share, weight_rest (words_in w cs) k inside)

  pub sum_fits : sum + f * hits < 2 ^ 64
  sum_fits = omega (arith, share, weight_rest (words_in w cs) k inside)

  pub counted : Counted (words_in w cs) k p q sum (sum + f * hits)
  counted = record { is = rw (hits_are, ef); light = omega (arith, share, weight_rest (words_in w cs) k inside) }

-- the loop
module _ (p q : ℕ) (w : WordSet) (cs : List ℕ) where
  pub sum_start : count p q (words_in w cs) ≡ 0 + count p q (drop 0 (words_in w cs))
  sum_start = omega arith

  pub sum-turn : (k sum r : ℕ) → count p q (words_in w cs) ≡ sum + count p q (drop k (words_in w cs)) → k < w.count
      → Counted (words_in w cs) k p q sum r
      → count p q (words_in w cs) ≡ r + count p q (drop (k + 1) (words_in w cs))
  sum-turn k sum r inv h c =
      omega (arith, count_rest (words_in w cs) k (omega (arith, corpus-length cs w.starts w.count)) p q, c.is)

  pub sum_end : (k sum : ℕ) → count p q (words_in w cs) ≡ sum + count p q (drop k (words_in w cs)) → w.count ≤ k
      → sum ≡ count p q (words_in w cs)
  unfolding count
  sum_end k sum inv h =
      let l : length (words_in w cs) ≤ k = omega (arith, corpus-length cs w.starts w.count) in
      omega (arith, rw (drop_of_length-le (words_in w cs) l) at inv)
