-- Rewriting all kept words: the laws of one word, each word times its frequency.
use mathlib.Core.Path.{◌≡◌, refl, sym, ap}
use mathlib.Core.Bool.{Bool, true, false, cond}
use mathlib.Core.List.{List, [], ◌∷◌}
use mathlib.Core.Logic.{◌≢◌}
use Prim.Native.Nat.{ℕ, zero, suc, ◌+◌, ◌*◌, ◌≤◌, ◌<◌}
use native.Mathlib.Nat.{mul-zero, mul-le-mul_left}
use native.Mathlib.Omega.{arith}
use lib.Dec.{eqb}
use lib.ListN.{length}
use borrow.Author.Tests.{ne_eqb}
use Rattle.runs.specs.Parts.{nth}
use Rattle.rule.specs.Rewriting.{bit, is_pair, Span, one, hit, cut, src, out, rewrite, rewrites, reports, link, count_in}
use Rattle.rule.specs.Seeding.{Entry}
use Rattle.rule.specs.Training.{count, rewrite_all}
use Rattle.rule.specs.Sums.{raised, lowered, occurs, Under, AllUnder, symbols_in, rewrites_in, gains, losses}
use Rattle.rule.proofs.Rewriting.{pair_true, pair_miss, src-cut, length-rewrite, link_bound, never_rises, new_left, new_right, rewrites_le, gone}
use Rattle.rule.proofs.Reports.{balance_any, never_raised}

-- EACH REWRITE COSTS THE CORPUS A SYMBOL, weighted
pub symbols_rewrite : (a b x : ℕ) (es : List Entry) → symbols_in (rewrite_all a b x es) + rewrites_in a b es ≡ symbols_in es
unfolding symbols_in rewrites_in rewrite_all
symbols_rewrite a b x [] = refl
symbols_rewrite a b x (e ∷ es) =
    let h = symbols_rewrite a b x es in
    omega (arith, ap (λ (n : ℕ). e.frequency * n) (length-rewrite a b x e.symbols))

-- there are at most as many rewrites as occurrences, and at most as many occurrences as symbols
pub rewrites-count : (a b : ℕ) (es : List Entry) → rewrites_in a b es ≤ count a b es
unfolding rewrites_in count
rewrites-count a b [] = omega arith
rewrites-count a b (e ∷ es) =
    let h = rewrites-count a b es in
    omega (arith, mul-le-mul_left e.frequency (rewrites_le a b e.symbols))

pub count-length : (p q : ℕ) (l : List ℕ) → count_in p q l ≤ length l
unfolding count_in link
count-length p q [] = omega arith
count-length p q (s ∷ l) = let h = count-length p q l in omega (arith, link_bound p q s l)

pub count_symbols : (p q : ℕ) (es : List Entry) → count p q es ≤ symbols_in es
unfolding count symbols_in
count_symbols p q [] = omega arith
count_symbols p q (e ∷ es) =
    let h = count_symbols p q es in
    omega (arith, mul-le-mul_left e.frequency (count-length p q e.symbols))

-- THE REPORTS BALANCE, weighted
module _ (p q a b x : ℕ) where
  pub counts_balance_any : (es : List Entry)
      → count p q es + gains p q a b x es ≡ count p q (rewrite_all a b x es) + losses p q a b x es + cond (is_pair p q a b) (rewrites_in a b es) 0
  unfolding count gains losses rewrite_all rewrites_in
  counts_balance_any [] = go (is_pair p q a b)
    where
      go : (c : Bool) → 0 + 0 ≡ 0 + 0 + cond c 0 0
      go true = refl
      go false = refl
  counts_balance_any (e ∷ es) = go (is_pair p q a b) (balance_any p q a b x e.symbols) (counts_balance_any es)
    where
      go : (c : Bool)
          → count_in p q e.symbols + raised p q (reports a b x e.symbols)
          ≡ count_in p q (rewrite a b x e.symbols) + lowered p q (reports a b x e.symbols) + cond c (rewrites a b e.symbols) 0
          → count p q es + gains p q a b x es ≡ count p q (rewrite_all a b x es) + losses p q a b x es + cond c (rewrites_in a b es) 0
          → e.frequency * count_in p q e.symbols + count p q es + (e.frequency * raised p q (reports a b x e.symbols) + gains p q a b x es)
          ≡ e.frequency * count_in p q (rewrite a b x e.symbols) + count p q (rewrite_all a b x es)
          + (e.frequency * lowered p q (reports a b x e.symbols) + losses p q a b x es)
          + cond c (e.frequency * rewrites a b e.symbols + rewrites_in a b es) 0
      go true h k = omega (arith, ap (λ (n : ℕ). e.frequency * n) h)
      go false h k = omega (arith, ap (λ (n : ℕ). e.frequency * n) h)

  pub counts_balance : (p ≡ a → q ≡ b → ⊥) → (es : List Entry)
      → count p q es + gains p q a b x es ≡ count p q (rewrite_all a b x es) + losses p q a b x es
  counts_balance n es = let k = rw (pair_miss p q a b (λ e k. n (sym e) (sym k))) at (counts_balance_any es) in omega arith

  -- A PAIR WITHOUT THE NEW SYMBOL NEVER GAINS, weighted
  pub counts_fall : x ≢ p → x ≢ q → (es : List Entry) → count p q (rewrite_all a b x es) ≤ count p q es
  unfolding count rewrite_all
  counts_fall hp hq [] = omega arith
  counts_fall hp hq (e ∷ es) =
      let h = counts_fall hp hq es in
      omega (arith, mul-le-mul_left e.frequency (never_rises p q a b x hp hq e.symbols))

  pub no_gains : x ≢ p → x ≢ q → (es : List Entry) → gains p q a b x es ≡ 0
  unfolding gains
  no_gains hp hq [] = refl
  no_gains hp hq (e ∷ es) =
      let h = no_gains hp hq es in
      rw (never_raised p q a b x hp hq e.symbols) (omega (arith, mul-zero e.frequency))

-- THE REWRITTEN PAIR IS GONE, weighted
pub count_gone : (a b x : ℕ) → x ≢ a → x ≢ b → (es : List Entry) → count a b (rewrite_all a b x es) ≡ 0
unfolding count rewrite_all
count_gone a b x ha hb [] = refl
count_gone a b x ha hb (e ∷ es) =
    let h = count_gone a b x ha hb es in
    rw (gone a b x ha hb e.symbols) (omega (arith, mul-zero e.frequency))

-- A BOUND OF ALL SYMBOLS, at a place, and a higher one
pub under_nth : (m : ℕ) (l : List ℕ) (j : ℕ) → Under m l → j < length l → nth l j < m
unfolding Under nth
under_nth m [] j u h = absurd (omega arith)
under_nth m (s ∷ l) zero u h = u.0
under_nth m (s ∷ l) (suc j) u h = under_nth m l j u.1 (omega arith)

module _ (m n : ℕ) (h : m ≤ n) where
  under_more : (l : List ℕ) → Under m l → Under n l
  unfolding Under
  under_more [] u = tt
  under_more (s ∷ l) u = let k = u.0 in (omega arith, under_more l u.1)

  pub all_under_more : (es : List Entry) → AllUnder m es → AllUnder n es
  unfolding AllUnder
  all_under_more [] u = tt
  all_under_more (e ∷ es) u = (under_more e.symbols u.0, all_under_more es u.1)

-- NUMBERS IN USE: where every symbol is below n, n is new
pub below_fresh : (n : ℕ) (l : List ℕ) → Under n l → occurs n l ≡ 0
unfolding Under occurs
below_fresh n [] b = refl
below_fresh n (s ∷ l) b =
    let k = below_fresh n l b.1 in
    let m : eqb s n ≡ false = ne_eqb s n (λ e. let z = b.0 in omega arith) in
    rw m (omega arith)

below-out : (n a b : ℕ) (ps : List Span) → Under n (src a b ps) → Under (suc n) (out n ps)
unfolding Under src out
below-out n a b [] h = tt
below-out n a b (one s ∷ ps) h = (let z = h.0 in omega arith, below-out n a b ps h.1)
below-out n a b (hit ∷ ps) h = (omega arith, below-out n a b ps h.1.1)

pub below-rewrite : (n a b : ℕ) (w : List ℕ) → Under n w → Under (suc n) (rewrite a b n w)
unfolding rewrite
below-rewrite n a b w h = below-out n a b (cut a b w) (rw (src-cut a b w) h)

pub below_all : (n a b : ℕ) (es : List Entry) → AllUnder n es → AllUnder (suc n) (rewrite_all a b n es)
unfolding AllUnder rewrite_all
below_all n a b [] h = tt
below_all n a b (e ∷ es) h = (below-rewrite n a b e.symbols h.0, below_all n a b es h.1)

-- a pair that occurs is made of numbers in use
pub below-pair : (n p q : ℕ) (l : List ℕ) → Under n l → 1 ≤ count_in p q l → (p < n) × (q < n)
unfolding Under count_in link
below-pair n p q [] b h = absurd (omega arith)
below-pair n p q (s ∷ []) b h = absurd (omega arith)
below-pair n p q (s ∷ t ∷ l) b h = go (is_pair p q s t) refl (λ k. below-pair n p q (t ∷ l) b.1 k) h
  where
    go : (c : Bool) → is_pair p q s t ≡ c → (1 ≤ count_in p q (t ∷ l) → (p < n) × (q < n)) → 1 ≤ bit c + count_in p q (t ∷ l) → (p < n) × (q < n)
    go true e f k =
        let m = pair_true p q s t e in
        let z = b.0 in
        let z' = b.1.0 in
        omega arith
    go false e f k = f (omega arith)

pub counted_below : (n p q : ℕ) (es : List Entry) → AllUnder n es → 1 ≤ count p q es → (p < n) × (q < n)
unfolding count AllUnder
counted_below n p q [] b h = absurd (omega arith)
counted_below n p q (e ∷ es) b h = go (count_in p q e.symbols) refl (λ k. counted_below n p q es b.1 k) h
  where
    go : (c : ℕ) → count_in p q e.symbols ≡ c → (1 ≤ count p q es → (p < n) × (q < n)) → 1 ≤ e.frequency * c + count p q es → (p < n) × (q < n)
    go zero z f k = f (omega (arith, mul-zero e.frequency))
    go (suc c) z f k = below-pair n p q e.symbols b.0 (omega arith)

-- A PAIR WITH THE NEW SYMBOL OCCURS AT MOST AS OFTEN AS THERE WERE REWRITES, weighted
module _ (a b x : ℕ) where
  pub counts_new_left : (q : ℕ) (es : List Entry) → AllUnder x es → count x q (rewrite_all a b x es) ≤ rewrites_in a b es
  unfolding count rewrite_all rewrites_in AllUnder
  counts_new_left q [] h = omega arith
  counts_new_left q (e ∷ es) h =
      let k = counts_new_left q es h.1 in
      omega (arith, mul-le-mul_left e.frequency (new_left a b x e.symbols (below_fresh x e.symbols h.0) q))

  pub counts_new_right : (p : ℕ) (es : List Entry) → AllUnder x es → count p x (rewrite_all a b x es) ≤ rewrites_in a b es
  unfolding count rewrite_all rewrites_in AllUnder
  counts_new_right p [] h = omega arith
  counts_new_right p (e ∷ es) h =
      let k = counts_new_right p es h.1 in
      omega (arith, mul-le-mul_left e.frequency (new_right a b x e.symbols (below_fresh x e.symbols h.0) p))
