-- Rewriting one word: each rewrite costs a symbol, the pair is gone, and what another pair can gain.
use mathlib.Core.Path.{◌≡◌, refl, sym, ap, ◌∙◌}
use mathlib.Core.Bool.{Bool, true, false, cond, ◌&&◌, and-eq-true_iff, false≢true}
use mathlib.Core.List.{List, [], ◌∷◌}
use mathlib.Core.Logic.{◌≢◌}
use Prim.Native.Nat.{ℕ, ◌+◌, ◌≤◌}
use native.Mathlib.Omega.{arith}
use lib.Dec.{eqb}
use lib.ListN.{length}
use borrow.Author.Tests.{eqb-true, eq-eqb}
use Rattle.rule.specs.Rewriting.{bit, is_pair, Span, one, hit, cut, src, out, hits, rewrite, rewrites, link, count_in}
use Rattle.rule.specs.Sums.{occurs}

-- what the test of a pair tells, and the other way
pub pair_true : (p q s t : ℕ) → is_pair p q s t ≡ true → (s ≡ p) × (t ≡ q)
pair_true p q s t e = let b = (and-eq-true_iff (eqb s p) (eqb t q)).0 e in (eqb-true s p b.0, eqb-true t q b.1)

pub pair_hit : (p q s t : ℕ) → s ≡ p → t ≡ q → is_pair p q s t ≡ true
pair_hit p q s t hs ht = simp (eq-eqb s p hs, eq-eqb t q ht)

pub pair_false : (p q s t : ℕ) → is_pair p q s t ≡ false → s ≡ p → t ≡ q → ⊥
pair_false p q s t e hs ht = false≢true (sym e ∙ pair_hit p q s t hs ht)

pub pair_miss : (p q s t : ℕ) → (s ≡ p → t ≡ q → ⊥) → is_pair p q s t ≡ false
pair_miss p q s t h = go (is_pair p q s t) refl
  where
    go : (c : Bool) → is_pair p q s t ≡ c → c ≡ false
    go false e = refl
    go true e = absurd (h (pair_true p q s t e).0 (pair_true p q s t e).1)

-- the cut as a relation: what a proof goes by
pub data Cut (a b : ℕ) : List ℕ → List Span → Type 0 where
  done : Cut a b [] []
  last : {s : ℕ} → Cut a b (s ∷ []) (one s ∷ [])
  take2 : {r : List ℕ} {ps : List Span} → Cut a b r ps → Cut a b (a ∷ b ∷ r) (hit ∷ ps)
  keep : {s t : ℕ} {r : List ℕ} {ps : List Span} → (s ≡ a → t ≡ b → ⊥) → Cut a b (t ∷ r) ps → Cut a b (s ∷ t ∷ r) (one s ∷ ps)

pub cut_view : (a b : ℕ) (w : List ℕ) → Cut a b w (cut a b w)
unfolding cut
cut_view a b [] = done
cut_view a b (s ∷ []) = last
cut_view a b (s ∷ t ∷ r) = go (is_pair a b s t) refl (cut_view a b r) (cut_view a b (t ∷ r))
  where
    go : (c : Bool) → is_pair a b s t ≡ c → Cut a b r (cut a b r) → Cut a b (t ∷ r) (cut a b (t ∷ r))
        → Cut a b (s ∷ t ∷ r) (cond c (hit ∷ cut a b r) (one s ∷ cut a b (t ∷ r)))
    go true e h k = rw ((pair_true a b s t e).0, (pair_true a b s t e).1) (take2 h)
    go false e h k = keep (pair_false a b s t e) k

-- the spans of the cut are the word
cut-src : (a b : ℕ) {w : List ℕ} {ps : List Span} → Cut a b w ps → src a b ps ≡ w
unfolding src
cut-src a b done = refl
cut-src a b last = refl
cut-src a b (take2 v) = rw (cut-src a b v)
cut-src a b (keep n v) = rw (cut-src a b v)

pub src-cut : (a b : ℕ) (w : List ℕ) → src a b (cut a b w) ≡ w
src-cut a b w = cut-src a b (cut_view a b w)

-- EACH REWRITE COSTS THE WORD ONE SYMBOL
length-out : (a b x : ℕ) (ps : List Span) → length (out x ps) + hits ps ≡ length (src a b ps)
unfolding out hits src
length-out a b x [] = refl
length-out a b x (one s ∷ ps) = let h = length-out a b x ps in omega arith
length-out a b x (hit ∷ ps) = let h = length-out a b x ps in omega arith

pub length-rewrite : (a b x : ℕ) (w : List ℕ) → length (rewrite a b x w) + rewrites a b w ≡ length w
unfolding rewrite rewrites
length-rewrite a b x w = length-out a b x (cut a b w) ∙ ap length (src-cut a b w)

-- A PAIR AND ITS PLACES
module _ (p q : ℕ) where
  -- a symbol that is not p begins no pair (p,q), and one that is not q ends none
  pub link_left : (s : ℕ) → s ≢ p → (l : List ℕ) → link p q s l ≡ 0
  unfolding link
  link_left s h [] = refl
  link_left s h (t ∷ l) = ap bit (pair_miss p q s t (λ e _. h e))

  pub link_right : (s t : ℕ) → t ≢ q → (l : List ℕ) → link p q s (t ∷ l) ≡ 0
  unfolding link
  link_right s t h l = ap bit (pair_miss p q s t (λ _ e. h e))

  pub link_bound : (s : ℕ) (l : List ℕ) → link p q s l ≤ 1
  unfolding link
  link_bound s [] = omega arith
  link_bound s (t ∷ l) = bit_bound (is_pair p q s t)
    where
      bit_bound : (c : Bool) → bit c ≤ 1
      bit_bound true = omega arith
      bit_bound false = omega arith

  -- A PAIR WITHOUT THE NEW SYMBOL NEVER GAINS
  module _ (a b x : ℕ) (hp : x ≢ p) (hq : x ≢ q) where
    link_falls : (s : ℕ) (ps : List Span) → link p q s (out x ps) ≤ link p q s (src a b ps)
    unfolding out src link
    link_falls s [] = omega arith
    link_falls s (one t ∷ ps) = omega arith
    link_falls s (hit ∷ ps) = omega (arith, link_right s x hq (out x ps))

    count_falls : (ps : List Span) → count_in p q (out x ps) ≤ count_in p q (src a b ps)
    unfolding out src count_in link
    count_falls [] = omega arith
    count_falls (one s ∷ ps) = let h = count_falls ps in omega (arith, link_falls s ps)
    count_falls (hit ∷ ps) = let h = count_falls ps in omega (arith, link_left x hp (out x ps))

    pub never_rises : (w : List ℕ) → count_in p q (rewrite a b x w) ≤ count_in p q w
    unfolding rewrite
    never_rises w = rw (src-cut a b w) at (count_falls (cut a b w))

-- A PAIR WITH THE NEW SYMBOL OCCURS AT MOST AS OFTEN AS THERE WERE REWRITES, where that symbol is new
-- a pair stands at most as often as each of its symbols
both_le_left : (c d : Bool) → bit (c && d) ≤ bit c
both_le_left true true = omega arith
both_le_left true false = omega arith
both_le_left false d = omega arith

both_le_right : (c d : Bool) → bit (c && d) ≤ bit d
both_le_right true d = omega arith
both_le_right false d = omega arith

pub count_left : (p q : ℕ) (l : List ℕ) → count_in p q l ≤ occurs p l
unfolding count_in occurs link
count_left p q [] = omega arith
count_left p q (s ∷ []) = omega arith
count_left p q (s ∷ t ∷ l) = let h = count_left p q (t ∷ l) in omega (arith, both_le_left (eqb s p) (eqb t q))

-- (the first symbol of a word ends no pair of it)
count-right_of : (p q : ℕ) (s : ℕ) (l : List ℕ) → count_in p q (s ∷ l) ≤ occurs q l
unfolding count_in occurs link
count-right_of p q s [] = omega arith
count-right_of p q s (t ∷ l) = let h = count-right_of p q t l in omega (arith, both_le_right (eqb s p) (eqb t q))

pub count_right : (p q : ℕ) (l : List ℕ) → count_in p q l ≤ occurs q l
unfolding count_in occurs link
count_right p q [] = omega arith
count_right p q (s ∷ l) = omega (arith, count-right_of p q s l)

occurs-out : (a b x : ℕ) (ps : List Span) → occurs x (out x ps) ≤ occurs x (src a b ps) + hits ps
unfolding out src hits occurs
occurs-out a b x [] = omega arith
occurs-out a b x (one s ∷ ps) = let h = occurs-out a b x ps in omega arith
occurs-out a b x (hit ∷ ps) = let h = occurs-out a b x ps in omega (arith, ap bit (eq-eqb x x refl))

module _ (a b x : ℕ) (w : List ℕ) (fresh : occurs x w ≡ 0) where
  pub new_occurs : occurs x (rewrite a b x w) ≤ rewrites a b w
  unfolding rewrite rewrites
  new_occurs = omega (arith, occurs-out a b x (cut a b w), ap (occurs x) (src-cut a b w))

  pub new_left : (q : ℕ) → count_in x q (rewrite a b x w) ≤ rewrites a b w
  new_left q = omega (arith, new_occurs, count_left x q (rewrite a b x w))

  pub new_right : (p : ℕ) → count_in p x (rewrite a b x w) ≤ rewrites a b w
  new_right p = omega (arith, new_occurs, count_right p x (rewrite a b x w))

-- each rewrite is an occurrence
hits_le : (a b : ℕ) (ps : List Span) → hits ps ≤ count_in a b (src a b ps)
unfolding hits src count_in link
hits_le a b [] = omega arith
hits_le a b (one s ∷ ps) = let h = hits_le a b ps in omega arith
hits_le a b (hit ∷ ps) = let h = hits_le a b ps in omega (arith, ap bit (pair_hit a b a b refl refl))

pub rewrites_le : (a b : ℕ) (w : List ℕ) → rewrites a b w ≤ count_in a b w
unfolding rewrites
rewrites_le a b w = rw (src-cut a b w) at (hits_le a b (cut a b w))

-- A WORD THAT DOES NOT HOLD THE PAIR stays as it is; one that holds it loses a symbol
cut_none : (a b : ℕ) (w : List ℕ) → count_in a b w ≡ 0 → hits (cut a b w) ≡ 0
unfolding count_in cut hits link
cut_none a b [] h = refl
cut_none a b (s ∷ []) h = refl
cut_none a b (s ∷ t ∷ r) h = go (is_pair a b s t) (cut_none a b (t ∷ r)) h
  where
    go : (c : Bool) → (count_in a b (t ∷ r) ≡ 0 → hits (cut a b (t ∷ r)) ≡ 0) → bit c + count_in a b (t ∷ r) ≡ 0 → hits (cond c (hit ∷ cut a b r) (one s ∷ cut a b (t ∷ r))) ≡ 0
    go true f k = absurd (omega arith)
    go false f k = f (omega arith)

out_none : (a b x : ℕ) (ps : List Span) → hits ps ≡ 0 → out x ps ≡ src a b ps
unfolding out src hits
out_none a b x [] h = refl
out_none a b x (one s ∷ ps) h = ap (λ (l : List ℕ). s ∷ l) (out_none a b x ps h)
out_none a b x (hit ∷ ps) h = absurd (omega arith)

pub rewrite_none : (a b x : ℕ) (w : List ℕ) → count_in a b w ≡ 0 → rewrite a b x w ≡ w
unfolding rewrite
rewrite_none a b x w h = out_none a b x (cut a b w) (cut_none a b w h) ∙ src-cut a b w

pub rewrites_some : (a b : ℕ) (w : List ℕ) → 1 ≤ count_in a b w → 1 ≤ rewrites a b w
unfolding count_in cut hits link rewrites
rewrites_some a b [] h = absurd (omega arith)
rewrites_some a b (s ∷ []) h = absurd (omega arith)
rewrites_some a b (s ∷ t ∷ r) h = go (is_pair a b s t) (rewrites_some a b (t ∷ r)) h
  where
    go : (c : Bool) → (1 ≤ count_in a b (t ∷ r) → 1 ≤ hits (cut a b (t ∷ r))) → 1 ≤ bit c + count_in a b (t ∷ r)
        → 1 ≤ hits (cond c (hit ∷ cut a b r) (one s ∷ cut a b (t ∷ r)))
    go true f k = omega arith
    go false f k = f (omega arith)

-- THE REWRITTEN WORD HOLDS THE PAIR NO MORE, where x is neither a nor b
module _ (a b x : ℕ) (ha : x ≢ a) (hb : x ≢ b) where
  first : {s t : ℕ} {r : List ℕ} {ps : List Span} → (s ≡ a → t ≡ b → ⊥) → Cut a b (t ∷ r) ps → link a b s (out x ps) ≡ 0
  unfolding out link
  first {s} n last = ap bit (pair_miss a b s _ n)
  first {s} n (take2 {ps = ps} v) = link_right a b s x hb (out x ps)
  first {s} n (keep m v) = ap bit (pair_miss a b s _ n)

  none_left : {w : List ℕ} {ps : List Span} → Cut a b w ps → count_in a b (out x ps) ≡ 0
  unfolding out count_in link
  none_left done = refl
  none_left last = refl
  none_left (take2 {ps = ps} v) = let h = none_left v in omega (arith, link_left a b x ha (out x ps))
  none_left (keep n v) = let h = none_left v in omega (arith, first n v)

  pub gone : (w : List ℕ) → count_in a b (rewrite a b x w) ≡ 0
  unfolding rewrite
  gone w = none_left (cut_view a b w)

-- and where it is one of them, the pair can stay: 1 2 2 with (1,2) to 1, and 1 1 2 with (1,2) to 2
pub stays_left : count_in 1 2 (rewrite 1 2 1 (1 ∷ 2 ∷ 2 ∷ [])) ≡ 1
unfolding rewrite cut out count_in link
stays_left = refl

pub stays_right : count_in 1 2 (rewrite 1 2 2 (1 ∷ 1 ∷ 2 ∷ [])) ≡ 1
unfolding rewrite cut out count_in link
stays_right = refl
