-- The reports of a rewriting: they add up to the change of every other pair's count, and raise only pairs with the new symbol.
use mathlib.Core.Path.{◌≡◌, refl, sym, ap}
use mathlib.Core.Bool.{Bool, true, false, cond}
use mathlib.Core.List.{List, [], ◌∷◌, ◌++◌}
use mathlib.Core.Logic.{◌≢◌}
use mathlib.Core.Option.{Option, none, some}
use Prim.Native.Nat.{ℕ, ◌+◌}
use native.Mathlib.Omega.{arith}
use Rattle.rule.specs.Rewriting.{bit, is_pair, Span, one, hit, cut, src, out, hits, Report, before, after, reports_from, rewrite, rewrites, reports, link, count_in}
use Rattle.rule.specs.Sums.{raised, lowered}
use Rattle.rule.proofs.Rewriting.{pair_miss, src-cut, link_left, link_right}

-- the clauses of the reports, as equations to rewrite by
pub reports_hit : (a b x : ℕ) (v : Option ℕ) (ps : List Span)
    → reports_from a b x v (hit ∷ ps) ≡ before a x v ++ after b x (src a b ps) ++ reports_from a b x (some x) ps
unfolding reports_from
reports_hit a b x v ps = refl

pub reports_one : (a b x : ℕ) (v : Option ℕ) (s : ℕ) (ps : List Span) → reports_from a b x v (one s ∷ ps) ≡ reports_from a b x (some s) ps
unfolding reports_from
reports_one a b x v s ps = refl

module _ (p q : ℕ) where
  pub raised-append : (l m : List Report) → raised p q (l ++ m) ≡ raised p q l + raised p q m
  unfolding raised
  raised-append [] m = omega arith
  raised-append (r ∷ l) m = let h = raised-append l m in omega arith

  pub lowered-append : (l m : List Report) → lowered p q (l ++ m) ≡ lowered p q l + lowered p q m
  unfolding lowered
  lowered-append [] m = omega arith
  lowered-append (r ∷ l) m = let h = lowered-append l m in omega arith

  -- the pair of the symbol before a word, if there is one, and the word's first
  abbrev link_to : Option ℕ → List ℕ → ℕ
  link_to none l = 0
  link_to (some s) l = link p q s l

  link_to_head : (v : Option ℕ) (s : ℕ) (m n : List ℕ) → link_to v (s ∷ m) ≡ link_to v (s ∷ n)
  unfolding link
  link_to_head none s m n = refl
  link_to_head (some t) s m n = refl

  raised_before : (a x : ℕ) (v : Option ℕ) (m : List ℕ) → raised p q (before a x v) ≡ link_to v (x ∷ m)
  unfolding raised before link
  raised_before a x none m = refl
  raised_before a x (some s) m = omega arith

  lowered_before : (a x : ℕ) (v : Option ℕ) (m : List ℕ) → lowered p q (before a x v) ≡ link_to v (a ∷ m)
  unfolding lowered before link
  lowered_before a x none m = refl
  lowered_before a x (some s) m = omega arith

  raised_after : (b x : ℕ) (m : List ℕ) → raised p q (after b x m) ≡ link p q x m
  unfolding raised after link
  raised_after b x [] = refl
  raised_after b x (n ∷ m) = omega arith

  lowered_after : (b x : ℕ) (m : List ℕ) → lowered p q (after b x m) ≡ link p q b m
  unfolding lowered after link
  lowered_after b x [] = refl
  lowered_after b x (n ∷ m) = omega arith

  module _ (a b x : ℕ) where
    -- the occurrences themselves, where (p,q) is (a,b)
    own : Bool → List Span → ℕ
    own c [] = 0
    own c (one s ∷ ps) = own c ps
    own c (hit ∷ ps) = bit c + own c ps

    own_hits : (c : Bool) (ps : List Span) → own c ps ≡ cond c (hits ps) 0
    unfolding own hits
    own_hits true [] = refl
    own_hits false [] = refl
    own_hits true (one s ∷ ps) = own_hits true ps
    own_hits false (one s ∷ ps) = own_hits false ps
    own_hits true (hit ∷ ps) = let h = own_hits true ps in omega arith
    own_hits false (hit ∷ ps) = let h = own_hits false ps in omega arith

    balance_from : (v : Option ℕ) (ps : List Span)
        → link_to v (src a b ps) + count_in p q (src a b ps) + raised p q (reports_from a b x v ps)
        ≡ link_to v (out x ps) + count_in p q (out x ps) + lowered p q (reports_from a b x v ps) + own (is_pair p q a b) ps
    unfolding src out reports_from count_in own raised lowered link
    balance_from none [] = refl
    balance_from (some s) [] = refl
    balance_from v (one s ∷ ps) =
        let h = balance_from (some s) ps in
        omega (arith, link_to_head v s (src a b ps) (out x ps))
    balance_from v (hit ∷ ps) =
        let h = balance_from (some x) ps in
        simp (raised-append, lowered-append, raised_after, lowered_after, raised_before a x v (out x ps), lowered_before a x v (b ∷ src a b ps)) (omega arith)

    -- of every pair, (a,b) too, and whatever x is
    pub balance_any : (w : List ℕ)
        → count_in p q w + raised p q (reports a b x w)
        ≡ count_in p q (rewrite a b x w) + lowered p q (reports a b x w) + cond (is_pair p q a b) (rewrites a b w) 0
    unfolding reports rewrite rewrites
    balance_any w =
        let h : _ = balance_from none (cut a b w) in
        omega (arith, own_hits (is_pair p q a b) (cut a b w), ap (count_in p q) (src-cut a b w))

    -- of every other pair: "the signed reports for each pair other than (a,b) add up to its change in count"
    pub balance : (p ≡ a → q ≡ b → ⊥) → (w : List ℕ)
        → count_in p q w + raised p q (reports a b x w) ≡ count_in p q (rewrite a b x w) + lowered p q (reports a b x w)
    balance h w = let k = rw (pair_miss p q a b (λ e k. h (sym e) (sym k))) at (balance_any w) in omega arith

  -- NO REPORT RAISES A PAIR WITHOUT THE NEW SYMBOL
  module _ (a b x : ℕ) (hp : x ≢ p) (hq : x ≢ q) where
    before_none : (v : Option ℕ) → link_to v (x ∷ []) ≡ 0
    before_none none = refl
    before_none (some s) = link_right p q s x hq []

    raised_from_none : (v : Option ℕ) (ps : List Span) → raised p q (reports_from a b x v ps) ≡ 0
    unfolding reports_from raised
    raised_from_none v [] = refl
    raised_from_none v (one s ∷ ps) = raised_from_none (some s) ps
    raised_from_none v (hit ∷ ps) =
        let h = raised_from_none (some x) ps in
        simp (raised-append, raised_after, raised_before a x v []) (omega (arith, link_left p q x hp (src a b ps), before_none v))

    pub never_raised : (w : List ℕ) → raised p q (reports a b x w) ≡ 0
    unfolding reports
    never_raised w = raised_from_none none (cut a b w)
