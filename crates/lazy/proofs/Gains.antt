-- Which pairs a merge enters: those that a report raises and that occur after it. And a pair dropped for good gets no entry again.
use mathlib.Core.Path.{◌≡◌, refl, sym, ap, ◌∙◌}
use mathlib.Core.Bool.{Bool, true, false, cond, ◌||◌, false≢true}
use mathlib.Core.List.{List, [], ◌∷◌, ◌++◌}
use mathlib.Core.Logic.{◌≢◌}
use Prim.Native.Nat.{ℕ, zero, suc, ◌+◌, ◌*◌, ◌≤◌, ◌<◌}
use native.Mathlib.Nat.{mul-zero}
use native.Mathlib.Omega.{arith}
use lib.Dec.{eqb}
use borrow.Author.Tests.{eqb-false, ne_eqb}
use Rattle.rule.specs.Seeding.{Entry}
use Rattle.rule.specs.Rewriting.{bit, rewrite, reports, count_in}
use Rattle.rule.specs.Training.{count, rewrite_all, Choice}
use Rattle.rule.specs.Sums.{raised, Under, AllUnder}
use Rattle.rule.proofs.Rewriting.{pair_miss}
use Rattle.rule.proofs.Reports.{raised-append, balance, never_raised}
use Rattle.rule.proofs.Counts.{below-pair}
use Rattle.lazy.specs.Lazy.{entries, Pair, pair, live, all_spots, holding, gained}
use Rattle.lazy.specs.Sums.{all_reports}
use Rattle.lazy.proofs.Spots.{In, here, there, counted_in, holding_in}
use Rattle.lazy.proofs.Queue.{entries-insert, is_of-live, enter_all-keeps}

-- no report raises a pair without the new symbol
raised_none : (p q x : ℕ) → x ≢ p → x ≢ q → (a b : ℕ) (es : List Entry) → raised p q (all_reports a b x es) ≡ 0
unfolding all_reports raised
raised_none p q x hp hq a b [] = refl
raised_none p q x hp hq a b (e ∷ es) =
    let h = raised_none p q x hp hq a b es in
    omega (arith, raised-append p q (reports a b x e.symbols) (all_reports a b x es), never_raised p q a b x hp hq e.symbols)

either_yes : (x p q : ℕ) → (x ≢ p → x ≢ q → ⊥) → (eqb p x || eqb q x) ≡ true
either_yes x p q f = go (eqb p x) (eqb q x) refl refl
  where
    go : (a b : Bool) → eqb p x ≡ a → eqb q x ≡ b → (a || b) ≡ true
    go true b h k = refl
    go false true h k = refl
    go false false h k = absurd (f (λ e. eqb-false p x h (sym e)) (λ e. eqb-false q x k (sym e)))

either_not : (x p q : ℕ) → (eqb p x || eqb q x) ≡ true → p < x → q < x → ⊥
either_not x p q e h k =
    let a = ne_eqb p x (λ z. omega arith) in
    let b = ne_eqb q x (λ z. omega arith) in
    false≢true (rw (a, b) at e)

-- A PAIR THAT A REPORT RAISED, and that occurs after the merge, is entered
pub raised_entered : (a b x : ℕ) (es : List Entry) (p q : ℕ) → 1 ≤ raised p q (all_reports a b x es) → 1 ≤ count p q (rewrite_all a b x es)
    → In (pair p q) (holding x (all_spots (rewrite_all a b x es)))
raised_entered a b x es p q r c =
    holding_in x p q (either_yes x p q (λ hp hq. let z = raised_none p q x hp hq a b es in omega arith)) (counted_in p q (rewrite_all a b x es) c)

-- the pairs entered hold the symbol
holds_it : {c : Pair} (d : Pair) {hs : List Pair} (x : ℕ) (b : Bool) → (eqb d.left x || eqb d.right x) ≡ b
    → (In c hs → (eqb c.left x || eqb c.right x) ≡ true) → In c (cond b (d ∷ hs) hs) → (eqb c.left x || eqb c.right x) ≡ true
holds_it d x true e f here = e
holds_it d x true e f (there m) = f m
holds_it d x false e f m = f m

pub holding_either : (x : ℕ) (c : Pair) (cs : List Pair) → In c (holding x cs) → (eqb c.left x || eqb c.right x) ≡ true
unfolding holding
holding_either x c [] h = elim h [ ]
holding_either x c (d ∷ cs) h = holds_it d x (eqb d.left x || eqb d.right x) refl (holding_either x c cs) h

-- AND ONLY SUCH PAIRS ARE ENTERED: one that holds the new symbol and occurs after the merge was raised
module _ (a b x p q : ℕ) (ha : a < x) (hb : b < x) (e : (eqb p x || eqb q x) ≡ true) where
  apart : p ≡ a → q ≡ b → ⊥
  apart h k = either_not x p q e (omega arith) (omega arith)

  word_raised : (w : List ℕ) → Under x w → 1 ≤ count_in p q (rewrite a b x w) → 1 ≤ raised p q (reports a b x w)
  word_raised w h m = go (count_in p q w) refl
    where
      go : (n : ℕ) → count_in p q w ≡ n → 1 ≤ raised p q (reports a b x w)
      go zero z = omega (arith, balance p q a b x apart w)
      go (suc n) z = let y = below-pair x p q w h (omega arith) in absurd (either_not x p q e y.0 y.1)

  pub entered_raised : (es : List Entry) → AllUnder x es → 1 ≤ count p q (rewrite_all a b x es) → 1 ≤ raised p q (all_reports a b x es)
  unfolding AllUnder rewrite_all count all_reports
  entered_raised [] h m = absurd (omega arith)
  entered_raised (f ∷ es) h m = go (count_in p q (rewrite a b x f.symbols)) refl (entered_raised es h.1) m
    where
      go : (n : ℕ) → count_in p q (rewrite a b x f.symbols) ≡ n → (1 ≤ count p q (rewrite_all a b x es) → 1 ≤ raised p q (all_reports a b x es))
          → 1 ≤ f.frequency * n + count p q (rewrite_all a b x es) → 1 ≤ raised p q (reports a b x f.symbols ++ all_reports a b x es)
      go zero z r k = omega (arith, raised-append p q (reports a b x f.symbols) (all_reports a b x es), r (omega (arith, mul-zero f.frequency)))
      go (suc n) z r k = omega (arith, raised-append p q (reports a b x f.symbols) (all_reports a b x es), word_raised f.symbols h.0 (omega arith))

-- A PAIR OF OLD SYMBOLS GETS NO ENTRY: one that was dropped for good stays away
pub dropped_stays : (x : ℕ) (es : List Entry) (qu : List Choice) (p q : ℕ) → p < x → q < x → entries p q (gained x es qu) ≡ entries p q qu
unfolding gained
dropped_stays x es qu p q hp hq =
    enter_all-keeps es (λ l. entries p q l ≡ entries p q qu) (holding x (all_spots es))
    (λ c m l z k.
    let y = holding_either x c (all_spots es) m in
    let n = pair_miss p q c.left c.right (λ a b. either_not x c.left c.right y (omega arith) (omega arith)) in
    entries-insert p q (live es c.left c.right) l ∙ (let j = is_of-live p q es c.left c.right ∙ ap bit n in omega arith))
    qu refl
