-- How many entries are taken: each costs the potential at least 1, and the seeds have at most five for each symbol.
use mathlib.Core.Path.{◌≡◌, refl, ◌∙◌}
use mathlib.Core.Bool.{Bool, true, false, cond, ◌||◌}
use mathlib.Core.List.{List, [], ◌∷◌, ◌++◌}
use Prim.Native.Nat.{ℕ, ◌+◌, ◌*◌, ◌≤◌, ◌<◌}
use native.Mathlib.Omega.{arith}
use lib.Dec.{eqb}
use lib.ListN.{length, length-append}
use borrow.Author.Tests.{ne_eqb}
use Rattle.rule.specs.Table.{Task}
use Rattle.rule.specs.Seeding.{Entry}
use Rattle.rule.specs.Rewriting.{bit, rewrite}
use Rattle.rule.specs.Training.{count, rewrite_all, Choice}
use Rattle.rule.specs.Sums.{occurs, AllUnder, in_use}
use Rattle.rule.proofs.Rewriting.{length-rewrite, new_occurs}
use Rattle.rule.proofs.Counts.{below_fresh}
use Rattle.lazy.specs.Lazy.{insert, total, Pair, pair, live, spots, all_spots, enter_all, holding, seeds, gained, words_with}
use Rattle.lazy.specs.Sums.{all_rewrites, stale, potential}
use Rattle.lazy.specs.Invariant.{Inv}
use Rattle.lazy.proofs.Queue.{total-insert, length-insert, enter_all-keeps, length-enter_all}
use Rattle.lazy.proofs.Stale.{stale-live, stale_with}

-- AN ENTRY DROPPED, and one corrected
pub potential-drop : (es : List Entry) (e : Choice) (qu : List Choice) → potential es qu < potential es (e ∷ qu)
unfolding potential total
potential-drop es e qu = omega arith

pub potential_again : (es : List Entry) (e : Choice) (qu : List Choice) → (count e.left e.right es ≡ e.times → ⊥)
    → potential es (insert (live es e.left e.right) qu) < potential es (e ∷ qu)
unfolding potential total stale
potential_again es e qu n =
    let k = total-insert (stale es) (live es e.left e.right) qu in
    let m = ne_eqb (count e.left e.right es) e.times n in
    rw m (omega (arith, length-insert (live es e.left e.right) qu, stale-live es e.left e.right))

-- A REWRITE COSTS A SYMBOL
pub units-rewrite : (a b x : ℕ) (es : List Entry) → in_use (rewrite_all a b x es) + all_rewrites a b es ≡ in_use es
unfolding in_use rewrite_all all_rewrites
units-rewrite a b x [] = refl
units-rewrite a b x (e ∷ es) = let h = units-rewrite a b x es in omega (arith, length-rewrite a b x e.symbols)

-- AND ENTERS TWO PAIRS at most: those of the new symbol with its neighbours
either_bits : (a b : Bool) → bit (a || b) ≤ bit a + bit b
either_bits true b = omega arith
either_bits false b = omega arith

holding_cons : (x : ℕ) (c : Pair) (cs : List Pair) → length (holding x (c ∷ cs)) ≤ bit (eqb c.left x) + bit (eqb c.right x) + length (holding x cs)
unfolding holding
holding_cons x c cs = let h = either_bits (eqb c.left x) (eqb c.right x) in go (eqb c.left x || eqb c.right x) h
  where
    go : (b : Bool) → bit b ≤ bit (eqb c.left x) + bit (eqb c.right x)
        → length (cond b (c ∷ holding x cs) (holding x cs)) ≤ bit (eqb c.left x) + bit (eqb c.right x) + length (holding x cs)
    go true k = omega arith
    go false k = omega arith

holding-append : (x : ℕ) (cs ds : List Pair) → length (holding x (cs ++ ds)) ≡ length (holding x cs) + length (holding x ds)
unfolding holding
holding-append x [] ds = omega arith
holding-append x (c ∷ cs) ds = go (eqb c.left x || eqb c.right x) (holding-append x cs ds)
  where
    go : (b : Bool) → length (holding x (cs ++ ds)) ≡ length (holding x cs) + length (holding x ds)
        → length (cond b (c ∷ holding x (cs ++ ds)) (holding x (cs ++ ds))) ≡ length (cond b (c ∷ holding x cs) (holding x cs)) + length (holding x ds)
    go true h = omega arith
    go false h = h

holding_word : (x s : ℕ) (l : List ℕ) → length (holding x (spots (s ∷ l))) ≤ bit (eqb s x) + 2 * occurs x l
unfolding spots occurs holding
holding_word x s [] = omega arith
holding_word x s (t ∷ l) = let h = holding_word x t l in omega (arith, holding_cons x (pair s t) (spots (t ∷ l)))

holding_le : (x : ℕ) (l : List ℕ) → length (holding x (spots l)) ≤ 2 * occurs x l
unfolding spots occurs holding
holding_le x [] = omega arith
holding_le x (s ∷ l) = omega (arith, holding_word x s l)

holding_all : (a b x : ℕ) (es : List Entry) → AllUnder x es → length (holding x (all_spots (rewrite_all a b x es))) ≤ 2 * all_rewrites a b es
unfolding all_spots rewrite_all all_rewrites AllUnder holding
holding_all a b x [] h = omega arith
holding_all a b x (e ∷ es) h =
    let k = holding_all a b x es h.1 in
    let f = below_fresh x e.symbols h.0 in
    rw (holding-append x (spots (rewrite a b x e.symbols)) (all_spots (rewrite_all a b x es)))
    (omega (arith, holding_le x (rewrite a b x e.symbols), new_occurs a b x e.symbols f))

-- what is entered is not stale
stale-enter_all : (es : List Entry) (cs : List Pair) (qu : List Choice) → total (stale es) (enter_all es cs qu) ≡ total (stale es) qu
stale-enter_all es cs qu = enter_all-keeps es (λ l. total (stale es) l ≡ total (stale es) qu) cs
    (λ c m l z k. total-insert (stale es) (live es c.left c.right) l ∙ (let y = stale-live es c.left c.right in omega arith)) qu refl

-- A MERGE
module _ (t : Task) (ps : List (List ℕ)) (es : List Entry) (e : Choice) (qu : List Choice) (i : Inv t ps es (e ∷ qu)) where
  pub length-gained : length (gained (length ps) (words_with ps es e) qu) ≤ length qu + 2 * all_rewrites e.left e.right es
  unfolding gained
  length-gained =
      omega (
        arith,
        length-enter_all (words_with ps es e) (holding (length ps) (all_spots (words_with ps es e))) qu,
        holding_all e.left e.right (length ps) es i.sound,
      )

  gained_stale : total (stale (words_with ps es e)) (gained (length ps) (words_with ps es e) qu) ≡ total (stale (words_with ps es e)) qu
  unfolding gained
  gained_stale = stale-enter_all (words_with ps es e) (holding (length ps) (all_spots (words_with ps es e))) qu

  pub potential_join : potential (words_with ps es e) (gained (length ps) (words_with ps es e) qu) < potential es (e ∷ qu)
  unfolding potential total
  potential_join = omega (arith, stale_with t ps es e qu i, length-gained, gained_stale, units-rewrite e.left e.right (length ps) es)

-- AT THE START
spot-units : (s : ℕ) (l : List ℕ) → length (spots (s ∷ l)) ≤ length l
unfolding spots
spot-units s [] = omega arith
spot-units s (t ∷ l) = let h = spot-units t l in omega arith

pub spots-units : (es : List Entry) → length (all_spots es) ≤ in_use es
unfolding all_spots in_use spots
spots-units [] = omega arith
spots-units (e ∷ es) = let h = spots-units es in omega (arith, length-append (spots e.symbols) (all_spots es), go e.symbols)
  where
    go : (l : List ℕ) → length (spots l) ≤ length l
    go [] = omega arith
    go (s ∷ l) = omega (arith, spot-units s l)

pub length-seeds : (es : List Entry) → length (seeds es) ≤ in_use es
unfolding seeds
length-seeds es = omega (arith, length-enter_all es (all_spots es) [], spots-units es)

seeds-stale : (es : List Entry) → total (stale es) (seeds es) ≡ 0
unfolding seeds total
seeds-stale es = stale-enter_all es (all_spots es) []

pub potential-seeds : (es : List Entry) → potential es (seeds es) ≤ 5 * in_use es
unfolding potential
potential-seeds es = omega (arith, length-seeds es, seeds-stale es)

-- THE QUEUE IS NEVER LONGER than three times the symbols: its length and twice the symbols together never rise
pub room_seeds : (es : List Entry) → length (seeds es) + 2 * in_use es ≤ 3 * in_use es
room_seeds es = omega (arith, length-seeds es)

pub room_join : (t : Task) (ps : List (List ℕ)) (es : List Entry) (e : Choice) (qu : List Choice) → Inv t ps es (e ∷ qu)
    → length (gained (length ps) (words_with ps es e) qu) + 2 * in_use (words_with ps es e) ≤ length qu + 2 * in_use es
room_join t ps es e qu i = omega (arith, length-gained t ps es e qu i, units-rewrite e.left e.right (length ps) es)
