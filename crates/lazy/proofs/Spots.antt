-- The pairs at the adjacent positions: a pair that occurs is among them, and they are made of numbers in use.
use mathlib.Core.Path.{◌≡◌, refl}
use mathlib.Core.Bool.{Bool, true, false, cond, ◌||◌}
use mathlib.Core.List.{List, [], ◌∷◌, ◌++◌}
use Prim.Native.Nat.{ℕ, zero, suc, ◌+◌, ◌*◌, ◌≤◌, ◌<◌}
use native.Mathlib.Nat.{mul-zero}
use native.Mathlib.Omega.{arith}
use lib.Dec.{eqb}
use Rattle.rule.specs.Seeding.{Entry}
use Rattle.rule.specs.Rewriting.{bit, is_pair, link, count_in}
use Rattle.rule.specs.Training.{count}
use Rattle.rule.specs.Sums.{Under, AllUnder}
use Rattle.rule.proofs.Rewriting.{pair_true}
use Rattle.lazy.specs.Lazy.{Pair, pair, spots, all_spots, holding}

-- membership
pub data In (c : Pair) : List Pair → Type 0 where
  here : {cs : List Pair} → In c (c ∷ cs)
  there : {d : Pair} {cs : List Pair} → In c cs → In c (d ∷ cs)

in_left : {c : Pair} {cs : List Pair} (ds : List Pair) → In c cs → In c (cs ++ ds)
in_left ds here = here
in_left ds (there h) = there (in_left ds h)

in_right : {c : Pair} (cs : List Pair) {ds : List Pair} → In c ds → In c (cs ++ ds)
in_right [] h = h
in_right (d ∷ cs) h = there (in_right cs h)

pub in_cases : {A : Type 0} {c : Pair} (cs : List Pair) {ds : List Pair} → In c (cs ++ ds) → (In c cs → A) → (In c ds → A) → A
in_cases [] h f g = g h
in_cases (d ∷ cs) here f g = f here
in_cases (d ∷ cs) (there h) f g = in_cases cs h (λ k. f (there k)) g

-- A PAIR THAT OCCURS STANDS AT A POSITION
count_in_lem : (p q : ℕ) (l : List ℕ) → 1 ≤ count_in p q l → In (pair p q) (spots l)
unfolding count_in link spots
count_in_lem p q [] h = absurd (omega arith)
count_in_lem p q (s ∷ []) h = absurd (omega arith)
count_in_lem p q (s ∷ t ∷ r) h = go (is_pair p q s t) refl (λ k. there (count_in_lem p q (t ∷ r) k)) h
  where
    go : (b : Bool) → is_pair p q s t ≡ b → (1 ≤ count_in p q (t ∷ r) → In (pair p q) (pair s t ∷ spots (t ∷ r)))
        → 1 ≤ bit b + count_in p q (t ∷ r) → In (pair p q) (pair s t ∷ spots (t ∷ r))
    go true e f k = let h = pair_true p q s t e in rw (h.0, h.1) here
    go false e f k = f (omega arith)

pub counted_in : (p q : ℕ) (es : List Entry) → 1 ≤ count p q es → In (pair p q) (all_spots es)
unfolding count all_spots
counted_in p q [] h = absurd (omega arith)
counted_in p q (e ∷ es) h = go (count_in p q e.symbols) refl (λ k. counted_in p q es k) h
  where
    go : (c : ℕ) → count_in p q e.symbols ≡ c → (1 ≤ count p q es → In (pair p q) (all_spots es))
        → 1 ≤ e.frequency * c + count p q es → In (pair p q) (spots e.symbols ++ all_spots es)
    go zero z f k = in_right (spots e.symbols) (f (omega (arith, mul-zero e.frequency)))
    go (suc c) z f k = in_left (all_spots es) (count_in_lem p q e.symbols (omega arith))

-- POSITIONS HOLD NUMBERS IN USE
spot-below : (n : ℕ) (l : List ℕ) → Under n l → (c : Pair) → In c (spots l) → (c.left < n) × (c.right < n)
unfolding spots Under
spot-below n [] b c h = elim h [ ]
spot-below n (s ∷ []) b c h = elim h [ ]
spot-below n (s ∷ t ∷ l) b c here = (b.0, b.1.0)
spot-below n (s ∷ t ∷ l) b c (there h) = spot-below n (t ∷ l) b.1 c h

pub spots-below : (n : ℕ) (es : List Entry) → AllUnder n es → (c : Pair) → In c (all_spots es) → (c.left < n) × (c.right < n)
unfolding all_spots AllUnder
spots-below n [] b c h = elim h [ ]
spots-below n (e ∷ es) b c h = in_cases (spots e.symbols) h (spot-below n e.symbols b.0 c) (spots-below n es b.1 c)

-- THE PAIRS THAT HOLD A SYMBOL are those of the list that hold it
keep_in : {c d : Pair} {hs cs : List Pair} (b : Bool) → (In c hs → In c cs) → In c (cond b (d ∷ hs) hs) → In c (d ∷ cs)
keep_in true f here = here
keep_in true f (there k) = there (f k)
keep_in false f k = there (f k)

pub in_holding : (x : ℕ) (c : Pair) (cs : List Pair) → In c (holding x cs) → In c cs
unfolding holding
in_holding x c [] h = elim h [ ]
in_holding x c (d ∷ cs) h = keep_in (eqb d.left x || eqb d.right x) (in_holding x c cs) h

pub holding_in : (x p q : ℕ) → (eqb p x || eqb q x) ≡ true → {cs : List Pair} → In (pair p q) cs → In (pair p q) (holding x cs)
unfolding holding
holding_in x p q e here = rw e here
holding_in x p q e (there {d = d} {cs = cs} h) = go (eqb d.left x || eqb d.right x) (holding_in x p q e h)
  where
    go : (b : Bool) → In (pair p q) (holding x cs) → In (pair p q) (cond b (d ∷ holding x cs) (holding x cs))
    go true k = there k
    go false k = k
