-- Interning: a number, once given, stays, is the lowest with its spelling, and spells it. Every symbol of a kept word is a seed's number.
use mathlib.Core.Path.{◌≡◌, refl, sym, ap, ◌∙◌}
use mathlib.Core.Bool.{Bool, true, false, ◌||◌, false≢true}
use mathlib.Core.List.{List, [], ◌∷◌, ◌++◌, map, flat_map, foldl}
use mathlib.Core.Logic.{◌≢◌}
use Prim.Native.Nat.{ℕ, zero, suc, ◌<◌}
use native.Mathlib.Omega.{arith}
use lib.ListN.{length, get_or}
use Rattle.order.specs.Order.{same}
use Rattle.rule.specs.Shapes.{some?, first}
use Rattle.rule.specs.Table.{Task, frequencies, alphabet, word_units}
use Rattle.rule.specs.Seeding.{decorated, number_of, intern, first_seeds, seeds, Entry, keep, kept_with, kept}
use Rattle.rule.specs.Sums.{Under, AllUnder}
use Rattle.order.proofs.Ordered.{same_true, same_refl}
use Rattle.rfc3629.proofs.Rows.{cond_elim}

-- a spelling is among the pieces
unfoldable pub Has : List (List ℕ) → List ℕ → Type 0
Has ps s = some? (map (same s) ps) ≡ true

module _ (s : List ℕ) where
  -- its number spells it, and no lower one does
  pub record Found (ps : List (List ℕ)) : Type 0 where
    pub within : number_of ps s < length ps
    pub spells : get_or ps (number_of ps s) [] ≡ s
    pub lowest : (j : ℕ) → j < number_of ps s → get_or ps j [] ≢ s

  number_here : (p : List ℕ) (ps : List (List ℕ)) → same s p ≡ true → number_of (p ∷ ps) s ≡ 0
  unfolding number_of first
  number_here p ps e = rw e

  number_next : (p : List ℕ) (ps : List (List ℕ)) → same s p ≡ false → number_of (p ∷ ps) s ≡ suc (number_of ps s)
  unfolding number_of first
  number_next p ps e = rw e

  pub found : (ps : List (List ℕ)) → Has ps s → Found ps
  unfolding Has some?
  found [] h = absurd (false≢true h)
  found (p ∷ ps) h = go (same s p) refl h (found ps)
    where
      below : same s p ≡ false → ((j : ℕ) → j < number_of ps s → get_or ps j [] ≢ s) → (j : ℕ) → j < suc (number_of ps s) → get_or (p ∷ ps) j [] ≢ s
      below e f zero h q =
          let k : same s p ≡ true = rw q (same_refl s) in
          false≢true (sym e ∙ k)
      below e f (suc j) h q = f j (omega arith) q

      go : (c : Bool) → same s p ≡ c → (c || some? (map (same s) ps)) ≡ true → (Has ps s → Found ps) → Found (p ∷ ps)
      go true e k f =
          let z = number_here p ps e in
          record { within = omega arith; spells = rw z (sym (same_true s p e)); lowest = λ j l. absurd (omega arith) }
      go false e k f =
          let g = f k in
          let z = number_next p ps e in
          record { within = omega (arith, g.within); spells = rw z g.spells; lowest = λ j l. below e g.lowest j (rw z at l) }

  -- more pieces behind change nothing
  pub number_append : (ps qs : List (List ℕ)) → Has ps s → number_of (ps ++ qs) s ≡ number_of ps s
  unfolding Has some? number_of first
  number_append [] qs h = cc
  number_append (p ∷ ps) qs h = go (same s p) h (number_append ps qs)
    where
      go : (c : Bool) → (c || some? (map (same s) ps)) ≡ true → (Has ps s → number_of (ps ++ qs) s ≡ number_of ps s)
          → first (c ∷ map (same s) (ps ++ qs)) ≡ first (c ∷ map (same s) ps)
      go true k f = refl
      go false k f = ap suc (f k)

  pub has_append : (ps qs : List (List ℕ)) → Has ps s → Has (ps ++ qs) s
  unfolding Has some?
  has_append [] qs h = absurd (false≢true h)
  has_append (p ∷ ps) qs h = go (same s p) h (has_append ps qs)
    where
      go : (c : Bool) → (c || some? (map (same s) ps)) ≡ true → (Has ps s → Has (ps ++ qs) s) → (c || some? (map (same s) (ps ++ qs))) ≡ true
      go true k f = refl
      go false k f = f k

  has_last : (ps : List (List ℕ)) → Has (ps ++ (s ∷ [])) s
  unfolding Has some?
  has_last [] = rw same_refl
  has_last (p ∷ ps) = go (same s p) (has_last ps)
    where
      go : (c : Bool) → Has (ps ++ (s ∷ [])) s → (c || some? (map (same s) (ps ++ (s ∷ [])))) ≡ true
      go true h = refl
      go false h = h

  -- an interned spelling is there
  pub has_intern : (ps : List (List ℕ)) → Has (intern ps s) s
  unfolding intern Has
  has_intern ps = cond_elim (λ qs. Has qs s) (some? (map (same s) ps)) (λ e. e) (λ e. has_last ps)

  -- and interning others leaves it its number
  pub intern_stays : (ps : List (List ℕ)) (u : List ℕ) → Has ps s → Has (intern ps u) s × (number_of (intern ps u) s ≡ number_of ps s)
  unfolding intern
  intern_stays ps u h =
      cond_elim (λ qs. Has qs s × (number_of qs s ≡ number_of ps s)) (some? (map (same u) ps))
      (λ e. (h, refl)) (λ e. (has_append ps (u ∷ []) h, number_append ps (u ∷ []) h))

  pub interns_stay : (us ps : List (List ℕ)) → Has ps s → Has (foldl intern ps us) s × (number_of (foldl intern ps us) s ≡ number_of ps s)
  interns_stay [] ps h = (h, refl)
  interns_stay (u ∷ us) ps h =
      let k = intern_stays ps u h in
      let l = interns_stay us (intern ps u) k.0 in
      (l.0, l.1 ∙ k.1)

-- each that is interned has a number in the end
abbrev pub All : (List ℕ → Type 0) → List (List ℕ) → Type 0
All P [] = Unit {0}
All P (u ∷ us) = P u × All P us

pub interns_have : (us ps : List (List ℕ)) → All (Has (foldl intern ps us)) us
interns_have [] ps = tt
interns_have (u ∷ us) ps = ((interns_stay u us (intern ps u) (has_intern u ps)).0, interns_have us (intern ps u))

-- so each symbol of the initial alphabet and each decorated unit of a word has one among the seeds
pub seeds_have : (t : Task) → All (Has (seeds t)) (alphabet t ++ flat_map (λ w. w) (decorated t))
unfolding seeds
seeds_have t = interns_have (alphabet t ++ flat_map (λ w. w) (decorated t)) (first_seeds t.seeding (word_units t))

-- NUMBERS IN USE: every symbol of a kept word is below the alphabet length
all_behind : (P : List ℕ → Type 0) (us vs : List (List ℕ)) → All P (us ++ vs) → All P vs
all_behind P [] vs a = a
all_behind P (u ∷ us) vs a = all_behind P us vs a.1

all_before : (P : List ℕ → Type 0) (us vs : List (List ℕ)) → All P (us ++ vs) → All P us
all_before P [] vs a = tt
all_before P (u ∷ us) vs a = (a.0, all_before P us vs a.1)

numbers-below : (ps us : List (List ℕ)) → All (Has ps) us → Under (length ps) (map (number_of ps) us)
unfolding Under
numbers-below ps [] a = tt
numbers-below ps (u ∷ us) a = ((found u ps a.0).within, numbers-below ps us a.1)

keep-below : (n f : ℕ) (ss : List ℕ) (rest : List Entry) → Under n ss → AllUnder n rest → AllUnder n (keep f ss rest)
unfolding AllUnder keep
keep-below n f [] rest b r = r
keep-below n f (s ∷ []) rest b r = r
keep-below n f (s ∷ s₁ ∷ ss) rest b r = (b, r)

kept_with-below : (ps : List (List ℕ)) (fs : List ℕ) (ws : List (List (List ℕ))) → All (Has ps) (flat_map (λ w. w) ws) → AllUnder (length ps) (kept_with ps fs ws)
unfolding kept_with AllUnder flat_map
kept_with-below ps [] ws a = tt
kept_with-below ps (f ∷ fs) [] a = tt
kept_with-below ps (f ∷ fs) (w ∷ ws) a =
    keep-below (length ps) f (map (number_of ps) w) (kept_with ps fs ws)
    (numbers-below ps w (all_before (Has ps) w (flat_map (λ w. w) ws) a))
    (kept_with-below ps fs ws (all_behind (Has ps) w (flat_map (λ w. w) ws) a))

pub kept-below : (t : Task) → AllUnder (length (seeds t)) (kept t)
unfolding kept
kept-below t = kept_with-below (seeds t) (frequencies t) (decorated t) (all_behind (Has (seeds t)) (alphabet t) (flat_map (λ w. w) (decorated t)) (seeds_have t))
