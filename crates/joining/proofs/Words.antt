-- The laws of some words of which one has other symbols: their weight, how large their symbols are, their frequencies. Assumes nothing.
use mathlib.Core.Path.{◌≡◌, refl, ap}
use mathlib.Core.List.{List, [], ◌∷◌}
use Prim.Native.Nat.{ℕ, zero, suc, ◌+◌, ◌*◌, ◌<◌, ◌≤◌}
use native.Mathlib.Omega.{arith}
use lib.ListN.{length}
use Rattle.rule.specs.Rewriting.{rewrite, count_in}
use Rattle.rule.specs.Seeding.{Entry}
use Rattle.rule.specs.Sums.{Under, AllUnder, symbols_in, in_use}
use Rattle.rule.specs.Training.{rewrite_all}
use Rattle.rule.proofs.Rewriting.{rewrite_none, gone}
use Rattle.word.specs.Layout.{entry_at}
use Rattle.merge.specs.Merging.{change_at}
use Rattle.states.specs.Tracking.{with_word, Weighed}

-- a word with its own symbols, and with those that a change makes of them
pub with_same : (k : ℕ) (es : List Entry) → with_word k (entry_at es k).symbols es ≡ es
unfolding change_at entry_at
with_same k [] = refl
with_same zero (e ∷ es) = refl
with_same (suc k) (e ∷ es) = ap (λ (l : List Entry). e ∷ l) (with_same k es)

pub with_change : (f : List ℕ → List ℕ) (k : ℕ) (es : List Entry) → with_word k (f (entry_at es k).symbols) es ≡ change_at f k es
unfolding change_at entry_at
with_change f k [] = refl
with_change f zero (e ∷ es) = refl
with_change f (suc k) (e ∷ es) = ap (λ (l : List Entry). e ∷ l) (with_change f k es)

pub change_length : (f : List ℕ → List ℕ) (k : ℕ) (es : List Entry) → length (change_at f k es) ≡ length es
unfolding change_at
change_length f k [] = refl
change_length f zero (e ∷ es) = refl
change_length f (suc k) (e ∷ es) = ap suc (change_length f k es)

-- the weight differs by the word's
pub weight_with : (k : ℕ) (l : List ℕ) (es : List Entry) → k < length es
    → symbols_in (with_word k l es) + (entry_at es k).frequency * length (entry_at es k).symbols ≡ symbols_in es + (entry_at es k).frequency * length l
unfolding change_at entry_at symbols_in
weight_with k l [] h = absurd (omega arith)
weight_with zero l (e ∷ es) h = omega arith
weight_with (suc k) l (e ∷ es) h = let i = weight_with k l es (omega arith) in omega arith

pub weight_share : (k : ℕ) (es : List Entry) → (entry_at es k).frequency * length (entry_at es k).symbols ≤ symbols_in es
unfolding entry_at symbols_in
weight_share k [] = omega arith
weight_share zero (e ∷ es) = omega arith
weight_share (suc k) (e ∷ es) = let i = weight_share k es in omega arith

-- a word's share of the symbols in use
pub use_share : (k : ℕ) (es : List Entry) → length (entry_at es k).symbols ≤ in_use es
unfolding entry_at in_use
use_share k [] = omega arith
use_share zero (e ∷ es) = omega arith
use_share (suc k) (e ∷ es) = let i = use_share k es in omega arith

-- how large their symbols are
pub under_entry : (n k : ℕ) (es : List Entry) → AllUnder n es → Under n (entry_at es k).symbols
unfolding entry_at AllUnder Under
under_entry n k [] u = tt
under_entry n zero (e ∷ es) u = u.0
under_entry n (suc k) (e ∷ es) u = under_entry n k es u.1

pub under_with : (n k : ℕ) (l : List ℕ) (es : List Entry) → Under n l → AllUnder n es → AllUnder n (with_word k l es)
unfolding change_at AllUnder
under_with n k l [] h u = tt
under_with n zero l (e ∷ es) h u = (h, u.1)
under_with n (suc k) l (e ∷ es) h u = (u.0, under_with n k l es h u.1)

-- no frequency has changed
pub frequency_change : (f : List ℕ → List ℕ) (k j : ℕ) (es : List Entry) → (entry_at (change_at f k es) j).frequency ≡ (entry_at es j).frequency
unfolding change_at entry_at
frequency_change f k j [] = refl
frequency_change f zero zero (e ∷ es) = refl
frequency_change f zero (suc j) (e ∷ es) = refl
frequency_change f (suc k) zero (e ∷ es) = refl
frequency_change f (suc k) (suc j) (e ∷ es) = frequency_change f k j es

pub weighed_change : (f : List ℕ → List ℕ) (k : ℕ) (es : List Entry) → Weighed es → Weighed (change_at f k es)
weighed_change f k es h j l = rw (frequency_change f k j es) (h j (omega (arith, change_length f k es)))

-- REWRITING ALL: what is rewritten already stays, and where no word holds the pair all stay
module _ (a b x : ℕ) where
  pub rewrite_twice : (x ≡ a → ⊥) → (x ≡ b → ⊥) → (k : ℕ) (es : List Entry) → rewrite_all a b x (change_at (rewrite a b x) k es) ≡ rewrite_all a b x es
  unfolding change_at rewrite_all
  rewrite_twice ha hb k [] = refl
  rewrite_twice ha hb zero (e ∷ es) = rw (rewrite_none a b x (rewrite a b x e.symbols) (gone a b x ha hb e.symbols))
  rewrite_twice ha hb (suc k) (e ∷ es) =
      ap (λ (l : List Entry). record { frequency = e.frequency; symbols = rewrite a b x e.symbols } ∷ l) (rewrite_twice ha hb k es)

  pub rewrite_all_none : (es : List Entry) → ((k : ℕ) → count_in a b (entry_at es k).symbols ≡ 0) → rewrite_all a b x es ≡ es
  unfolding entry_at rewrite_all
  rewrite_all_none [] h = refl
  rewrite_all_none (e ∷ es) h = rw (rewrite_none a b x e.symbols (h 0), rewrite_all_none es (λ k. h (suc k)))
