-- The laws of words of which one is changed, and of rewriting words one by one. Assumes nothing.
use mathlib.Core.Path.{◌≡◌, refl, ap, ◌∙◌}
use mathlib.Core.List.{List, [], ◌∷◌, map}
use Prim.Native.Nat.{ℕ, zero, suc, ◌+◌, ◌≤◌, ◌<◌}
use native.Mathlib.Omega.{arith}
use lib.ListN.{length}
use Rattle.runs.specs.Parts.{nth}
use Rattle.rule.specs.Rewriting.{rewrite, rewrites}
use Rattle.rule.specs.Seeding.{Entry}
use Rattle.rule.specs.Sums.{in_use}
use Rattle.rule.specs.Training.{rewrite_all}
use Rattle.rule.proofs.Rewriting.{length-rewrite}
use Rattle.word.specs.Layout.{symbol_in, line, lines, by_symbols, entry_at}
use Rattle.word.proofs.Views.{lines-same}
use Rattle.merge.specs.Merging.{change_at, rewrite_first}

-- a change of cells is a change of symbols
pub change_symbols : (f g : List ℕ → List ℕ) → ((l : List ℕ) → map symbol_in (g l) ≡ f (map symbol_in l)) → (k : ℕ) (es : List Entry)
    → map by_symbols (change_at g k es) ≡ change_at f k (map by_symbols es)
unfolding change_at
change_symbols f g h k [] = refl
change_symbols f g h zero (e ∷ es) = rw (h e.symbols)
change_symbols f g h (suc k) (e ∷ es) = ap (λ (l : List Entry). by_symbols e ∷ l) (change_symbols f g h k es)

-- word k is changed, and every other is as it was
pub lines_changed : (f : List ℕ → List ℕ) (cs ds : List ℕ) (starts n k : ℕ) → k < n
    → line ds (nth ds (starts + k)) ≡ record { frequency = nth cs (nth cs (starts + k)); symbols = f (line cs (nth cs (starts + k))).symbols }
    → ((i : ℕ) → i < n → (i ≡ k → ⊥) → line ds (nth ds (starts + i)) ≡ line cs (nth cs (starts + i)))
    → lines ds starts n ≡ change_at f k (lines cs starts n)
unfolding change_at lines
lines_changed f cs ds starts zero k h e g = absurd (omega arith)
lines_changed f cs ds starts (suc n) zero h e g =
    let z : starts + 0 ≡ starts = omega arith in
    let r = lines-same cs ds (starts + 1) n (λ i l. let a : starts + 1 + i ≡ starts + suc i = omega arith in rw a (g (suc i) (omega arith) (omega arith))) in
    ap (λ (x : Entry). x ∷ lines ds (starts + 1) n) (rw z at e)
    ∙ ap (λ (l : List Entry). record { frequency = nth cs (nth cs starts); symbols = f (line cs (nth cs starts)).symbols } ∷ l) r
lines_changed f cs ds starts (suc n) (suc k) h e g =
    let z : starts + 0 ≡ starts = omega arith in
    let a : (i : ℕ) → starts + 1 + i ≡ starts + suc i = λ i. omega arith in
    let first : line ds (nth ds starts) ≡ line cs (nth cs starts) = rw z at (g 0 (omega arith) (omega arith)) in
    let r = lines_changed f cs ds (starts + 1) n k (omega arith) (rw (a k) e) (λ i l m. rw (a i) (g (suc i) (omega arith) (λ q. m (omega arith)))) in
    ap (λ (x : Entry). x ∷ lines ds (starts + 1) n) first ∙ ap (λ (l : List Entry). line cs (nth cs starts) ∷ l) r

-- the changed word, and every other
pub change_this : (f : List ℕ → List ℕ) (k : ℕ) (es : List Entry) → k < length es
    → entry_at (change_at f k es) k ≡ record { frequency = (entry_at es k).frequency; symbols = f (entry_at es k).symbols }
unfolding change_at entry_at
change_this f k [] h = absurd (omega arith)
change_this f zero (e ∷ es) h = refl
change_this f (suc k) (e ∷ es) h = change_this f k es (omega arith)

pub change_other : (f : List ℕ → List ℕ) (k i : ℕ) (es : List Entry) → (i ≡ k → ⊥) → entry_at (change_at f k es) i ≡ entry_at es i
unfolding change_at entry_at
change_other f k i [] d = refl
change_other f zero zero (e ∷ es) d = absurd (d refl)
change_other f zero (suc i) (e ∷ es) d = refl
change_other f (suc k) zero (e ∷ es) d = refl
change_other f (suc k) (suc i) (e ∷ es) d = change_other f k i es (λ q. d (ap suc q))

-- each rewrite costs the set a symbol
pub in_use-rewrite : (a b x k : ℕ) (es : List Entry) → k < length es → in_use (change_at (rewrite a b x) k es) + rewrites a b (entry_at es k).symbols ≡ in_use es
unfolding change_at in_use entry_at
in_use-rewrite a b x k [] h = absurd (omega arith)
in_use-rewrite a b x zero (e ∷ es) h = omega (arith, length-rewrite a b x e.symbols)
in_use-rewrite a b x (suc k) (e ∷ es) h = let i = in_use-rewrite a b x k es (omega arith) in omega arith

-- ONE WORD AFTER THE OTHER

pub first_none : (a b x : ℕ) (es : List Entry) → rewrite_first a b x 0 es ≡ es
unfolding rewrite_first
first_none a b x es = refl

pub first-more : (a b x k : ℕ) (es : List Entry) → k < length es → change_at (rewrite a b x) k (rewrite_first a b x k es) ≡ rewrite_first a b x (k + 1) es
unfolding change_at rewrite_first
first-more a b x k [] h = absurd (omega arith)
first-more a b x zero (e ∷ es) h = refl
first-more a b x (suc k) (e ∷ es) h =
    let z : suc k + 1 ≡ suc (k + 1) = omega arith in
    rw z (ap (λ (l : List Entry). record { frequency = e.frequency; symbols = rewrite a b x e.symbols } ∷ l) (first-more a b x k es (omega arith)))

pub first_all : (a b x k : ℕ) (es : List Entry) → length es ≤ k → rewrite_first a b x k es ≡ rewrite_all a b x es
unfolding rewrite_first rewrite_all
first_all a b x zero [] h = refl
first_all a b x zero (e ∷ es) h = absurd (omega arith)
first_all a b x (suc k) [] h = refl
first_all a b x (suc k) (e ∷ es) h =
    ap (λ (l : List Entry). record { frequency = e.frequency; symbols = rewrite a b x e.symbols } ∷ l) (first_all a b x k es (omega arith))
