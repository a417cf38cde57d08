-- The laws of a prefix: what the library tests, and the piece without it. Assumes nothing.
use mathlib.Core.Path.{◌≡◌, refl, ap, ◌∙◌}
use mathlib.Core.Bool.{Bool, true, false, cond, ◌&&◌, and-eq-true_iff, false≢true}
use mathlib.Core.List.{List, [], ◌∷◌}
use Prim.Native.Nat.{ℕ, ◌+◌, ◌-◌, ◌≤◌}
use native.Mathlib.Omega.{arith}
use lib.Dec.{eqb}
use lib.ListN.{length, take, drop, length-drop}
use lib.Pointwise.{pointwise}
use Rattle.std.specs.Prelude.{nat_eq, Option, Some, None, MatchOption}
use Rattle.std.specs.Option.{unwrap_or}
use Rattle.runs.proofs.Parts.{eqb_sym}
use Rattle.rule.specs.Spelling.{leads, strip_prefix}

-- a piece has no prefix that is longer
pub leads_long : (p x : List ℕ) → leads p x ≡ true → length p ≤ length x
unfolding leads
leads_long [] x e = omega arith
leads_long (b ∷ p) [] e = absurd (false≢true e)
leads_long (b ∷ p) (c ∷ x) e = omega (arith, leads_long p x ((and-eq-true_iff (eqb b c) (leads p x)).0 e).1)

-- as the library tests it
leads_std : (p x : List ℕ) → pointwise nat_eq (take (length p) x) p ≡ leads p x
unfolding leads
leads_std [] x = refl
leads_std (b ∷ p) [] = refl
leads_std (b ∷ p) (c ∷ x) = ap (λ (t : Bool). t && pointwise nat_eq (take (length p) x) p) (eqb_sym c b) ∙ ap (λ (t : Bool). eqb b c && t) (leads_std p x)

-- THE PIECE WITHOUT ITS PREFIX, as the library has it: X is what a part is lent as

abbrev Stripped : {X : Type 0} → (X → List ℕ) → List ℕ → List ℕ → Option X → Type 0
Stripped now p x r =
    MatchOption r (pointwise nat_eq (take (length p) x) p ≡ false)
    (λ y. (pointwise nat_eq (take (length p) x) p ≡ true) × (now y ≡ drop (length p) x) × (length (now y) + length p ≡ length x))

pub stripped_std : {X : Type 0} (now : X → List ℕ) (p : List ℕ) (r : Option X) (x u : X) → Stripped now p (now x) r → u ≡ unwrap_or r x → now u ≡ strip_prefix p (now x)
unfolding strip_prefix
stripped_std now p None x u h e = rw (e, ← leads_std p (now x), h)
stripped_std now p (Some y) x u h e = rw (e, ← leads_std p (now x), h.0) h.1

-- it is the end of the piece
pub strip_drop : (p x : List ℕ) → drop (length x - length (strip_prefix p x)) x ≡ strip_prefix p x
unfolding strip_prefix
strip_drop p x = go (leads p x) refl
  where
    go : (b : Bool) → leads p x ≡ b → drop (length x - length (cond b (drop (length p) x) x)) x ≡ cond b (drop (length p) x) x
    go true e =
        let n : length x - length (drop (length p) x) ≡ length p = simp length-drop (omega (arith, leads_long p x e)) in
        rw n
    go false e = let n : length x - length x ≡ 0 = omega arith in rw n

pub strip_short : (p x : List ℕ) → length (strip_prefix p x) ≤ length x
unfolding strip_prefix
strip_short p x = go (leads p x)
  where
    go : (b : Bool) → length (cond b (drop (length p) x) x) ≤ length x
    go true = simp length-drop (omega arith)
    go false = omega arith

-- its length, as the code has it
pub stripped_length : (p x ys : List ℕ) → ys ≡ strip_prefix p x → length ys ≡ length (strip_prefix p x)
stripped_length p x ys e = ap length e

pub stripped_short : (p x ys : List ℕ) → ys ≡ strip_prefix p x → length ys ≤ length x
stripped_short p x ys e = rw e (strip_short p x)
