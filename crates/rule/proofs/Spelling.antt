-- Decoration place by place, the prefix taken off, and the byte values.
use mathlib.Core.Path.{◌≡◌, refl, sym, ap, ◌∙◌}
use mathlib.Core.Bool.{true, false, cond, and-eq-true_iff}
use mathlib.Core.List.{List, [], ◌∷◌, ◌++◌, map, append-nil}
use Prim.Native.Nat.{ℕ, zero, suc, ◌+◌, ◌<◌}
use native.Mathlib.Nat.{add-zero}
use native.Mathlib.Omega.{arith}
use lib.Dec.{eqb, eqb-suc-suc}
use lib.ListN.{length, drop, get_or, length-map}
use lib.Seq.{drop-append_seam}
use borrow.Author.Tests.{eqb-true, eq-eqb, ne_eqb}
use Rattle.rule.specs.Spelling.{prefixed, suffixed, decorate, leads, strip_prefix}
use Rattle.rule.specs.Seeding.{byte_values}

-- DECORATION leaves as many units, and puts the prefix before all but the first and the suffix behind the last
length-prefixed : (p : List ℕ) (us : List (List ℕ)) → length (prefixed p us) ≡ length us
unfolding prefixed
length-prefixed p [] = refl
length-prefixed p (u ∷ us) = ap suc (length-map us (λ v. p ++ v))

length-suffixed : (s : List ℕ) (us : List (List ℕ)) → length (suffixed s us) ≡ length us
unfolding suffixed
length-suffixed s [] = refl
length-suffixed s (u ∷ []) = refl
length-suffixed s (u ∷ v ∷ us) = ap suc (length-suffixed s (v ∷ us))

pub length-decorate : (p s : List ℕ) (us : List (List ℕ)) → length (decorate p s us) ≡ length us
unfolding decorate
length-decorate p s us = length-suffixed s (prefixed p us) ∙ length-prefixed p us

mapped_at : (p : List ℕ) (us : List (List ℕ)) (i : ℕ) → i < length us → get_or (map (λ v. p ++ v) us) i [] ≡ p ++ get_or us i []
mapped_at p [] i h = absurd (omega arith)
mapped_at p (u ∷ us) zero h = refl
mapped_at p (u ∷ us) (suc i) h = mapped_at p us i (omega arith)

prefixed_at : (p : List ℕ) (us : List (List ℕ)) (i : ℕ) → i < length us → get_or (prefixed p us) i [] ≡ cond (eqb i 0) [] p ++ get_or us i []
unfolding prefixed
prefixed_at p [] i h = absurd (omega arith)
prefixed_at p (u ∷ us) zero h = refl
prefixed_at p (u ∷ us) (suc i) h = rw (ne_eqb (suc i) 0 (λ e. omega arith)) (mapped_at p us i (omega arith))

suffixed_at : (s : List ℕ) (us : List (List ℕ)) (i : ℕ) → i < length us → get_or (suffixed s us) i [] ≡ get_or us i [] ++ cond (eqb (suc i) (length us)) s []
unfolding suffixed
suffixed_at s [] i h = absurd (omega arith)
suffixed_at s (u ∷ []) zero h = refl
suffixed_at s (u ∷ []) (suc i) h = absurd (omega arith)
suffixed_at s (u ∷ v ∷ us) zero h = rw (ne_eqb 1 (suc (suc (length us))) (λ e. omega arith)) (sym (append-nil u))
suffixed_at s (u ∷ v ∷ us) (suc i) h = rw (eqb-suc-suc (suc i) (suc (length us))) (suffixed_at s (v ∷ us) i (omega arith))

pub decorate_at : (p s : List ℕ) (us : List (List ℕ)) (i : ℕ) → i < length us
    → get_or (decorate p s us) i [] ≡ cond (eqb i 0) [] p ++ get_or us i [] ++ cond (eqb (suc i) (length us)) s []
unfolding decorate
decorate_at p s us i h =
    let l = length-prefixed p us in
    rw (suffixed_at s (prefixed p us) i (omega arith), l, prefixed_at p us i h)

-- ONE LEADING PREFIX is taken off, if it is there
pub leads-append : (p s : List ℕ) → leads p (p ++ s) ≡ true
unfolding leads
leads-append [] s = refl
leads-append (b ∷ p) s = rw (eq-eqb b b refl) (leads-append p s)

pub leads_true : (p piece : List ℕ) → leads p piece ≡ true → piece ≡ p ++ drop (length p) piece
unfolding leads
leads_true [] piece e = refl
leads_true (b ∷ p) [] e = cc
leads_true (b ∷ p) (c ∷ piece) e =
    let h = (and-eq-true_iff (eqb b c) (leads p piece)).0 e in
    rw (eqb-true b c h.0) (ap (λ (l : List ℕ). c ∷ l) (leads_true p piece h.1))

pub strip_has : (p s : List ℕ) → strip_prefix p (p ++ s) ≡ s
unfolding strip_prefix
strip_has p s = rw (leads-append p s) (drop-append_seam p s)

pub strip_not : (p piece : List ℕ) → leads p piece ≡ false → strip_prefix p piece ≡ piece
unfolding strip_prefix
strip_not p piece e = rw e

-- THE BYTE VALUES: n of them from b on
pub length-byte_values : (n b : ℕ) → length (byte_values n b) ≡ n
unfolding byte_values
length-byte_values zero b = refl
length-byte_values (suc n) b = ap suc (length-byte_values n (suc b))

pub byte_values_at : (n b i : ℕ) → i < n → get_or (byte_values n b) i [] ≡ (b + i) ∷ []
unfolding byte_values
byte_values_at zero b i h = absurd (omega arith)
byte_values_at (suc n) b zero h = rw add-zero
byte_values_at (suc n) b (suc i) h =
    let e : suc b + i ≡ b + suc i = omega arith in
    byte_values_at n (suc b) i (omega arith) ∙ rw e
