-- The order of choice as the test `better` has it: of two entries one stands before the other, and both do only where they are one.
use mathlib.Core.Path.{◌≡◌, refl, sym, ◌∙◌}
use mathlib.Core.Bool.{Bool, true, false, ◌&&◌, ◌||◌, true≢false}
use mathlib.Core.Logic.{◌⊎◌, inl, inr}
use Prim.Native.Nat.{ℕ, ◌≤◌, ◌<◌}
use native.Mathlib.Omega.{arith}
use lib.Dec.{eqb, ltb}
use borrow.Author.Tests.{ltb-true, ltb-false, eqb-true, eqb-false}
use Rattle.rule.specs.Training.{Choice, better}
use Rattle.rule.specs.Demand.{Lower}
use Rattle.runs.proofs.Parts.{same_or_not, below_or_not}
use Rattle.lazy.specs.Invariant.{First}

-- what the test says
abbrev pub Says : Bool → Choice → Choice → Type 0
Says true e f = First e f
Says false e f = First f e

pub better-says : (e f : Choice) → Says (better e f) e f
better-says e f = go (ltb f.times e.times) (eqb e.times f.times) (ltb e.left f.left) (eqb e.left f.left) (ltb e.right f.right) refl refl refl refl refl
  where
    go : (x y u v w : Bool) → ltb f.times e.times ≡ x → eqb e.times f.times ≡ y → ltb e.left f.left ≡ u → eqb e.left f.left ≡ v
        → ltb e.right f.right ≡ w → Says (x || (y && (u || (v && w)))) e f
    go true y u v w ex ey eu ev ew = let h = ltb-true f.times e.times ex in omega arith
    go false false u v w ex ey eu ev ew =
        let h = ltb-false f.times e.times ex in
        let n = eqb-false e.times f.times ey in
        omega arith
    go false true true v w ex ey eu ev ew =
        let h = eqb-true e.times f.times ey in
        let l = ltb-true e.left f.left eu in
        omega arith
    go false true false false w ex ey eu ev ew =
        let h = eqb-true e.times f.times ey in
        let l = ltb-false e.left f.left eu in
        let n = eqb-false e.left f.left ev in
        omega arith
    go false true false true true ex ey eu ev ew =
        let h = eqb-true e.times f.times ey in
        let l = eqb-true e.left f.left ev in
        let r = ltb-true e.right f.right ew in
        omega arith
    go false true false true false ex ey eu ev ew =
        let h = eqb-true e.times f.times ey in
        let l = eqb-true e.left f.left ev in
        let r = ltb-false e.right f.right ew in
        omega arith

pub first_refl : (e : Choice) → First e e
first_refl e = omega arith

pub first_trans : {e f g : Choice} → First e f → First f g → First e g
first_trans {e} {f} {g} x y = record {
  counts = omega arith;
  lefts = λ k. let a = x.lefts (omega arith) in let b = y.lefts (omega arith) in omega arith;
  rights = λ k l.
      let a = x.lefts (omega arith) in
      let b = y.lefts (omega arith) in
      let c = x.rights (omega arith) (omega arith) in
      let d = y.rights (omega arith) (omega arith) in
      omega arith;
}

-- no two different entries are equally good
pub first_anti : (e f : Choice) → First e f → First f e → e ≡ f
first_anti e f x y =
    let c : e.times ≡ f.times = omega arith in
    let l : e.left ≡ f.left = let a = x.lefts (omega arith) in let b = y.lefts (omega arith) in omega arith in
    let r : e.right ≡ f.right = let a = x.rights (omega arith) l in let b = y.rights (omega arith) (sym l) in omega arith in
    λ i. record { left = l i; right = r i; times = c i }

-- a lower count of the second keeps the first before it
pub first-lower : {e f : Choice} → First e f → (d : ℕ) → d ≤ f.times → First e (record { left = f.left; right = f.right; times = d })
first-lower {e} {f} x d h = record {
  counts = omega arith;
  lefts = λ k. x.lefts (omega arith);
  rights = λ k l. x.rights (omega arith) l;
}

-- of another pair it is ahead, as demand 3 says it
pub first-ahead : (e f : Choice) → First e f → ((f.left ≡ e.left) × (f.right ≡ e.right) → ⊥)
    → (f.times < e.times) ⊎ ((f.times ≡ e.times) × Lower e.left e.right f.left f.right)
first-ahead e f x n =
    below_or_not f.times e.times inl
    (λ h.
    let same : f.times ≡ e.times = omega (arith, x.counts) in
    below_or_not e.left f.left
    (λ l. inr (same, inl l))
    (λ l.
    let left : e.left ≡ f.left = omega (arith, x.lefts same) in
    same_or_not f.right e.right
    (λ r. absurd (n (sym left, r)))
    (λ k. inr (same, inr (left, omega (arith, x.rights same left))))))

-- a test cannot have both answers
pub differ : {A : Type 0} → (b : Bool) → b ≡ true → b ≡ false → A
differ b e f = absurd (true≢false (sym e ∙ f))
