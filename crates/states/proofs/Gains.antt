-- The marks of a gain: in a merge that makes x they are on the pairs that hold x, in a first count on every pair that counts. Assumes nothing.
use mathlib.Core.Path.{◌≡◌, refl, sym, ap, ◌∙◌}
use mathlib.Core.Bool.{true, false, false≢true}
use mathlib.Core.List.{List, [], ◌∷◌, ◌++◌}
use mathlib.Core.Logic.{◌⊎◌, inl, inr, ⊎_elim}
use mathlib.Core.Option.{Option, none, some}
use Prim.Native.Nat.{ℕ, ◌<◌, ◌≤◌}
use native.Mathlib.Nat.{mul-zero}
use native.Mathlib.Omega.{arith}
use Rattle.runs.proofs.Parts.{same_or_not, below_or_not}
use Rattle.rule.specs.Rewriting.{bit, Report, before, after}
use Rattle.rule.specs.Seeding.{Entry}
use Rattle.rule.specs.Sums.{raised, AllUnder}
use Rattle.rule.proofs.Rewriting.{pair_miss}
use Rattle.rule.proofs.Reports.{raised-append}
use Rattle.rule.proofs.Counts.{counted_below}
use Rattle.marks.specs.Marks.{gained, marked}
use Rattle.states.specs.State.{State, most, key, left_of, right_of, Change}
use Rattle.states.specs.Tracking.{Tracks, Raises, Reported, Gaining, AllGained, Calm}
use Rattle.states.proofs.Keys.{key_pos}

-- a mark is not both off and on
pub not_both : {A : Type 0} (k m : ℕ) → marked k m ≡ false → marked k m ≡ true → A
not_both k m e f = absurd (false≢true (sym e ∙ f))

-- A MERGE THAT MAKES x. Before it no pair has gained, and none that holds x counts, since x is new
pub gaining_start : {σ : ℕ → State} {es : List Entry} (x : ℕ) → Calm σ → Tracks σ 0 es → AllUnder x es → x < most → Gaining σ x
gaining_start {σ} {es} x m t u hx = record {
  left = λ q hq l.
      let b = counted_below x x q es u (rw (t.exact x q hx hq (λ z. let h = key_pos x q in omega arith)) at l) in
      absurd (omega arith);
  right = λ p hp l.
      let b = counted_below x p x es u (rw (t.exact p x hp hx (λ z. let h = key_pos p x in omega arith)) at l) in
      absurd (omega arith);
  holds = λ c z g. not_both gained (σ c).marks (m.ungained c z) g;
}

-- only counts and gains matter
module _ {σ τ : ℕ → State} (x : ℕ) where
  gaining_kept : ((c : ℕ) → 0 < c → (τ c).count ≡ (σ c).count) → ((c : ℕ) → 0 < c → marked gained (τ c).marks ≡ marked gained (σ c).marks) → Gaining σ x → Gaining τ x
  gaining_kept hc hm g = record {
    left = λ q hq l. hm (key x q) (key_pos x q) ∙ g.left q hq (rw (hc (key x q) (key_pos x q)) at l);
    right = λ p hp l. hm (key p x) (key_pos p x) ∙ g.right p hp (rw (hc (key p x) (key_pos p x)) at l);
    holds = λ c z m. g.holds c z (sym (hm c z) ∙ m);
  }

  pub gaining_same : {c : ℕ} {s : State} → Change c s σ τ → s.count ≡ (σ c).count → marked gained s.marks ≡ marked gained (σ c).marks → Gaining σ x → Gaining τ x
  gaining_same {c} {s} h ec em g = gaining_kept
      (λ d z. same_or_not d c (λ i. rw (i, h.here) ec) (λ n. ap (λ (v : State). v.count) (h.others d z n)))
      (λ d z. same_or_not d c (λ i. rw (i, h.here) em) (λ n. ap (λ (v : State). marked gained v.marks) (h.others d z n)))
      g

-- a pair that counts after some reports counted before them, or is raised
counted : {σ τ : ℕ → State} {f k : ℕ} {rs : List Report} → Reported f k rs σ τ → (p q : ℕ) → p < most → q < most
    → 1 ≤ (τ (key p q)).count → (1 ≤ (σ (key p q)).count) ⊎ (1 ≤ raised p q rs)
counted {σ} {τ} {f} {k} {rs} r p q hp hq l = below_or_not 0 (raised p q rs)
    (λ g. inr g)
    (λ g.
    let z : raised p q rs ≡ 0 = omega arith in
    let e = rw (z, mul-zero f) at (r.counts p q hp hq) in
    inl (omega arith))

-- and if the counting ones had gained, they still have
gained_still : {σ τ : ℕ → State} {f k : ℕ} {rs : List Report} → Reported f k rs σ τ → (p q : ℕ) → p < most → q < most
    → (1 ≤ (σ (key p q)).count → marked gained (σ (key p q)).marks ≡ true) → 1 ≤ (τ (key p q)).count → marked gained (τ (key p q)).marks ≡ true
gained_still {σ} {τ} {f} {k} {rs} r p q hp hq g l = ⊎_elim
    (λ (o : 1 ≤ (σ (key p q)).count). r.keeps (key p q) (key_pos p q) (g o))
    (λ (o : 1 ≤ raised p q rs). r.gains p q hp hq o)
    (counted r p q hp hq l)

module _ {σ τ : ℕ → State} {f k : ℕ} {rs : List Report} where
  pub gaining_reported : (x : ℕ) → Gaining σ x → x < most → Reported f k rs σ τ → ((p q : ℕ) → 1 ≤ raised p q rs → (p ≡ x) ⊎ (q ≡ x)) → Gaining τ x
  gaining_reported x g hx r hold = record {
    left = λ q hq l. gained_still r x q hx hq (g.left q hq) l;
    right = λ p hp l. gained_still r p x hp hx (g.right p hp) l;
    holds = λ c z m. ⊎_elim
        (λ (o : marked gained (σ c).marks ≡ true). g.holds c z o)
        (λ (o : Raises c rs). (o.pair, hold (left_of c) (right_of c) o.some))
        (r.only c z m);
  }

  -- A FIRST COUNT
  pub gained_reported : AllGained σ → Reported f k rs σ τ → AllGained τ
  gained_reported g r = record {
    counts = λ p q hp hq l. gained_still r p q hp hq (g.counts p q hp hq) l;
    pairs = λ c z m. ⊎_elim
        (λ (o : marked gained (σ c).marks ≡ true). g.pairs c z o)
        (λ (o : Raises c rs). o.pair)
        (r.only c z m);
  }

-- the reports of a rewriting raise only pairs that hold the new symbol
module _ (a b x p q : ℕ) (hp : p ≡ x → ⊥) (hq : q ≡ x → ⊥) where
  before_none : (P : Option ℕ) → raised p q (before a x P) ≡ 0
  unfolding raised before
  before_none none = refl
  before_none (some s) = omega (arith, ap bit (pair_miss p q s x (λ _ e. hq (sym e))))

  after_none : (R : List ℕ) → raised p q (after b x R) ≡ 0
  unfolding raised after
  after_none [] = refl
  after_none (n ∷ R) = omega (arith, ap bit (pair_miss p q x n (λ e _. hp (sym e))))

pub hit_holds : (a b x : ℕ) (P : Option ℕ) (R : List ℕ) (p q : ℕ) → 1 ≤ raised p q (before a x P ++ after b x R) → (p ≡ x) ⊎ (q ≡ x)
hit_holds a b x P R p q l = same_or_not p x
    (λ e. inl e)
    (λ n. same_or_not q x
    (λ e. inr e)
    (λ m. absurd (omega (arith, raised-append p q (before a x P) (after b x R), before_none a b x p q n m P, after_none a b x p q n m R))))
