-- Each refusal is given exactly when its condition holds and no earlier one does; success exactly when none does.
use mathlib.Core.Path.{◌≡◌, refl, ap, ◌∙◌}
use mathlib.Core.Bool.{Bool, true, false, cond}
use mathlib.Core.List.{List, [], ◌∷◌}
use mathlib.Core.Logic.{◌⊎◌, inl, inr}
use Prim.Native.Nat.{ℕ, zero, suc, ◌+◌, ◌≤◌, ◌<◌}
use native.Mathlib.Omega.{arith}
use lib.ListN.{length, get_or}
use Rattle.rule.specs.Table.{Task, Rooms}
use Rattle.rule.specs.Refusals.{Refusal, refusals, Verdict, says, success, judge, verdict, BadShape, TooMany, EmptyCorpus, ZeroFrequency, OutOfOrder, TooHeavy, WorkRoom, SeedRoom, VocabTooSmall, OutputRoom}

-- the row at a place
abbrev pub at : List Refusal → ℕ → Refusal
at fs k = get_or fs k BadShape

-- the rows stand in the order of the table: number k + 1 at the place k
abbrev Numbered : ℕ → List Refusal → Type 0
Numbered n [] = Unit {0}
Numbered n (f ∷ fs) = (f.number ≡ n) × Numbered (suc n) fs

number_at : (n : ℕ) (fs : List Refusal) → Numbered n fs → (k : ℕ) → k < length fs → (at fs k).number ≡ n + k
number_at n [] h k l = absurd (omega arith)
number_at n (f ∷ fs) h zero l = let z = h.0 in omega arith
number_at n (f ∷ fs) h (suc k) l = let z = number_at (suc n) fs h.1 k (omega arith) in omega arith

pub in_order : (k : ℕ) → k < 10 → (at refusals k).number ≡ k + 1
in_order k h = let z = number_at 1 refusals (omega arith) k h in omega arith

-- what holds of all refusals of a list
abbrev pub All : (Refusal → Type 0) → List Refusal → Type 0
All P [] = Unit {0}
All P (f ∷ fs) = P f × All P fs

module _ (t : Task) (r : Rooms) where
  -- what trying some refusals in turn comes to
  pub data Judged : List Refusal → Verdict → Type 0 where
    accepted : Judged [] (success t)
    refused : {f : Refusal} {fs : List Refusal} → f.holds t r ≡ true → Judged (f ∷ fs) (says f.number (f.gives t))
    passed : {f : Refusal} {fs : List Refusal} {v : Verdict} → f.holds t r ≡ false → Judged fs v → Judged (f ∷ fs) v

  judged_list : (fs : List Refusal) → Judged fs (judge fs t r)
  unfolding judge
  judged_list [] = accepted
  judged_list (f ∷ fs) = go (f.holds t r) refl (judged_list fs)
    where
      go : (b : Bool) → f.holds t r ≡ b → Judged fs (judge fs t r) → Judged (f ∷ fs) (cond b (says f.number (f.gives t)) (judge fs t r))
      go true e h = refused e
      go false e h = passed e h

  -- and that it comes to nothing else
  pub judged_only : {fs : List Refusal} {v : Verdict} → Judged fs v → judge fs t r ≡ v
  unfolding judge
  judged_only accepted = refl
  judged_only (refused e) = rw e
  judged_only (passed e j) = rw e (judged_only j)

  pub judged : Judged refusals (verdict t r)
  unfolding verdict
  judged = judged_list refusals

  -- the row at the place k holds, and none before it
  pub record FirstHeld (fs : List Refusal) (k : ℕ) : Type 0 where
    pub earlier : (j : ℕ) → j < k → (at fs j).holds t r ≡ false
    pub held : (at fs k).holds t r ≡ true

  pub held_judged : (fs : List Refusal) (k : ℕ) → k < length fs → FirstHeld fs k → judge fs t r ≡ says (at fs k).number ((at fs k).gives t)
  held_judged fs k h f = judged_only (view fs k h f.earlier f.held)
    where
      view : (fs : List Refusal) (k : ℕ) → k < length fs → ((j : ℕ) → j < k → (at fs j).holds t r ≡ false) → (at fs k).holds t r ≡ true
          → Judged fs (says (at fs k).number ((at fs k).gives t))
      view [] k h e g = absurd (omega arith)
      view (f ∷ fs) zero h e g = refused g
      view (f ∷ fs) (suc k) h e g = passed (e 0 (omega arith)) (view fs k (omega arith) (λ j l. e (suc j) (omega arith)) g)

  -- each list of rows comes to its first that holds, or to success
  pub record Given (fs : List Refusal) (v : Verdict) : Type 0 where
    pub place : ℕ
    pub inside : place < length fs
    pub is : FirstHeld fs place
    pub given : v ≡ says (at fs place).number ((at fs place).gives t)

  judged_held : {fs : List Refusal} {v : Verdict} → Judged fs v → (v ≡ success t) ⊎ Given fs v
  judged_held accepted = inl refl
  judged_held (refused e) = inr (record { place = 0; inside = omega arith; is = record { earlier = λ j l. absurd (omega arith); held = e }; given = refl })
  judged_held (passed {f = f} {fs = fs} {v = v} e j) = go (judged_held j)
    where
      all : (k : ℕ) → ((j : ℕ) → j < k → (at fs j).holds t r ≡ false) → (j : ℕ) → j < suc k → (at (f ∷ fs) j).holds t r ≡ false
      all k h zero l = e
      all k h (suc j) l = h j (omega arith)

      go : (v ≡ success t) ⊎ Given fs v → (v ≡ success t) ⊎ Given (f ∷ fs) v
      go (inl z) = inl z
      go (inr g) =
          let l = g.inside in
          inr (record { place = suc g.place; inside = omega arith; is = record { earlier = all g.place g.is.earlier; held = g.is.held }; given = g.given })

  -- A REFUSAL NUMBER IS GIVEN EXACTLY WHEN ITS CONDITION HOLDS AND NO EARLIER ONE DOES
  pub refused_when : (k : ℕ) → k < 10 → FirstHeld refusals k → verdict t r ≡ says (k + 1) ((at refusals k).gives t)
  unfolding verdict
  refused_when k h f = held_judged refusals k h f ∙ ap (λ (n : ℕ). says n ((at refusals k).gives t)) (in_order k h)

  pub refused_only : (k : ℕ) → k < 10 → (verdict t r).number ≡ k + 1 → FirstHeld refusals k
  unfolding success
  refused_only k h e = go (judged_held judged)
    where
      go : (verdict t r ≡ success t) ⊎ Given refusals (verdict t r) → FirstHeld refusals k
      go (inl z) = absurd (omega (arith, ap (λ (v : Verdict). v.number) z))
      go (inr g) =
          let l = g.inside in
          let p : g.place ≡ k = omega (arith, ap (λ (v : Verdict). v.number) g.given, in_order g.place l) in
          rw p at g.is

  -- no more numbers than each refusal, and success, gives
  few_list : (n : ℕ) → 3 ≤ n → {fs : List Refusal} {v : Verdict} → All (λ f. length (f.gives t) ≤ n) fs → Judged fs v → length v.gives ≤ n
  unfolding success
  few_list n h a accepted = h
  few_list n h a (refused e) = a.0
  few_list n h a (passed e j) = few_list n h a.1 j

  pub few : length (verdict t r).gives ≤ 3
  few = few_list 3 (omega arith) (omega arith) judged

  -- success is success, and no refusal held
  none_held : {fs : List Refusal} {v : Verdict} → All (λ f. 0 < f.number) fs → Judged fs v → v.number ≡ 0 → All (λ f. f.holds t r ≡ false) fs × (v ≡ success t)
  none_held a accepted z = (tt, refl)
  none_held a (refused e) z = absurd (omega (arith, a.0))
  none_held a (passed e j) z = let k = none_held a.1 j z in ((e, k.0), k.1)

  -- none of the ten conditions holds
  pub record Accepted : Type 0 where
    pub shape : BadShape.holds t r ≡ false
    pub many : TooMany.holds t r ≡ false
    pub corpus : EmptyCorpus.holds t r ≡ false
    pub frequency : ZeroFrequency.holds t r ≡ false
    pub order : OutOfOrder.holds t r ≡ false
    pub weight : TooHeavy.holds t r ≡ false
    pub work : WorkRoom.holds t r ≡ false
    pub seed : SeedRoom.holds t r ≡ false
    pub vocab : VocabTooSmall.holds t r ≡ false
    pub output : OutputRoom.holds t r ≡ false

  pub accepts : (verdict t r).number ≡ 0 → Accepted × (verdict t r ≡ success t)
  accepts z =
      let k = none_held {fs = refusals} (omega arith) judged z in
      let h₁ = k.0 in
      let h₂ = h₁.1 in
      let h₃ = h₂.1 in
      let h₄ = h₃.1 in
      let h₅ = h₄.1 in
      let h₆ = h₅.1 in
      let h₇ = h₆.1 in
      let h₈ = h₇.1 in
      let h₉ = h₈.1 in
      let h₁₀ = h₉.1 in (
        record {
          shape = h₁.0;
          many = h₂.0;
          corpus = h₃.0;
          frequency = h₄.0;
          order = h₅.0;
          weight = h₆.0;
          work = h₇.0;
          seed = h₈.0;
          vocab = h₉.0;
          output = h₁₀.0;
        },
        k.1,
      )

  pub accepting : Accepted → verdict t r ≡ success t
  unfolding verdict
  accepting a = judged_only (passed a.shape (passed a.many (passed a.corpus (passed a.frequency (passed a.order
      (passed a.weight (passed a.work (passed a.seed (passed a.vocab (passed a.output accepted))))))))))
