-- Each way through `rindovesh_merge_symbols` is one case of document 01's outcome; and the contract leaves a single one. Assumes nothing.
use mathlib.Core.Path.{◌≡◌, refl, sym, ap, ◌∙◌}
use mathlib.Core.List.{List, [], ◌∷◌}
use Prim.Native.Nat.{ℕ, ◌≤◌, ◌<◌}
use native.Mathlib.Omega.{arith}
use lib.ListN.{length}
use Rattle.runs.specs.Parts.{nth}
use Rattle.runs.proofs.Parts.{same_or_not}
use Rattle.rule.specs.Refusals.{Verdict}
use Rattle.rule.specs.Outcome.{told, merge_verdict, Merged, merge_outcome}
use Rattle.rule.proofs.Merging.{merge_short, merge_refused, merge_done}
use Rattle.symbols.specs.Merging.{verdict_of, Merging}
use Rattle.std.specs.Prelude.{Result, Ok, Err}
use Rattle.symbols.specs.declared.Merged as symbols
use Rattle.error.specs.declared.MergeError.{MergeError}
use Rattle.error.specs.declared.MergeError.TheVariants.{BadShape, ChangeRoom}
use Rattle.error.specs.Answers.{merge_error_verdict}
use Rattle.error.proofs.Told.{told_three}
use Rattle.door.specs.Door.{merged}

-- two records are equal by their fields
fields : (r r' : ℕ) (s s' c c' n n' : List ℕ) → r ≡ r' → s ≡ s' → c ≡ c' → n ≡ n' → merged r s c n ≡ merged r' s' c' n'
fields r r' s s' c c' n n' er es ec en = rw (er, es, ec, en)

module _ (s : List ℕ) (a b x : ℕ) (c answer : List ℕ) where
  pub short_answer : (k : ℕ) → length answer < 64 → k ≡ (merge_error_verdict BadShape).number → merged k s c answer ≡ merge_outcome s a b x c answer
  unfolding merge_error_verdict
  short_answer k h e = rw e (sym (merge_short s a b x c answer h))

  -- of an outcome with a long answer run, the number returned and the answer run are the verdict's
  module _ (h : 64 ≤ length answer) where
    returns : (merge_verdict s a b x c).number ≡ (merge_outcome s a b x c answer).returned
    returns =
        same_or_not (merge_verdict s a b x c).number 0
        (λ z. z ∙ sym (ap (λ (o : Merged). o.returned) (merge_done s a b x c answer h z)))
        (λ n. sym (ap (λ (o : Merged). o.returned) (merge_refused s a b x c answer h n)))

    gives : told answer (merge_verdict s a b x c).gives ≡ (merge_outcome s a b x c answer).answer
    gives =
        same_or_not (merge_verdict s a b x c).number 0
        (λ z. sym (ap (λ (o : Merged). o.answer) (merge_done s a b x c answer h z)))
        (λ n. sym (ap (λ (o : Merged). o.answer) (merge_refused s a b x c answer h n)))

    module _ (m : Result symbols.Merged MergeError) (s' c' : List ℕ) (σ : Merging s a b x c m s' c') where
      whole : (k : ℕ) (new : List ℕ) → k ≡ (verdict_of m).number → new ≡ told answer (verdict_of m).gives → merged k s' c' new ≡ merge_outcome s a b x c answer
      whole k new ek en =
          fields k (merge_outcome s a b x c answer).returned s' (merge_outcome s a b x c answer).symbols c' (merge_outcome s a b x c answer).changes new (merge_outcome s a b x c answer).answer
          (ek ∙ ap (λ (u : Verdict). u.number) σ.answered ∙ returns)
          (σ.symbols answer h)
          (σ.changes answer h)
          (en ∙ ap (λ (u : Verdict). told answer u.gives) σ.answered ∙ gives)

      given_none : (e : MergeError) → (merge_error_verdict e).gives ≡ []
      unfolding merge_error_verdict
      given_none BadShape = refl
      given_none ChangeRoom = refl

      pub refused : (e : MergeError) (k : ℕ) → m ≡ Err e → k ≡ (merge_error_verdict e).number
          → (new : List ℕ) → new ≡ told answer (0 ∷ 0 ∷ 0 ∷ []) → merged k s' c' new ≡ merge_outcome s a b x c answer
      unfolding verdict_of nth
      refused e k f g new n = whole k new (rw f g) (n ∙ told_three answer [] (omega arith) h ∙ rw (f, given_none e))

      pub success : (d : symbols.Merged) → m ≡ Ok d → (new : List ℕ) → new ≡ told answer (d.rewrites ∷ d.kept ∷ d.reports ∷ []) → merged 0 s' c' new ≡ merge_outcome s a b x c answer
      unfolding verdict_of
      success d e new f = whole 0 new (rw e) (f ∙ rw e)

-- TWO OUTCOMES THAT THE CONTRACT ALLOWS ARE EQUAL
pub merged_single : (s : List ℕ) (a b x : ℕ) (c answer : List ℕ) (r r' : ℕ) (s₁ s₂ c₁ c₂ n₁ n₂ : List ℕ)
    → merged r s₁ c₁ n₁ ≡ merge_outcome s a b x c answer → merged r' s₂ c₂ n₂ ≡ merge_outcome s a b x c answer
    → (r ≡ r') × (s₁ ≡ s₂) × (c₁ ≡ c₂) × (n₁ ≡ n₂)
merged_single s a b x c answer r r' s₁ s₂ c₁ c₂ n₁ n₂ e f =
    let z : merged r s₁ c₁ n₁ ≡ merged r' s₂ c₂ n₂ = e ∙ sym f in
    (ap (λ (o : Merged). o.returned) z, ap (λ (o : Merged). o.symbols) z, ap (λ (o : Merged). o.changes) z, ap (λ (o : Merged). o.answer) z)
