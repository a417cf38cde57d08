-- What stands in a list, and in one that a word is noted in. Assumes nothing.
use mathlib.Core.Path.{◌≡◌, refl, ◌∙◌}
use mathlib.Core.Bool.{Bool, true, false, cond, and-eq-true_iff}
use mathlib.Core.List.{List, [], ◌∷◌, ◌++◌}
use Prim.Native.Nat.{ℕ, ◌+◌, ◌-◌, ◌<◌}
use native.Mathlib.Omega.{arith}
use lib.Dec.{eqb, ltb}
use lib.ListN.{length, length-append, get_or-append}
use lib.Seq.{get_or-append_seam}
use borrow.Author.Tests.{ltb-true, eqb-true}
use Rattle.runs.specs.Parts.{nth}
use Rattle.runs.proofs.Parts.{below_or_not}
use Rattle.states.specs.State.{Among, last_is, noted}

-- ONE MORE AT THE END
module _ (ws : List ℕ) (w : ℕ) where
  pub length-more : length (ws ++ (w ∷ [])) ≡ length ws + 1
  length-more = length-append ws (w ∷ [])

  pub nth_old : (j : ℕ) → j < length ws → nth (ws ++ (w ∷ [])) j ≡ nth ws j
  unfolding nth
  nth_old j h = get_or-append ws (w ∷ []) 0 j h

  pub nth_new : nth (ws ++ (w ∷ [])) (length ws) ≡ w
  unfolding nth
  nth_new = get_or-append_seam ws w [] 0

  pub among_new : Among w (ws ++ (w ∷ []))
  among_new = record { at = length ws; low = omega (arith, length-more); is = nth_new }

  pub among_old : {j : ℕ} → Among j ws → Among j (ws ++ (w ∷ []))
  among_old a = let l = a.low in record { at = a.at; low = omega (arith, length-more); is = nth_old a.at a.low ∙ a.is }

  pub among_only : {j : ℕ} → (j ≡ w → ⊥) → Among j (ws ++ (w ∷ [])) → Among j ws
  among_only {j} n a =
      let l = a.low in
      let i = a.is in
      below_or_not a.at (length ws)
      (λ h. record { at = a.at; low = h; is = rw (nth_old a.at h) at i })
      (λ h. let e : a.at ≡ length ws = omega (arith, length-more) in let f = rw (e, nth_new) at i in absurd (n (omega arith)))

-- THE LAST NOTED
last_is_lem : (w : ℕ) (ws : List ℕ) → last_is w ws ≡ true → Among w ws
unfolding last_is
last_is_lem w ws e =
    let p = (and-eq-true_iff (ltb 0 (length ws)) (eqb (nth ws (length ws - 1)) w)).0 e in
    let h = ltb-true 0 (length ws) p.0 in
    record { at = length ws - 1; low = omega arith; is = eqb-true _ _ p.1 }

module _ (w : ℕ) (ws : List ℕ) where
  pub noted_has : Among w (noted w ws)
  unfolding noted
  noted_has = go (last_is w ws) refl
    where
      go : (b : Bool) → last_is w ws ≡ b → Among w (cond b ws (ws ++ (w ∷ [])))
      go true e = last_is_lem w ws e
      go false e = among_new ws w

  pub noted-keeps : {j : ℕ} → Among j ws → Among j (noted w ws)
  unfolding noted
  noted-keeps {j} a = go (last_is w ws)
    where
      go : (b : Bool) → Among j (cond b ws (ws ++ (w ∷ [])))
      go true = a
      go false = among_old ws w a

  pub noted_only : {j : ℕ} → (j ≡ w → ⊥) → Among j (noted w ws) → Among j ws
  unfolding noted
  noted_only {j} n a = go (last_is w ws) a
    where
      go : (b : Bool) → Among j (cond b ws (ws ++ (w ∷ []))) → Among j ws
      go true h = h
      go false h = among_only ws w n h
