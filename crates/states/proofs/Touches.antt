-- The touched pairs of a merge: at its start, and when a pair is touched again or for the first time. Assumes nothing.
use mathlib.Core.Path.{◌≡◌, refl, sym, ◌∙◌}
use mathlib.Core.Bool.{Bool, true, false}
use mathlib.Core.List.{List, [], ◌∷◌, ◌++◌}
use Prim.Native.Nat.{ℕ, ◌<◌}
use native.Mathlib.Omega.{arith}
use lib.ListN.{length}
use Rattle.runs.specs.Parts.{nth}
use Rattle.runs.proofs.Parts.{same_or_not, below_or_not}
use Rattle.marks.specs.Marks.{touched, gained, marked, marking}
use Rattle.marks.proofs.Marks.{marked-same, marked_other}
use Rattle.states.specs.State.{State, Change}
use Rattle.states.specs.Tracking.{Calm, Touching}
use Rattle.states.proofs.Notes.{length-more, nth_old, nth_new, among_new, among_old}
use Rattle.states.proofs.Gains.{not_both}

-- NO PAIR IS MERGED: none is touched
pub touching_none : {σ : ℕ → State} → Calm σ → Touching σ 0 []
touching_none {σ} m = record {
  once = λ i j l h. absurd (omega arith);
  touches = λ j h. absurd (omega arith);
  other = λ j h. absurd (omega arith);
  some = λ j h. absurd (omega arith);
  listed = λ c z n t. not_both touched (σ c).marks (m.untouched c z) t;
  gains = λ c z g. not_both gained (σ c).marks (m.ungained c z) g;
  merging = λ z. absurd (omega arith);
  ungained = λ z. absurd (omega arith);
}

-- A PAIR IS MERGED: its own mark is set, and it is not listed
pub touching_merge : {σ τ : ℕ → State} (e : ℕ) → Calm σ → 0 < e
    → Change e (record { count = (σ e).count; marks = marking touched true (σ e).marks; words = (σ e).words }) σ τ → Touching τ e []
touching_merge {σ} {τ} e m he h = record {
  once = λ i j l k. absurd (omega arith);
  touches = λ j k. absurd (omega arith);
  other = λ j k. absurd (omega arith);
  some = λ j k. absurd (omega arith);
  listed = λ c z n t. not_both touched (σ c).marks (m.untouched c z) (rw (h.others c z n) at t);
  gains = λ c z g. same_or_not c e
      (λ i. rw (i, h.here) (marked-same touched true (σ e).marks))
      (λ n. not_both gained (σ c).marks (m.ungained c z) (rw (h.others c z n) at g));
  merging = λ z. rw h.here (marked-same touched true (σ e).marks);
  ungained = λ z. rw h.here (marked_other gained touched true (σ e).marks refl ∙ m.ungained e he);
}

-- A PAIR IS TOUCHED, and its state is s now
module _ {σ τ : ℕ → State} {e c : ℕ} {ks : List ℕ} {s : State} (t : Touching σ e ks) (hc : 0 < c) where
  -- a mark of the states, as it is of s and of the others
  at_change : (k : ℕ) (v : Bool) (d : ℕ) → 0 < d → Change c s σ τ → (d ≡ c → marked k s.marks ≡ v) → ((d ≡ c → ⊥) → marked k (σ d).marks ≡ v) → marked k (τ d).marks ≡ v
  at_change k v d z h f g = same_or_not d c (λ i. rw (i, h.here) (f i)) (λ n. rw (h.others d z n) (g n))

  -- again: the list is as it was
  pub touching_old : marked touched (σ c).marks ≡ true → Change c s σ τ → marked touched s.marks ≡ true → (marked gained s.marks ≡ true → c ≡ e → ⊥) → Touching τ e ks
  touching_old was h now free = record {
    once = t.once;
    touches = λ j l. at_change touched true (nth ks j) (t.some j l) h (λ _. now) (λ _. t.touches j l);
    other = t.other;
    some = t.some;
    listed = λ d z n m. same_or_not d c
        (λ i. t.listed d z n (rw i was))
        (λ o. t.listed d z n (rw (h.others d z o) at m));
    gains = λ d z g. at_change touched true d z h (λ _. now) (λ n. t.gains d z (rw (h.others d z n) at g));
    merging = λ z. at_change touched true e z h (λ _. now) (λ _. t.merging z);
    ungained = λ z. at_change gained false e z h (λ i. go (marked gained s.marks) refl (sym i)) (λ _. t.ungained z);
  }
    where
      go : (b : Bool) → marked gained s.marks ≡ b → c ≡ e → b ≡ false
      go false g i = refl
      go true g i = absurd (free g i)

  -- for the first time: it is listed last
  pub touching_new : (c ≡ e → ⊥) → marked touched (σ c).marks ≡ false → Change c s σ τ → marked touched s.marks ≡ true → Touching τ e (ks ++ (c ∷ []))
  touching_new ne was h now = record {
    once = λ i j l k f. below_or_not j (length ks)
        (λ o. t.once i j l o (rw (nth_old ks c i (omega arith), nth_old ks c j o) at f))
        (λ o.
        let e : j ≡ length ks = omega (arith, length-more ks c) in
        fresh i (omega arith) (rw (nth_old ks c i (omega arith), e, nth_new ks c) at f));
    touches = λ j k. each (λ d. marked touched (τ d).marks ≡ true)
        (λ i l. at_change touched true (nth ks i) (t.some i l) h (λ _. now) (λ _. t.touches i l))
        (rw h.here now) j k;
    other = λ j k. each (λ d. d ≡ e → ⊥) t.other ne j k;
    some = λ j k. each (λ d. 0 < d) t.some hc j k;
    listed = λ d z n m. same_or_not d c
        (λ i. rw i (among_new ks c))
        (λ o. among_old ks c (t.listed d z n (rw (h.others d z o) at m)));
    gains = λ d z g. at_change touched true d z h (λ _. now) (λ n. t.gains d z (rw (h.others d z n) at g));
    merging = λ z. at_change touched true e z h (λ _. now) (λ _. t.merging z);
    ungained = λ z. at_change gained false e z h (λ i. absurd (ne (sym i))) (λ _. t.ungained z);
  }
    where
      fresh : (i : ℕ) → i < length ks → nth ks i ≡ c → ⊥
      fresh i l f = not_both touched (σ c).marks was (rw f at (t.touches i l))

      each : (Q : ℕ → Type 0) → ((j : ℕ) → j < length ks → Q (nth ks j)) → Q c → (j : ℕ) → j < length (ks ++ (c ∷ [])) → Q (nth (ks ++ (c ∷ [])) j)
      each Q f g j k = below_or_not j (length ks)
          (λ o. rw (nth_old ks c j o) (f j o))
          (λ o. let e : j ≡ length ks = omega (arith, length-more ks c) in rw (e, nth_new ks c) g)
