-- The list of the pairs that a merge touched: its keys one by one, and that it stays where its records and cells stay. Assumes nothing.
use mathlib.Core.Path.{◌≡◌, sym, ap, ◌∙◌}
use mathlib.Core.List.{List, [], ◌∷◌, ◌++◌, map, map-append}
use mathlib.Core.Logic.{inr}
use Prim.Native.Nat.{ℕ, ◌+◌, ◌<◌, ◌≤◌}
use native.Mathlib.Omega.{arith}
use lib.ListN.{length, length-map}
use Rattle.runs.specs.Parts.{nth, part, Kept}
use Rattle.runs.proofs.Parts.{length-part, nth-part, part_none, part-more, nth_ext, nth-map}
use Rattle.states.specs.State.{State}
use Rattle.states.specs.Tracking.{Touching}
use Rattle.pairs.specs.View.{behind, record_of, key_in, state}
use Rattle.pairs.specs.Pairs.{Pairing}
use Rattle.pairs.specs.declared.Pairs.{Pairs}
use Rattle.reports.specs.Reports.{keys_of, Listing, Staying}

-- THE KEYS OF A LIST
pub keys_none : (p : Pairs) (cs : List ℕ) → keys_of p 0 cs ≡ []
unfolding keys_of
keys_none p cs = ap (map (key_in p cs)) (part_none (behind p) cs)

module _ (p : Pairs) (n : ℕ) (cs : List ℕ) where
  pub keys_length : behind p + n ≤ length cs → length (keys_of p n cs) ≡ n
  unfolding keys_of
  keys_length h = length-map (part (behind p) n cs) (key_in p cs) ∙ length-part (behind p) n cs h

  pub keys_nth : behind p + n ≤ length cs → (j : ℕ) → j < n → nth (keys_of p n cs) j ≡ key_in p cs (nth cs (behind p + j))
  unfolding keys_of
  keys_nth h j l =
      nth-map (key_in p cs) (part (behind p) n cs) j (omega (arith, length-part (behind p) n cs h))
      ∙ ap (key_in p cs) (nth-part (behind p) n cs j l)

  pub keys_more : behind p + n < length cs → keys_of p (n + 1) cs ≡ keys_of p n cs ++ (key_in p cs (nth cs (behind p + n)) ∷ [])
  unfolding keys_of
  keys_more h = ap (map (key_in p cs)) (part-more (behind p) n cs h) ∙ map-append (key_in p cs) (part (behind p) n cs) (nth cs (behind p + n) ∷ [])

-- A LIST STAYS, where its cells and its records stay
module _ (p : Pairs) (e n : ℕ) (was is : List ℕ) (l : Listing p e n was) (ok : Pairing p is) (long : length is ≡ length was)
    (cells : (j : ℕ) → j < n → nth is (behind p + j) ≡ nth was (behind p + j)) (stay : Staying p was is) where
  fits : behind p + n ≤ length was
  fits = omega (arith, l.room, l.few)

  above : (j : ℕ) → j < n → 0 < nth (keys_of p n was) j
  above j h = l.touching.some j (omega (arith, keys_length p n was fits))

  pub links_kept : (j : ℕ) → j < n → record_of p is (nth (keys_of p n was) j) ≡ nth is (behind p + j) + 1
  links_kept j h = rw (cells j h) (stay (nth (keys_of p n was) j) (nth was (behind p + j)) (above j h) (l.link j h))

  pub keys_kept : keys_of p n is ≡ keys_of p n was
  keys_kept =
      nth_ext (keys_of p n is) (keys_of p n was) (long_is ∙ sym (keys_length p n was fits))
      (λ j h. let k : j < n = omega (arith, long_is) in
      keys_nth p n is (omega (arith, fits)) j k ∙ (ok.tied (nth (keys_of p n was) j) (nth is (behind p + j)) (above j k) (links_kept j k)).key)
    where
      long_is : length (keys_of p n is) ≡ n
      long_is = keys_length p n is (omega (arith, fits))

  pub listing_kept : Touching (state p is) e (keys_of p n was) → Listing p e n is
  listing_kept t = record {
    room = omega (arith, l.room);
    few = l.few;
    link = λ j h. rw keys_kept (links_kept j h);
    touching = rw keys_kept t;
  }

-- where the marks stay, what is touched stays
pub touching_same : {σ τ : ℕ → State} {e : ℕ} {ks : List ℕ} → ((c : ℕ) → 0 < c → (τ c).marks ≡ (σ c).marks) → Touching σ e ks → Touching τ e ks
touching_same {σ} {τ} {e} {ks} m t = record {
  once = t.once;
  touches = λ j l. rw (m (nth ks j) (t.some j l)) (t.touches j l);
  other = t.other;
  some = t.some;
  listed = λ c z n h. t.listed c z n (rw (m c z) at h);
  gains = λ c z h. rw (m c z) (t.gains c z (rw (m c z) at h));
  merging = λ z. rw (m e z) (t.merging z);
  ungained = λ z. rw (m e z) (t.ungained z);
}

-- THE LIST OF A CHANGE that leaves the cells behind the pair states
module _ {p : Pairs} {e n : ℕ} {was is : List ℕ} (l : Listing p e n was) (ok : Pairing p is) (k : Kept p.base (behind p) was is) (stay : Staying p was is) where
  pub listing_moves : Touching (state p is) e (keys_of p n was) → Listing p e n is
  listing_moves t = listing_kept p e n was is l ok k.long (λ j h. k.same (behind p + j) (inr (omega arith))) stay t

  pub listing_marks : ((c : ℕ) → 0 < c → (state p is c).marks ≡ (state p was c).marks) → Listing p e n is
  listing_marks m = listing_moves (touching_same m l.touching)
