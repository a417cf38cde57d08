-- A table of spellings whose cells are as they were, whatever is written beside it. Assumes nothing.
use mathlib.Core.Path.{◌≡◌, refl, ◌∙◌}
use mathlib.Core.Bool.{Bool}
use mathlib.Core.List.{List}
use mathlib.Core.Logic.{◌⊎◌, inl, inr}
use Prim.Native.Nat.{ℕ, zero, suc, ◌+◌, ◌%◌, ◌<◌, ◌≤◌}
use native.Mathlib.Omega.{arith}
use lib.ListN.{length}
use Rattle.runs.specs.Parts.{nth, Kept}
use Rattle.cells.specs.Ring.{after}
use Rattle.cells.proofs.Rings.{after_lt, blanks-same}
use Rattle.rule.specs.Layout.{piece_at}
use Rattle.spells.specs.Hash.{hash_of}
use Rattle.intern.specs.Seek.{seek, vacancies}
use Rattle.intern.specs.Intern.{spelt, look, Pieces}
use Rattle.intern.proofs.Interning.{home_lt}

module _ (base cap : ℕ) (cs ds : List ℕ) (same : (j : ℕ) → j < cap → nth ds (base + j) ≡ nth cs (base + j)) where
  seek_same : (t : ℕ → Bool) (n i : ℕ) → i < cap → seek t ds base cap n i ≡ seek t cs base cap n i
  unfolding seek
  seek_same t zero i h = refl
  seek_same t (suc n) i h = rw (same i h, seek_same t n (after cap i) (after_lt cap i h))

  look_same : 0 < cap → (xs ys s : List ℕ) → look base cap ds xs ys s ≡ look base cap cs xs ys s
  unfolding look
  look_same p xs ys s = seek_same (spelt (hash_of s) s xs ys) cap (hash_of s % cap) (home_lt (hash_of s) cap p)

  pub pieces_elsewhere : (n u : ℕ) (xs ys : List ℕ) → length ds ≡ length cs → Pieces base cap n u cs xs ys → Pieces base cap n u ds xs ys
  unfolding vacancies
  pieces_elsewhere n u xs ys e p =
      let k = p.known in
      record {
        rooms = p.rooms;
        known = record {
          room = omega (arith, k.room);
          small = omega (arith, k.small);
          some = k.some;
          few = k.few;
          numbers = λ j h v. rw (same j h) (k.numbers j h (omega (arith, same j h)));
          found = λ i h. look_same k.some xs ys (piece_at xs ys i) ∙ k.found i h;
          vacant = omega (arith, k.vacant, blanks-same cap (λ (j : ℕ). nth cs (base + j)) (λ (j : ℕ). nth ds (base + j)) same);
        };
      }

-- as a frame says it
pub pieces-kept : (base cap n u lo hi : ℕ) (cs ds xs ys : List ℕ) → Kept lo hi cs ds → (hi ≤ base) ⊎ (base + cap ≤ lo) → Pieces base cap n u cs xs ys → Pieces base cap n u ds xs ys
pieces-kept base cap n u lo hi cs ds xs ys k o p = pieces_elsewhere base cap cs ds same n u xs ys k.long p
  where
    out : (j : ℕ) → j < cap → (hi ≤ base) ⊎ (base + cap ≤ lo) → (base + j < lo) ⊎ (hi ≤ base + j)
    out j h (inl q) = inr (omega arith)
    out j h (inr q) = inl (omega arith)

    same : (j : ℕ) → j < cap → nth ds (base + j) ≡ nth cs (base + j)
    same j h = k.same (base + j) (out j h o)
