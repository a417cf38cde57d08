-- Rows 8 to 10 as conditions on numbers, and what each answer says. Assumes nothing.
use mathlib.Core.Path.{◌≡◌, refl, sym, ◌∙◌}
use mathlib.Core.Bool.{Bool, true, false, cond, ◌||◌}
use mathlib.Core.List.{[], ◌∷◌}
use mathlib.Core.Logic.{◌⊎◌, inl, inr}
use Prim.Native.Nat.{ℕ, ◌*◌, ◌<◌, ◌≤◌}
use native.Mathlib.Omega.{arith}
use lib.Dec.{ltb}
use lib.ListN.{length}
use borrow.Author.Tests.{lt-ltb, le-ltb}
use Rattle.rule.specs.Shapes.{some?}
use Rattle.rule.specs.Table.{Task, Rooms}
use Rattle.rule.specs.Seeding.{seeds}
use Rattle.rule.specs.Training.{trained, all_pieces}
use Rattle.rule.specs.Layout.{piece_bytes, piece_records, merge_bytes, saving_bytes}
use Rattle.rule.specs.Refusals.{says, judge, success, seed_room, vocab_too_small, output_room}
use Rattle.rule.proofs.Lengths.{length-piece_records}
use Rattle.intern.specs.Many.{Exceed}
use Rattle.table.specs.Answers.{later_rows}

module _ (t : Task) (r : Rooms) where
  -- the three rows, one after the other
  later : judge later_rows t r
      ≡ cond (seed_room t r) (says 8 [])
      (cond (vocab_too_small t.vocab_size (length (seeds t))) (says 9 (t.vocab_size ∷ length (seeds t) ∷ [])) (cond (output_room t r) (says 10 []) (success t)))
  unfolding judge
  later = refl

  says_8 : seed_room t r ≡ true → says 8 [] ≡ judge later_rows t r
  says_8 a = sym (later ∙ rw a)

  says_9 : seed_room t r ≡ false → vocab_too_small t.vocab_size (length (seeds t)) ≡ true → says 9 (t.vocab_size ∷ length (seeds t) ∷ []) ≡ judge later_rows t r
  says_9 a b = sym (later ∙ rw (a, b))

  says_10 : seed_room t r ≡ false → vocab_too_small t.vocab_size (length (seeds t)) ≡ false → output_room t r ≡ true → says 10 [] ≡ judge later_rows t r
  says_10 a b c = sym (later ∙ rw (a, b, c))

  says_0 : seed_room t r ≡ false → vocab_too_small t.vocab_size (length (seeds t)) ≡ false → output_room t r ≡ false → success t ≡ judge later_rows t r
  says_0 a b c = sym (later ∙ rw (a, b, c))

  -- ROW 8
  seed_over : (length r.piece_ends < length (seeds t) * 4) ⊎ (length r.pieces < length (piece_bytes (seeds t))) → seed_room t r ≡ true
  unfolding seed_room some?
  seed_over (inl i) = rw (lt-ltb (length r.piece_ends) (length (piece_records (seeds t))) (omega (arith, length-piece_records (seeds t))))
  seed_over (inr i) = either (ltb (length r.piece_ends) (length (piece_records (seeds t)))) (lt-ltb (length r.pieces) (length (piece_bytes (seeds t))) i)
    where
      either : (b : Bool) {c : Bool} → c ≡ true → (b || (c || false)) ≡ true
      either true e = refl
      either false e = rw e

  pub seed_exceeds : (length r.piece_ends < length (seeds t) * 4) ⊎ (length r.pieces < length (piece_bytes (seeds t))) → says 8 [] ≡ judge later_rows t r
  seed_exceeds h = says_8 (seed_over h)

  module _ (ends : length (seeds t) * 4 ≤ length r.piece_ends) (bytes : length (piece_bytes (seeds t)) ≤ length r.pieces) where
    seed_fits : seed_room t r ≡ false
    unfolding seed_room some?
    seed_fits =
        rw (le-ltb (length r.piece_ends) (length (piece_records (seeds t))) (omega (arith, length-piece_records (seeds t))), le-ltb (length r.pieces) (length (piece_bytes (seeds t))) bytes)

    -- ROW 9
    pub vocab_low : t.vocab_size < length (seeds t) → says 9 (t.vocab_size ∷ length (seeds t) ∷ []) ≡ judge later_rows t r
    unfolding vocab_too_small
    vocab_low h = says_9 seed_fits (lt-ltb t.vocab_size (length (seeds t)) h)

    module _ (high : length (seeds t) ≤ t.vocab_size) where
      vocab_fits : vocab_too_small t.vocab_size (length (seeds t)) ≡ false
      unfolding vocab_too_small
      vocab_fits = le-ltb t.vocab_size (length (seeds t)) high

      -- ROW 10: pieces, or merges and savings, exceed a room
      over : (a b c d e : Bool) → (a ≡ true) ⊎ ((b ≡ true) ⊎ ((e ≡ true) ⊎ ((c ≡ true) ⊎ (d ≡ true)))) → some? (a ∷ b ∷ c ∷ d ∷ e ∷ []) ≡ true
      unfolding some?
      over true b c d e h = refl
      over false true c d e h = refl
      over false false true d e h = refl
      over false false false true e h = refl
      over false false false false true h = refl
      over false false false false false (inl h) = h
      over false false false false false (inr (inl h)) = h
      over false false false false false (inr (inr (inl h))) = h
      over false false false false false (inr (inr (inr (inl h)))) = h
      over false false false false false (inr (inr (inr (inr h)))) = h

      pub output_exceeds : Exceed (all_pieces t) r.pieces r.piece_ends ⊎ ((length r.merges < length (merge_bytes (trained t))) ⊎ (length r.savings < length (saving_bytes (trained t))))
          → says 10 [] ≡ judge later_rows t r
      unfolding output_room Exceed
      output_exceeds h = says_10 seed_fits vocab_fits (over (ltb (length r.piece_ends) (length (piece_records (all_pieces t)))) (ltb (length r.pieces) (length (piece_bytes (all_pieces t))))
          (ltb (length r.merges) (length (merge_bytes (trained t)))) (ltb (length r.savings) (length (saving_bytes (trained t)))) (ltb 4294967295 (length (piece_bytes (all_pieces t)))) (go h))
        where
          go : Exceed (all_pieces t) r.pieces r.piece_ends ⊎ ((length r.merges < length (merge_bytes (trained t))) ⊎ (length r.savings < length (saving_bytes (trained t))))
              → (ltb (length r.piece_ends) (length (piece_records (all_pieces t))) ≡ true)
              ⊎ ((ltb (length r.pieces) (length (piece_bytes (all_pieces t))) ≡ true)
              ⊎ ((ltb 4294967295 (length (piece_bytes (all_pieces t))) ≡ true)
              ⊎ ((ltb (length r.merges) (length (merge_bytes (trained t))) ≡ true) ⊎ (ltb (length r.savings) (length (saving_bytes (trained t))) ≡ true))))
          go (inl (inl i)) = inl (lt-ltb (length r.piece_ends) (length (piece_records (all_pieces t))) (omega (arith, length-piece_records (all_pieces t))))
          go (inl (inr (inl i))) = inr (inl (lt-ltb (length r.pieces) (length (piece_bytes (all_pieces t))) i))
          go (inl (inr (inr i))) = inr (inr (inl (lt-ltb 4294967295 (length (piece_bytes (all_pieces t))) i)))
          go (inr (inl i)) = inr (inr (inr (inl (lt-ltb (length r.merges) (length (merge_bytes (trained t))) i))))
          go (inr (inr i)) = inr (inr (inr (inr (lt-ltb (length r.savings) (length (saving_bytes (trained t))) i))))

      -- SUCCESS
      pub all_fit : length (piece_records (all_pieces t)) ≤ length r.piece_ends → length (piece_bytes (all_pieces t)) ≤ length r.pieces → length (piece_bytes (all_pieces t)) ≤ 4294967295
          → length (merge_bytes (trained t)) ≤ length r.merges → length (saving_bytes (trained t)) ≤ length r.savings
          → (p a m : ℕ) → p ≡ length (all_pieces t) → a ≡ length (seeds t) → m ≡ length (trained t) → says 0 (p ∷ a ∷ m ∷ []) ≡ judge later_rows t r
      unfolding output_room some? success
      all_fit h i j k l p a m ep ea em =
          rw (ep, ea, em)
          (says_0 seed_fits vocab_fits
          (rw (
            le-ltb (length r.piece_ends) (length (piece_records (all_pieces t))) h,
            le-ltb (length r.pieces) (length (piece_bytes (all_pieces t))) i,
            le-ltb (length r.merges) (length (merge_bytes (trained t))) k,
            le-ltb (length r.savings) (length (saving_bytes (trained t))) l,
            le-ltb 4294967295 (length (piece_bytes (all_pieces t))) j,
          )))
