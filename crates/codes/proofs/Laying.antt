-- The laws of the text as it is written: a spelling, a line, and the loop over the lines. Assumes nothing.
use mathlib.Core.Path.{◌≡◌, refl, sym, ap, ◌∙◌}
use mathlib.Core.List.{List, [], ◌∷◌, ◌++◌}
use Prim.Native.Nat.{ℕ, ◌+◌, ◌<◌, ◌≤◌}
use native.Mathlib.Omega.{arith}
use lib.ListN.{length, set, length-append}
use lib.Seq.{append_snoc}
use Rattle.runs.specs.Parts.{put, laid}
use Rattle.runs.proofs.Parts.{laid_none, laid-more, laid-laid, length-laid}
use Rattle.vocab.specs.Reading.{piece_given}
use Rattle.codes.specs.Codes.{code_line, left_of, right_of, line_of}
use Rattle.codes.specs.Writing.{lines_to, Placed, Going}
use Rattle.codes.proofs.Lengths.{line_is, lines_step, lines_over, length-lines_step}

-- A SPELLING and one byte

pub put-laid : (xs ys s : List ℕ) (at byte : ℕ) → at + (length s + 1) ≤ length xs → ys ≡ laid xs at s
    → Placed xs (set ys (at + length s) byte) at (s ++ (byte ∷ [])) (at + length s + 1)
unfolding put
put-laid xs ys s at byte h e =
    let m = laid-more xs at s byte (omega arith) in
    record {
      is = rw e m;
      behind = simp length-append (omega arith);
    }

-- A LINE: the two spellings, each with the byte behind it

module _ (xs ys zs x y : List ℕ) (at mid r : ℕ) where
  two : at + length (code_line x y) ≤ length xs → Placed xs ys at (x ++ (32 ∷ [])) mid → Placed ys zs mid (y ++ (10 ∷ [])) r → Placed xs zs at (code_line x y) r
  unfolding code_line
  two h a b =
      let j : x ++ (32 ∷ []) ++ (y ++ (10 ∷ [])) ≡ x ++ (32 ∷ (y ++ (10 ∷ []))) = append_snoc x 32 (y ++ (10 ∷ [])) in
      let l = ap length j in
      let k = length-append (x ++ (32 ∷ [])) (y ++ (10 ∷ [])) in
      record {
        is = b.is ∙ rw (a.is, a.behind) (laid-laid xs at (x ++ (32 ∷ [])) (y ++ (10 ∷ [])) (omega (arith, l, k))) ∙ ap (λ (s : List ℕ). laid xs at s) j;
        behind = omega (arith, a.behind, b.behind, l, k);
      }

  room_first : at + length (code_line x y) ≤ length xs → at + (length x + 1) ≤ length xs
  unfolding code_line
  room_first h = omega (arith, length-append x (32 ∷ (y ++ (10 ∷ []))))

  room_second : at + length (code_line x y) ≤ length xs → Placed xs ys at (x ++ (32 ∷ [])) mid → mid + (length y + 1) ≤ length ys
  unfolding code_line
  room_second h a =
      let k = length-append x (32 ∷ (y ++ (10 ∷ []))) in
      let l = length-append y (10 ∷ []) in
      let n = length-append x (32 ∷ []) in
      omega (arith, k, l, n, a.behind, ap length a.is, length-laid xs at (x ++ (32 ∷ [])) (omega (arith, k, n)))

module _ (p e m : List ℕ) (i a b : ℕ) (x y : List ℕ) (ea : a ≡ left_of m i) (ex : x ≡ piece_given p e a) (eb : b ≡ right_of m i) (ey : y ≡ piece_given p e b)
    (xs : List ℕ) (at : ℕ) (h : at + length (line_of p e m i) ≤ length xs) where
  room : at + length (code_line x y) ≤ length xs
  room = rw (line_is p e m i a b x y ea ex eb ey) at h

  pub line-first : at + (length x + 1) ≤ length xs
  line-first = room_first xs [] [] x y at 0 0 room

  module _ (ys : List ℕ) (mid : ℕ) (k : Placed xs ys at (x ++ (32 ∷ [])) mid) where
    pub line_second : mid + (length y + 1) ≤ length ys
    line_second = room_second xs ys [] x y at mid 0 room k

    pub line-laid : (zs : List ℕ) (r : ℕ) → Placed ys zs mid (y ++ (10 ∷ [])) r → Placed xs zs at (line_of p e m i) r
    line-laid zs r l = rw (line_is p e m i a b x y ea ex eb ey) (two xs ys zs x y at mid r room k l)

-- THE LINES

module _ (p e m : List ℕ) (count : ℕ) (xs : List ℕ) (from : ℕ) where
  pub going_start : from + length (lines_to p e m count 0) ≤ length xs → Going xs xs from from (lines_to p e m count 0) (lines_to p e m count 0)
  going_start h = record { is = refl; behind = refl; room = h; long = refl }

  module _ (ys : List ℕ) (at i : ℕ) (g : Going xs ys from at (lines_to p e m count 0) (lines_to p e m count i)) where
    pub going_can : i < count → at + length (line_of p e m i) ≤ length ys
    going_can h = omega (arith, length-lines_step p e m count i h, g.room)

    pub going_turn : (zs : List ℕ) (r : ℕ) → i < count → Placed ys zs at (line_of p e m i) r → Going xs zs from r (lines_to p e m count 0) (lines_to p e m count (i + 1))
    going_turn zs r h k =
        let s = length-lines_step p e m count i h in
        let l = length-laid ys at (line_of p e m i) (omega (arith, s, g.room)) in
        let j = laid-laid ys at (line_of p e m i) (lines_to p e m count (i + 1)) (omega (arith, s, g.room)) in
        record {
          is = g.is ∙ rw (lines_step p e m count i h, k.is, k.behind) (sym j);
          behind = omega (arith, s, g.behind, k.behind);
          room = omega (arith, s, g.room, k.behind, ap length k.is, l);
          long = omega (arith, ap length k.is, l, g.long);
        }

    pub going_end : count ≤ i → Placed xs ys from (lines_to p e m count 0) at
    going_end h =
        let z = lines_over p e m count i h in
        record { is = sym (g.is ∙ rw z (laid_none ys at)); behind = omega (arith, ap length z, g.behind) }
