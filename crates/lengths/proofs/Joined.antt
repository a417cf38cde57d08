-- The length of a joined piece, by the places of two pieces. Assumes nothing.
use mathlib.Core.Path.{◌≡◌, sym, ap, ◌∙◌}
use mathlib.Core.List.{List}
use Prim.Native.Nat.{ℕ, ◌+◌, ◌-◌, ◌^◌, ◌<◌, ◌≤◌}
use native.Mathlib.Omega.{arith}
use lib.Dec.{leb}
use lib.ListN.{length, take, drop}
use Rattle.runs.specs.Parts.{part}
use Rattle.runs.proofs.Parts.{length-part, part_lent_on}
use Rattle.rule.specs.Layout.{piece_start, piece_at}
use Rattle.rule.specs.Spelling.{joined, measure}
use Rattle.rule.specs.Training.{joined_of, within, limits}
use Rattle.spelling.specs.Lengths.{joined_length}
use Rattle.spelling.proofs.Lengths.{joined_long}
use Rattle.intern.specs.Pieces.{pieces, Held}
use Rattle.intern.proofs.Rooms.{piece_part, pieces_at}
use Rattle.lengths.specs.Places.{Stands}
use Rattle.vocab.specs.declared.Place.{Place}

-- A PIECE OF THE ROOMS, at its place
module _ {n u k : ℕ} {xs ys : List ℕ} {p : Place} (l : Held n u xs ys) (h : k < n) (s : Stands k ys p) where
  pub place_in : (p.start + p.length ≤ u) × (p.start + p.length ≤ length xs) × (p.start + p.length ≤ 4294967295)
  place_in =
      let m = l.low (k + 1) (omega arith) in
      (omega (arith, m, s.end_is), omega (arith, m, s.end_is, l.bytes), omega (arith, m, s.end_is, l.small))

  pub piece_is : part p.start p.length xs ≡ piece_at xs ys k
  piece_is =
      let e : piece_start ys (k + 1) - p.start ≡ p.length = omega (arith, s.end_is) in
      sym (piece_part xs ys k ∙ rw (← s.start_is, e))

  pub length_piece : length (piece_at xs ys k) ≡ p.length
  length_piece = ap length (sym piece_is) ∙ length-part p.start p.length xs place_in.1

-- A JOINED PIECE
module _ {n u left right : ℕ} {xs ys : List ℕ} {p q : Place} (prefix : List ℕ) (l : Held n u xs ys) (hl : left < n) (hr : right < n)
    (s : Stands left ys p) (t : Stands right ys q) where
  -- its length, by that of the left one and the bytes of the right one
  pub measured : length (joined prefix (piece_at xs ys left) (piece_at xs ys right)) ≡ joined_length p.length prefix (part q.start q.length xs)
  measured = joined_long prefix (piece_at xs ys left) (piece_at xs ys right) ∙ rw (length_piece l hl s, piece_is l hr t)

  pub measured_lent : joined_length p.length prefix (take (q.start + q.length - q.start) (drop q.start xs)) ≡ length (joined prefix (piece_at xs ys left) (piece_at xs ys right))
  measured_lent = rw (part_lent_on q.start q.length xs) (sym measured)

  pub sum_fits : p.length + length (take (q.start + q.length - q.start) (drop q.start xs)) < 2 ^ 64
  sum_fits = rw (part_lent_on q.start q.length xs, length-part q.start q.length xs (place_in l hr t).1) (omega (arith, place_in l hl s, place_in l hr t))

-- WITHIN THE LIMIT
pub within_is : (n : ℕ) (xs ys p : List ℕ) (s t limit long : ℕ) → s < n → t < n → long ≡ length (joined p (piece_at xs ys s) (piece_at xs ys t))
    → leb long limit ≡ within (limits p limit) (pieces xs ys n) s t
unfolding within joined_of limits measure
within_is n xs ys p s t limit long hs ht e = ap (λ (m : ℕ). leb m limit) e ∙ rw (pieces_at xs ys n s hs, pieces_at xs ys n t ht)
