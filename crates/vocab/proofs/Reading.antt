-- The laws of a lookup: each answer by the tests that lead to it, and what an answer tells. Assumes nothing.
use mathlib.Core.Path.{◌≡◌, refl, sym, ap, ◌∙◌}
use mathlib.Core.Bool.{Bool, true, false, cond, not, ◌||◌, or-true}
use mathlib.Core.List.{List, [], ◌∷◌}
use Prim.Native.Nat.{ℕ, zero, suc, ◌+◌, ◌-◌, ◌/◌, ◌≤◌, ◌<◌}
use native.Mathlib.Omega.{arith}
use lib.Dec.{ltb, leb}
use lib.ListN.{length, take, drop}
use borrow.Author.Tests.{not-true, not-false, lt-ltb, le-ltb, le-leb, lt-leb}
use Rattle.runs.specs.Parts.{nth}
use Rattle.runs.proofs.Parts.{part_lent_on}
use Rattle.numbers.specs.Little.{numbers}
use Rattle.numbers.proofs.Little.{length-numbers}
use Rattle.rule.specs.Shapes.{shaped}
use Rattle.rule.specs.Layout.{piece_shape, piece_count, piece_start, piece_length, piece_at}
use Rattle.rule.specs.Refusals.{Verdict, says}
use Rattle.rule.specs.Outcome.{look_up}
use Rattle.std.specs.Prelude.{Result, Ok, Err}
use Rattle.vocab.specs.declared.Place.{Place}
use Rattle.error.specs.declared.PieceError.{PieceError}
use Rattle.error.specs.declared.PieceError.TheVariants.{BadShape, NoSuchId}
use Rattle.error.specs.Answers.{piece_verdict}
use Rattle.error.proofs.Answers.{piece_one_to_one}
use Rattle.vocab.specs.Reading.{lookup_verdict, Within, Looked, part_of, piece_given}
use Rattle.vocab.specs.Places.{numbers_from}
use Rattle.vocab.proofs.Shaped.{risen_at, shaped_rises}

-- WHERE A PIECE STARTS

pub start_later : (ends : List ℕ) (n r : ℕ) → (n ≡ 0 → ⊥) → r ≡ nth (numbers 4 ends) (n - 1) → r ≡ piece_start ends n
unfolding piece_start nth
start_later ends zero r h e = absurd (h refl)
start_later ends (suc n) r h e = let k : suc n - 1 ≡ n = omega arith in rw k at e

-- THE ANSWERS

abbrev place : ℕ → ℕ → Place
place s n = record { start = s; length = n }

module _ (pieces ends : List ℕ) (number : ℕ) (b : Bool) (e : b ≡ shaped pieces ends) where
  pub look_misshapen : not b ≡ true → Looked pieces ends number (Err BadShape)
  unfolding lookup_verdict piece_verdict Within look_up piece_shape
  look_misshapen t = record { is = rw (← e, not-true b t); inside = tt }

  pub look-many : 16777216 < length ends / 4 → Looked pieces ends number (Err BadShape)
  unfolding lookup_verdict piece_verdict Within look_up piece_count
  look-many h = record { is = rw (lt-ltb 16777216 (length ends / 4) h, or-true); inside = tt }

  module _ (t : not b ≡ false) (few : length ends / 4 ≤ 16777216) where
    pub look_past : length ends / 4 ≤ number → Looked pieces ends number (Err NoSuchId)
    unfolding lookup_verdict piece_verdict Within look_up piece_shape piece_count
    look_past h = record { is = rw (← e, not-false b t, le-ltb 16777216 (length ends / 4) few, le-leb (length ends / 4) number h); inside = tt }

    module _ (h : number < length ends / 4) (start to : ℕ) (s : start ≡ piece_start ends number) (q : to ≡ nth (numbers 4 ends) number) where
      risen : (start ≤ to) × (to ≤ length pieces)
      unfolding piece_start nth numbers_from
      risen = rw (s, q) (risen_at (length pieces) 0 (numbers 4 ends) number (shaped_rises pieces ends b e (not-false b t)) (rw (length-numbers 4 ends) h))

      pub look_up_lem : start ≤ to
      look_up_lem = risen.0

      pub look_at : Looked pieces ends number (Ok (place start (to - start)))
      unfolding lookup_verdict Within look_up piece_shape piece_count piece_length nth
      look_at = record {
        is = rw (← e, not-false b t, le-ltb 16777216 (length ends / 4) few, lt-leb (length ends / 4) number h, ← s, ← q);
        inside = omega (arith, risen.0, risen.1);
      }

-- AN ANSWER LEAVES NO OTHER

refused : (e : PieceError) → 0 < (piece_verdict e).number
unfolding piece_verdict
refused BadShape = omega arith
refused NoSuchId = omega arith

same_place : {p q : Place} → p.start ≡ q.start → p.length ≡ q.length → p ≡ q
same_place {p = p} {q = q} s n = ap (λ (a : ℕ). place a p.length) s ∙ ap (λ (b : ℕ). place q.start b) n

pub verdict_single : (r q : Result Place PieceError) → lookup_verdict r ≡ lookup_verdict q → r ≡ q
unfolding lookup_verdict
verdict_single (Ok p) (Ok q) e =
    let g : p.start ∷ p.length ∷ [] ≡ q.start ∷ q.length ∷ [] = ap (λ (v : Verdict). v.gives) e in
    let s : p.start ≡ q.start = cc in
    let n : p.length ≡ q.length = cc in
    ap Ok (same_place s n)
verdict_single (Ok p) (Err f) e = absurd (omega (arith, refused f, ap (λ (v : Verdict). v.number) e))
verdict_single (Err f) (Ok q) e = absurd (omega (arith, refused f, ap (λ (v : Verdict). v.number) e))
verdict_single (Err f) (Err g) e = ap Err (piece_one_to_one f g e)

pub looked_single : {pieces ends : List ℕ} {number : ℕ} {r q : Result Place PieceError} → Looked pieces ends number r → Looked pieces ends number q → r ≡ q
looked_single {r = r} {q = q} a b = verdict_single r q (a.is ∙ sym b.is)

-- THE PART THAT AN ANSWER NAMES, as the code lends it

pub part_inside : (what : Result Place PieceError) (p : Place) (bytes : ℕ) → what ≡ Ok p → Within what bytes → p.start + p.length ≤ bytes
unfolding Within
part_inside what p bytes e w = rw e at w

module _ (pieces : List ℕ) (what : Result Place PieceError) where
  pub part_found : (p : Place) → what ≡ Ok p → take (p.start + p.length - p.start) (drop p.start pieces) ≡ part_of pieces what
  unfolding part_of
  part_found p e = rw e (part_lent_on p.start p.length pieces)

  pub part_refused : (f : PieceError) → what ≡ Err f → [] ≡ part_of pieces what
  unfolding part_of
  part_refused f e = rw e

pub ruleset part_rules = (part_inside, part_found, part_refused)

-- THE PIECE THAT A NUMBER HAS is the part that its answer names

module _ (pieces ends : List ℕ) (number : ℕ) where
  -- a success gives the start and the length of the piece
  pub found_gives : (look_up pieces ends number).number ≡ 0 → look_up pieces ends number ≡ says 0 (piece_start ends number ∷ piece_length ends number ∷ [])
  unfolding look_up
  found_gives = go (not (piece_shape pieces ends) || ltb 16777216 (piece_count ends)) (leb (piece_count ends) number)
    where
      found : Verdict
      found = says 0 (piece_start ends number ∷ piece_length ends number ∷ [])

      go : (a b : Bool) → (cond a (says 1 []) (cond b (says 11 []) found)).number ≡ 0 → cond a (says 1 []) (cond b (says 11 []) found) ≡ found
      go true b e = absurd (omega arith)
      go false true e = absurd (omega arith)
      go false false e = refl

  named_piece : (what : Result Place PieceError) → Looked pieces ends number what → part_of pieces what ≡ piece_given pieces ends number
  unfolding lookup_verdict piece_verdict part_of piece_given piece_at
  named_piece (Ok p) l =
      let z : (look_up pieces ends number).number ≡ 0 = ap (λ (v : Verdict). v.number) (sym l.is) in
      let g : p.start ∷ p.length ∷ [] ≡ piece_start ends number ∷ piece_length ends number ∷ [] = ap (λ (v : Verdict). v.gives) (l.is ∙ found_gives z) in
      let s : p.start ≡ piece_start ends number = cc in
      let m : p.length ≡ piece_length ends number = cc in
      rw (z, s, m)
  named_piece (Err BadShape) l = rw (← l.is)
  named_piece (Err NoSuchId) l = rw (← l.is)

  pub part_piece : (what : Result Place PieceError) (r : List ℕ) → Looked pieces ends number what → r ≡ part_of pieces what → r ≡ piece_given pieces ends number
  part_piece what r l e = e ∙ named_piece what l
