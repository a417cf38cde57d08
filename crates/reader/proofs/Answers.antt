-- The laws of an answer: it leaves no other, and its two halves tell of one piece. Assumes nothing.
use mathlib.Core.Path.{◌≡◌, refl, sym, ◌∙◌}
use mathlib.Core.List.{List}
use Prim.Native.Nat.{ℕ}
use Rattle.std.specs.Prelude.{Result}
use Rattle.error.specs.declared.PieceError.{PieceError}
use Rattle.vocab.specs.declared.Place.{Place}
use Rattle.vocab.specs.Reading.{part_of}
use Rattle.vocab.proofs.Reading.{looked_single, part_piece}
use Rattle.reader.specs.Reader.{Answered}

module _ {pieces ends : List ℕ} {number : ℕ} where
  pub answered_single : {part part' : List ℕ} {what what' : Result Place PieceError}
      → Answered pieces ends number part what → Answered pieces ends number part' what' → (part ≡ part') × (what ≡ what')
  answered_single a b = (a.part_is ∙ sym b.part_is, looked_single a.what_is b.what_is)

  -- the part is the one that the enum names
  pub answered-part : {part : List ℕ} {what : Result Place PieceError} → Answered pieces ends number part what → part ≡ part_of pieces what
  answered-part {what = what} a = a.part_is ∙ sym (part_piece pieces ends number what (part_of pieces what) a.what_is refl)
