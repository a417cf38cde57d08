-- What the reader answers: document 01's "part of the lent piece bytes between two ends, empty on a refusal, with the enum beside it".
use Rattle.std.specs.Prelude.{◌≡◌, Result, List, ℕ}
use Rattle.error.specs.declared.PieceError.{PieceError}
use Rattle.vocab.specs.declared.Place.{Place}
use Rattle.vocab.specs.Reading.{Looked, piece_given}

-- an answer to the question for a number: the bytes of the part, and the enum
pub record Answered (pieces ends : List ℕ) (number : ℕ) (part : List ℕ) (what : Result Place PieceError) : Type 0 where
  pub part_is : part ≡ piece_given pieces ends number
  pub what_is : Looked pieces ends number what
