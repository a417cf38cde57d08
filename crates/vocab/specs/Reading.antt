-- What a lookup answers: document 01's verdict of each case, and the part of the pieces that it names.
use Rattle.std.specs.Prelude.{◌≡◌, Result, Ok, Err, cond, List, [], ◌∷◌, ℕ, ◌+◌, ◌≤◌, eqb, length}
use Rattle.runs.specs.Parts.{part}
use Rattle.rule.specs.Layout.{piece_at}
use Rattle.rule.specs.Refusals.{Verdict, says}
use Rattle.rule.specs.Outcome.{look_up}
use Rattle.error.specs.Answers.{piece_verdict}
use Rattle.error.specs.declared.PieceError.{PieceError}
use Rattle.vocab.specs.declared.Place.{Place}

-- "The reader's gives start and length"; a refusal is as `error` has it
unfoldable pub lookup_verdict : Result Place PieceError → Verdict
lookup_verdict (Ok place) = says 0 (place.start ∷ place.length ∷ [])
lookup_verdict (Err e) = piece_verdict e

-- what is found lies within so many bytes
unfoldable pub Within : Result Place PieceError → ℕ → Type 0
Within (Ok place) bytes = place.start + place.length ≤ bytes
Within (Err e) bytes = Unit {0}

-- an answer r to the question for a number
pub record Looked (pieces ends : List ℕ) (number : ℕ) (r : Result Place PieceError) : Type 0 where
  pub is : lookup_verdict r ≡ look_up pieces ends number
  pub inside : Within r (length pieces)

-- "the part of the lent piece bytes between two ends, empty on a refusal"
unfoldable pub part_of : List ℕ → Result Place PieceError → List ℕ
part_of pieces (Ok place) = part place.start place.length pieces
part_of pieces (Err e) = []

-- the piece that a number has: "For a refusal that part is empty"
unfoldable pub piece_given : List ℕ → List ℕ → ℕ → List ℕ
piece_given pieces ends number = cond (eqb (look_up pieces ends number).number 0) (piece_at pieces ends number) []
