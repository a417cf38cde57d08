-- Many spellings, interned one after the other. What becomes of the work room is said beside it, since others may write there too.
use Rattle.std.specs.Prelude.{◌≡◌, ◌⊎◌, ℕ, ◌*◌, ◌<◌, ◌≤◌, length}
use mathlib.Core.List.{List, foldl}
use Rattle.runs.specs.Parts.{Kept}
use Rattle.rule.specs.Seeding.{intern}
use Rattle.rule.specs.Layout.{piece_bytes}
use Rattle.intern.specs.Pieces.{pieces}
use Rattle.intern.specs.Intern.{Pieces}

-- where n pieces of u bytes were there are n' of u' bytes, and the spellings `todo`, interned "in given order", will make them the pieces ps
pub record Ran (base cap n u : ℕ) (ps todo : List (List ℕ)) (xs ys cs vs ws : List ℕ) (n' u' : ℕ) : Type 0 where
  pub ok : Pieces base cap n' u' cs vs ws
  pub are : foldl intern (pieces vs ws n') todo ≡ ps
  pub least : n ≤ n'
  pub grows : u ≤ u'
  pub bytes : Kept u u' xs vs
  pub ends : Kept (n * 4) (n' * 4) ys ws

-- pieces that "exceed the piece-ends room or the piece room", or what 4 bytes of an end can say
unfoldable pub Exceed : List (List ℕ) → List ℕ → List ℕ → Type 0
Exceed ps xs ys = (length ys < length ps * 4) ⊎ ((length xs < length (piece_bytes ps)) ⊎ (4294967295 < length (piece_bytes ps)))
