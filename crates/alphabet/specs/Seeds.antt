-- Many spellings, interned by a function: what it needs, how far it has come, what it answers.
use mathlib.Core.List.{List, [], foldl}
use Rattle.std.specs.Prelude.{ℕ, ◌+◌, ◌*◌, ◌<◌, length, Result, Ok, Err}
use Rattle.runs.specs.Parts.{Kept}
use Rattle.cells.specs.Cells.{cells}
use Rattle.rule.specs.Seeding.{intern}
use Rattle.intern.specs.Pieces.{pieces}
use Rattle.intern.specs.Intern.{Pieces}
use Rattle.intern.specs.Many.{Ran, Exceed}
use Rattle.error.specs.declared.NoRoom.{NoRoom}
use Rattle.vocab.specs.declared.Filled.{Filled}

-- there are n pieces of u bytes, and slots for all that the spellings ss make
pub record CanSeed (base cap n u : ℕ) (ss : List (List ℕ)) (cs xs ys : List ℕ) : Type 0 where
  pub ok : Pieces base cap n u cs xs ys
  pub slots : length (foldl intern (pieces xs ys n) ss) < cap

-- n pieces of u bytes have become n' of u', the spellings `todo` will make them ps, and of the work room only the table was written
pub record Going (base cap n u : ℕ) (ps todo : List (List ℕ)) (rs xs ys qs vs ws : List ℕ) (n' u' : ℕ) : Type 0 where
  pub ran : Ran base cap n u ps todo xs ys (cells qs) vs ws n' u'
  pub room : Kept (base * 8) ((base + cap) * 8) rs qs
  pub slots : length ps < cap

-- WHAT AN ANSWER SAYS of the three runs before and after: all spellings are interned "in given order", or the pieces that they make exceed the rooms
unfoldable pub Seeds : Result Filled NoRoom → ℕ → ℕ → ℕ → ℕ → List (List ℕ) → List ℕ → List ℕ → List ℕ → List ℕ → List ℕ → List ℕ → Type 0
Seeds (Ok f) base cap n u ss rs xs ys qs vs ws =
    Ran base cap n u (foldl intern (pieces xs ys n) ss) [] xs ys (cells qs) vs ws f.count f.used
    × Kept (base * 8) ((base + cap) * 8) rs qs
Seeds (Err e) base cap n u ss rs xs ys qs vs ws = Exceed (foldl intern (pieces xs ys n) ss) xs ys
