-- `codes::fits` meets its contract: the text fits the room if the lines to come fit what is left of it.
use mathlib.Core.Path.{◌≡◌}
use lib.ListN.{length}
use lib.Dec.{leb}
use Rattle.codes.specs.Codes.{codes_text}
use Rattle.codes.specs.Writing.{lines_to}
use Rattle.codes.proofs.fits.Given as goal

abbrev pub invariant-loop-i : goal.invariant-loop-i
invariant-loop-i l = (leb (length (codes_text l.pieces l.ends l.merges l.count)) l.room ≡ leb (length (lines_to l.pieces l.ends l.merges l.count l.i)) l.rest)
