-- `lengths::joined_bytes` meets its contract: of the left piece its length is enough.
use mathlib.Core.Path.{◌∙◌}
use Rattle.lengths.proofs.Joined.{measured_lent}
use Rattle.lengths.proofs.joined_bytes.Goals as goal

pub returns : goal.returns
returns c = c.joined_length.ensures ∙ measured_lent _ c.requires.0 c.requires.1 c.requires.2 c.place_of-before.ensures c.place_of-behind.ensures
