-- Where a piece stands: from its start on, up to the next one's start.
use Rattle.std.specs.Prelude.{◌≡◌, List, ℕ, ◌+◌}
use Rattle.rule.specs.Layout.{piece_start}
use Rattle.vocab.specs.declared.Place.{Place}

pub record Stands (k : ℕ) (ys : List ℕ) (p : Place) : Type 0 where
  pub start_is : p.start ≡ piece_start ys k
  pub end_is : p.start + p.length ≡ piece_start ys (k + 1)
