-- `index::hash` meets its contract: a remainder by 2^32.
use native.Mathlib.Omega.{arith}
use mathlib.Core.Path.{refl}
use Rattle.index.specs.Index.{mix}
use Rattle.index.proofs.hash.Goals as goal

pub returns : goal.returns
unfolding mix
returns c = (refl, omega arith)
