-- `index::value_in` meets its contract: the value stands behind the key.
use native.Mathlib.Omega.{arith}
use Rattle.index.proofs.Changes.{get_at}
use Rattle.index.proofs.value_in.Goals as goal

pub returns-then-v-eq0 : goal.returns-then-v-eq0
returns-then-v-eq0 c = omega (arith, get_at _ _ _ _ _ _ c.requires c.cell-v.ensures)

pub returns-else-v-eq0 : goal.returns-else-v-eq0
returns-else-v-eq0 c = (get_at _ _ _ _ _ _ c.requires c.cell-v.ensures, omega arith)
