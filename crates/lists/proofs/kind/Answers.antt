-- `lists::kind` meets its contract: the test tells which kind.
use Rattle.lists.proofs.Reading.{kind_short, kind_long}
use Rattle.runs.specs.Parts.{nth}
use Rattle.lists.proofs.kind.Goals as goal

pub returns-then-n-le4 : goal.returns-then-n-le4
returns-then-n-le4 c = kind_short _ _ c.if-n-le4.true

pub returns-else-n-le4 : goal.returns-else-n-le4
unfolding nth
returns-else-n-le4 c = kind_long _ _ c.if-n-le4.false
