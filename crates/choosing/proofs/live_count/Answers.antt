-- `choosing::live_count` meets its contract: a pair without a record counts 0.
use Rattle.pairs.proofs.Clients.{has_tied}
use Rattle.choosing.proofs.live_count.Goals as goal

pub count-requires : goal.count-requires
count-requires c = has_tied c.requires.0 c.requires.1 c.in-Some.ensures
