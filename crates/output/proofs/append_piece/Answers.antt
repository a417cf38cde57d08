-- `output::append_piece` meets its contract: what has no place is refused before anything is written.
use borrow.Author.Rules.{rules}
use native.Mathlib.Omega.{arith}
use Rattle.output.proofs.Appending.{can_join, end_fits}
use Rattle.output.proofs.append_piece.Goals as goal

pub join-end-requires : goal.join-end-requires
join-end-requires c = can_join _ c.requires.0 c.requires.1 c.requires.2 c.place_of-before.ensures c.place_of-behind.ensures _ c.joined_bytes-n.ensures (omega arith)

pub overflow_cast-end : goal.overflow_cast-end
overflow_cast-end c =
    let p = c.requires in
    let short = end_fits _ p.0 p.1 p.2 c.place_of-before.ensures c.place_of-behind.ensures _ c.joined_bytes-n.ensures (omega arith) (omega arith) _ _ c.join-end.ensures in
    search rules
