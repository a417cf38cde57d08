-- `seeding::seed_first` meets its contract: the units come out of the heap in order, or the byte values are interned.
use Rattle.seeding.proofs.Stages.{is_chars, is_bytes, drain_can, bytes_can, first_drained, first_valued}
use Rattle.seeding.proofs.seed_first.Goals as goal

pub seed_bytes-requires : goal.seed_bytes-requires
seed_bytes-requires c = bytes_can _ _ _ _ _ _ _ _ _ _ c.requires (is_bytes _ c.in-Bytes.ensures)

pub drain-requires : goal.drain-requires
drain-requires c = drain_can _ _ _ _ _ _ _ _ _ _ c.requires (is_chars _ c.in-Chars.ensures) _ c.units_at-heap.ensures

pub returns-in-Bytes : goal.returns-in-Bytes
returns-in-Bytes c = first_valued _ c.args.units _ _ c.args.first _ _ _ _ _ _ _ _ _ (is_bytes _ c.in-Bytes.ensures) c.seed_bytes.ensures

pub returns-in-Chars : goal.returns-in-Chars
returns-in-Chars c = first_drained _ _ _ _ _ _ _ _ _ _ _ _ _ _ c.requires (is_chars _ c.in-Chars.ensures) _ c.units_at-heap.ensures c.drain.ensures
