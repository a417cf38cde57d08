-- `seeding::count_first` meets its contract: the gathered units, or 256 byte values.
use native.Mathlib.Omega.{arith}
use Rattle.runs.proofs.Parts.{bytes_known}
use Rattle.seeding.proofs.Stages.{is_chars, is_bytes, counted_bytes}
use Rattle.seeding.proofs.count_first.Goals as goal

pub gather_units-requires-clause-seeding_value : goal.gather_units-requires-clause-seeding_value
gather_units-requires-clause-seeding_value c = is_chars _ c.in-Chars.ensures

pub returns-in-Bytes-clause-counted : goal.returns-in-Bytes-clause-counted
returns-in-Bytes-clause-counted c = counted_bytes _ _ _ _ _ (is_bytes _ c.in-Bytes.ensures)

pub returns-in-Bytes-clause-bytes : goal.returns-in-Bytes-clause-bytes
returns-in-Bytes-clause-bytes c = bytes_known _ (λ j. omega (arith, c.type_inv.words j))

pub returns-in-Chars-clause-bytes : goal.returns-in-Chars-clause-bytes
returns-in-Chars-clause-bytes c = bytes_known _ (λ j. omega (arith, c.type_inv.words j))
