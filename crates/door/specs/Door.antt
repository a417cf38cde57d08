-- What a call of the door comes to, in one record: the number returned and the exit contents of every lent run.
use Rattle.std.specs.Prelude.{List, ℕ}
use Rattle.rule.specs.Table.{Rooms}
use Rattle.rule.specs.Outcome.{Outcome, Read, Merged}

-- the six lent runs of training
abbrev pub rooms : List ℕ → List ℕ → List ℕ → List ℕ → List ℕ → List ℕ → Rooms
rooms work pieces ends merges savings answer = record { work = work; pieces = pieces; piece_ends = ends; merges = merges; savings = savings; answer = answer }

abbrev pub trained : ℕ → Rooms → Outcome
trained returned lent = record { returned = returned; rooms = lent }

abbrev pub read : ℕ → List ℕ → Read
read returned answer = record { returned = returned; answer = answer }

abbrev pub merged : ℕ → List ℕ → List ℕ → List ℕ → Merged
merged returned symbols changes answer = record { returned = returned; symbols = symbols; changes = changes; answer = answer }
