-- The candidates of the queue as the entries of the lazy rule.
use Rattle.std.specs.Prelude.{cond, ◌&&◌, List, [], ◌∷◌, map, ℕ, ltb}
use Rattle.rule.specs.Training.{Choice}
use Rattle.lazy.specs.Invariant.{ordered}
use Rattle.queue.specs.declared.Candidate.{Candidate}
use Rattle.marks.specs.Marks.{gained, marked}
use Rattle.states.specs.State.{State, left_of, right_of}

-- a candidate as an entry: its key is the pair
unfoldable pub waits : Candidate → Choice
waits e = record { left = left_of e.key; right = right_of e.key; times = e.count }

-- THE QUEUE of some candidates, in the order of choice
unfoldable pub queue_of : List Candidate → List Choice
queue_of es = ordered (map waits es)

-- the candidates that some touched pairs make: those that have gained and still count
unfoldable pub gainers : (ℕ → State) → List ℕ → List Candidate
gainers σ [] = []
gainers σ (c ∷ ks) = cond (marked gained (σ c).marks && ltb 0 (σ c).count) (record { count = (σ c).count; key = c } ∷ gainers σ ks) (gainers σ ks)
