-- One merge made in the rooms, and all that the rule makes of some pieces and words.
use Rattle.std.specs.Prelude.{◌≡◌, Result, Ok, Err, List, ◌++◌, map, ◌⊎◌, ℕ, ◌+◌, ◌-◌, ◌*◌, ◌<◌, ◌≤◌, length}
use Rattle.runs.specs.Parts.{laid, Kept}
use Rattle.error.specs.declared.NoRoom.{NoRoom}
use Rattle.rule.specs.Table.{Task}
use Rattle.rule.specs.Training.{Merge, train_from}
use Rattle.rule.specs.Layout.{merge_bytes, saving_bytes}
use Rattle.intern.specs.Pieces.{pieces, Held}
use Rattle.intern.specs.Intern.{Lacks}
use Rattle.intern.specs.Many.{Exceed}
use Rattle.word.specs.Layout.{words_in}
use Rattle.word.specs.declared.WordSet.{WordSet}
use Rattle.engine.specs.Engine.{JoinDone}
use Rattle.engine.specs.declared.Engine.{Engine}
use Rattle.output.specs.Output.{More, MergeDone}
use Rattle.training.specs.declared.Applied.{Applied}
use Rattle.training.specs.declared.Trained.{Trained}

-- ONE MERGE: the piece s behind n others, the k-th merge and its saving, and (a,b) rewritten to n in the words; or which room has no place
unfoldable pub ApplyDone : Result Applied NoRoom → Engine → ℕ → ℕ → ℕ → ℕ → ℕ → ℕ → List ℕ → List ℕ → List ℕ → List ℕ → List ℕ → List ℕ → List ℕ → List ℕ → List ℕ → List ℕ → List ℕ → Type 0
ApplyDone (Ok r) g n u k a b times s cs xs ys ms ss ds vs ws ns ts =
    (r.filled.count ≡ n + 1) × More n u s xs ys vs ws r.filled.used × MergeDone (Ok tt) k a b times ms ss ns ts × JoinDone g a b n cs ds r.engine
ApplyDone (Err _) g n u k a b times s cs xs ys ms ss ds vs ws ns ts = Lacks n u s xs ys ⊎ ((length ms < k * 8 + 8) ⊎ (length ss < k * 8 + 8))

-- a task with these settings: training asks a task for no more
pub record Settings (t : Task) (prefix : List ℕ) (least limit : ℕ) : Type 0 where
  pub prefix_is : t.prefix ≡ prefix
  pub least_is : t.min_frequency ≡ least
  pub limit_is : t.max_piece_length ≡ limit

-- the pieces that there are once some merges are made
abbrev pub with_merges : List (List ℕ) → List Merge → List (List ℕ)
with_merges ps ms = ps ++ map (λ m. m.spelled) ms

-- the merges `made` are in the output rooms, behind n pieces of u bytes
pub record Written (made : List Merge) (n u : ℕ) (xs ys ms ss vs ws ns ts : List ℕ) (n' u' k : ℕ) : Type 0 where
  pub held : Held n' u' vs ws
  pub are : pieces vs ws n' ≡ with_merges (pieces xs ys n) made
  pub least : n ≤ n'
  pub grows : u ≤ u'
  pub bytes : Kept u u' xs vs
  pub ends : Kept (n * 4) (n' * 4) ys ws
  pub count : k ≡ length made
  pub merges : ns ≡ laid ms 0 (merge_bytes made)
  pub savings : ts ≡ laid ss 0 (saving_bytes made)
  pub merges_fit : length (merge_bytes made) ≤ length ms
  pub savings_fit : length (saving_bytes made) ≤ length ss

-- the pieces and merges exceed an output room, or 2^32 - 1 piece bytes
unfoldable pub TooMuch : List Merge → List (List ℕ) → List ℕ → List ℕ → List ℕ → List ℕ → Type 0
TooMuch made ps xs ys ms ss = Exceed (with_merges ps made) xs ys ⊎ ((length ms < length (merge_bytes made)) ⊎ (length ss < length (saving_bytes made)))

-- ALL MERGES of a task with these settings, up to `size` pieces
unfoldable pub TrainedDone : Result Trained NoRoom → WordSet → ℕ → ℕ → List ℕ → ℕ → ℕ → ℕ → List ℕ → List ℕ → List ℕ → List ℕ → List ℕ → List ℕ → List ℕ → List ℕ → List ℕ → Type 0
TrainedDone (Ok r) w n u prefix size least limit cs xs ys ms ss vs ws ns ts =
    (t : Task) → Settings t prefix least limit
    → Written (train_from t (size - n) (pieces xs ys n) (words_in w cs)) n u xs ys ms ss vs ws ns ts r.filled.count r.filled.used r.merges
TrainedDone (Err _) w n u prefix size least limit cs xs ys ms ss vs ws ns ts =
    (t : Task) → Settings t prefix least limit
    → TooMuch (train_from t (size - n) (pieces xs ys n) (words_in w cs)) (pieces xs ys n) xs ys ms ss
