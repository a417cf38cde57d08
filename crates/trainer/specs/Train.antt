-- What training answers and leaves in the rooms, part by part: rows 9 and 10, rows 8 to 10, all rows.
use Rattle.std.specs.Prelude.{◌≡◌, true, false, List, [], ◌∷◌, ℕ, ◌^◌, ◌<◌, ◌≤◌, length, Result, Ok, Err}
use Rattle.runs.specs.Parts.{laid}
use Rattle.rule.specs.Table.{Task, Rooms, frequencies, word_units, weighed}
use Rattle.rule.specs.Training.{trained, all_pieces}
use Rattle.rule.specs.Layout.{piece_bytes, piece_records, merge_bytes, saving_bytes}
use Rattle.rule.specs.Sums.{AllUnder, symbols_in}
use Rattle.rule.specs.Refusals.{Verdict, says, zero_frequency, judge, verdict}
use Rattle.rule.specs.Outcome.{clears, rooms_after}
use Rattle.error.specs.Answers.{train_verdict}
use Rattle.error.specs.declared.TrainError.{TrainError}
use Rattle.error.specs.declared.TrainError.TheVariants as why
use Rattle.table.specs.Answers.{later_rows}
use Rattle.table.specs.declared.Table.{Table}
use Rattle.table.specs.declared.Settings.{Settings}
use Rattle.layout.specs.Layout.{units_at, cells_for}
use Rattle.intern.specs.Pieces.{Held}
use Rattle.word.specs.Layout.{Words, words_in}
use Rattle.word.specs.declared.WordSet.{WordSet}
use Rattle.states.specs.Tracking.{Weighed}
use Rattle.seeding.specs.Seeding.{CanSeed}
use Rattle.training.specs.Training.{TrainedDone}
use Rattle.error.specs.declared.NoRoom.{NoRoom}
use Rattle.training.specs.declared.Trained as training
use Rattle.trainer.specs.declared.Trained.{Trained}

-- the task that a function's runs and settings make
abbrev pub task_of : List ℕ → List ℕ → List ℕ → List ℕ → List ℕ → List ℕ → List ℕ → ℕ → ℕ → ℕ → ℕ → Task
task_of ws es fs al ae p s seeding size least limit = record {
  word_bytes = ws;
  word_ends = es;
  frequency_bytes = fs;
  alphabet_bytes = al;
  alphabet_ends = ae;
  prefix = p;
  suffix = s;
  seeding = seeding;
  vocab_size = size;
  min_frequency = least;
  max_piece_length = limit;
}

-- the task that a table as it is lent and its settings make
abbrev pub asked : Table → Settings → Task
asked t s =
    task_of t.words.now t.word_ends.now t.frequencies.now t.alphabet.now t.alphabet_ends.now t.prefix.now t.suffix.now t.seeding s.vocab_size s.min_frequency s.max_piece_length

-- the rooms that training writes: the answer run is the door's
abbrev pub rooms_of : List ℕ → List ℕ → List ℕ → List ℕ → List ℕ → Rooms
rooms_of work pieces ends merges savings = record { work = work; pieces = pieces; piece_ends = ends; merges = merges; savings = savings; answer = [] }

-- "Success gives piece count, alphabet length and merge count"; a refusal is the enum's
unfoldable pub answered : Result Trained TrainError → Verdict
answered (Ok r) = says 0 (r.pieces ∷ r.alphabet ∷ r.merges ∷ [])
answered (Err e) = train_verdict e

-- what merging comes to, where the pieces have v bytes
abbrev pub grown : ℕ → ℕ → ℕ → Result training.Trained NoRoom
grown n v k = Ok (record { filled = record { count = n; used = v }; merges = k })

-- what merging asks: n pieces of u bytes, and their words, behind which there is place for what is known of the pairs
pub record CanGrow (w : WordSet) (n u units : ℕ) (cs xs ys : List ℕ) : Type 0 where
  pub held : Held n u xs ys
  pub words : Words w cs
  pub top : w.top ≤ units_at units
  pub live : w.live ≤ units
  pub units_few : units ≤ 268435456
  pub room : cells_for units 0 ≤ length cs
  pub below : AllUnder n (words_in w cs)
  pub light : symbols_in (words_in w cs) < 2 ^ 53
  pub frequent : Weighed (words_in w cs)

-- ROWS 9 AND 10, and the merges, where n pieces of u bytes are the seeds
unfoldable pub GrownOut : TrainError → WordSet → ℕ → ℕ → List ℕ → ℕ → ℕ → ℕ → List ℕ → List ℕ → List ℕ → List ℕ → List ℕ → List ℕ → List ℕ → List ℕ → List ℕ → Type 0
GrownOut (why.VocabTooSmall q b) w n u prefix size least limit cs xs ys ms ss vs ws ns ts = (q ≡ size) × (b ≡ n) × (size < n)
GrownOut why.OutputRoom w n u prefix size least limit cs xs ys ms ss vs ws ns ts = (n ≤ size) × TrainedDone (Err (record {})) w n u prefix size least limit cs xs ys ms ss vs ws ns ts
GrownOut why.BadShape w n u prefix size least limit cs xs ys ms ss vs ws ns ts = ⊥
GrownOut why.TooMany w n u prefix size least limit cs xs ys ms ss vs ws ns ts = ⊥
GrownOut why.EmptyCorpus w n u prefix size least limit cs xs ys ms ss vs ws ns ts = ⊥
GrownOut (why.ZeroFrequency i) w n u prefix size least limit cs xs ys ms ss vs ws ns ts = ⊥
GrownOut (why.OutOfOrder i) w n u prefix size least limit cs xs ys ms ss vs ws ns ts = ⊥
GrownOut why.TooHeavy w n u prefix size least limit cs xs ys ms ss vs ws ns ts = ⊥
GrownOut (why.WorkRoom i) w n u prefix size least limit cs xs ys ms ss vs ws ns ts = ⊥
GrownOut why.SeedRoom w n u prefix size least limit cs xs ys ms ss vs ws ns ts = ⊥

unfoldable pub GrownDone : Result Trained TrainError → WordSet → ℕ → ℕ → List ℕ → ℕ → ℕ → ℕ → List ℕ → List ℕ → List ℕ → List ℕ → List ℕ → List ℕ → List ℕ → List ℕ → List ℕ → Type 0
GrownDone (Ok r) w n u prefix size least limit cs xs ys ms ss vs ws ns ts =
    (n ≤ size) × (r.alphabet ≡ n) × ((v : ℕ) × TrainedDone (grown r.pieces v r.merges) w n u prefix size least limit cs xs ys ms ss vs ws ns ts)
GrownDone (Err e) w n u prefix size least limit cs xs ys ms ss vs ws ns ts = GrownOut e w n u prefix size least limit cs xs ys ms ss vs ws ns ts

-- ROWS 8 TO 10: the table is one that rows 1 to 7 do not refuse
pub record CanTrain (t : Task) (units : ℕ) (work : List ℕ) : Type 0 where
  pub seeds : CanSeed t units work
  pub size : t.vocab_size ≤ 16777216
  pub light : weighed (frequencies t) (word_units t) < 2 ^ 53
  pub frequent : zero_frequency t.frequency_bytes ≡ false

-- the full answer at the front of each output room
pub record Front (t : Task) (was is : Rooms) : Type 0 where
  pub pieces : is.pieces ≡ laid was.pieces 0 (piece_bytes (all_pieces t))
  pub ends : is.piece_ends ≡ laid was.piece_ends 0 (piece_records (all_pieces t))
  pub merges : is.merges ≡ laid was.merges 0 (merge_bytes (trained t))
  pub savings : is.savings ≡ laid was.savings 0 (saving_bytes (trained t))
  pub bytes_fit : length (piece_bytes (all_pieces t)) ≤ length was.pieces
  pub ends_fit : length (piece_records (all_pieces t)) ≤ length was.piece_ends
  pub merges_fit : length (merge_bytes (trained t)) ≤ length was.merges
  pub savings_fit : length (saving_bytes (trained t)) ≤ length was.savings

unfoldable pub TableDone : Result Trained TrainError → Task → Rooms → Rooms → Type 0
TableDone (Ok r) t was now = (says 0 (r.pieces ∷ r.alphabet ∷ r.merges ∷ []) ≡ judge later_rows t was) × Front t was now
TableDone (Err e) t was now = (train_verdict e ≡ judge later_rows t was) × (clears (train_verdict e).number ≡ true)

-- and what is then in every room: the same done to one verdict or another
pub record Left (t : Task) (v : Verdict) (was is : Rooms) : Type 0 where
  pub work : is.work ≡ (rooms_after t was v).work
  pub pieces : is.pieces ≡ (rooms_after t was v).pieces
  pub ends : is.piece_ends ≡ (rooms_after t was v).piece_ends
  pub merges : is.merges ≡ (rooms_after t was v).merges
  pub savings : is.savings ≡ (rooms_after t was v).savings

pub record RoomsDone (r : Result Trained TrainError) (t : Task) (was now : Rooms) : Type 0 where
  pub answer : answered r ≡ judge later_rows t was
  pub rooms : Left t (judge later_rows t was) was now

-- ALL ROWS: THE CONTRACT OF TRAINING. The answer is the rule's verdict, and every room is as document 01 says of it
pub record TrainDone (r : Result Trained TrainError) (t : Task) (was now : Rooms) : Type 0 where
  pub answer : answered r ≡ verdict t was
  pub rooms : Left t (verdict t was) was now
