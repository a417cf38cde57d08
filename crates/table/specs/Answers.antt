-- What the first seven rows of the table of refusals come to, of runs and numbers and of a task, and what it leaves to the rows after them.
use Rattle.std.specs.Prelude.{Option, Some, None, Result, Ok, Err, Bool, cond, List, ℕ, ◌/◌, length, take, drop}
use Rattle.rule.specs.Shapes.{first, some?}
use Rattle.rule.specs.Table.{Task, Rooms, room_for}
use Rattle.rule.specs.Refusals.{Refusal, refusals, Verdict, bad_shape, too_many, empty_corpus, no_frequency, zero_frequency, misplaced, out_of_order, too_heavy, work_room}
use Rattle.error.specs.Answers.{train_verdict}
use Rattle.error.specs.declared.TrainError.{TrainError}
use Rattle.error.specs.declared.TrainError.TheVariants.{BadShape, TooMany, EmptyCorpus, ZeroFrequency, OutOfOrder, TooHeavy, WorkRoom}
use Rattle.table.specs.Weighing.{unit_count}

-- the place of the first test that holds, where there is one
unfoldable pub first_place : List Bool → Option ℕ
first_place bs = cond (some? bs) (Some (first bs)) None

-- rows 3 to 7, of word bytes, word ends, frequencies, seeding, symbols of the alphabet and bytes of the work room: "tried in this order"
unfoldable pub words_answer : List ℕ → List ℕ → List ℕ → ℕ → ℕ → ℕ → Result ℕ TrainError
words_answer ws es fs seeding symbols room =
    cond (empty_corpus (length es / 4)) (Err EmptyCorpus)
    (cond (zero_frequency fs) (Err (ZeroFrequency (first (no_frequency fs))))
    (cond (out_of_order ws es) (Err (OutOfOrder (first (misplaced ws es))))
    (cond (too_heavy ws es fs seeding) (Err TooHeavy)
    (cond (work_room room (room_for (unit_count seeding ws es) symbols)) (Err (WorkRoom (room_for (unit_count seeding ws es) symbols)))
    (Ok (unit_count seeding ws es))))))

-- rows 1 to 7, of the seven runs that are only read, seeding, vocabulary size and bytes of the work room
unfoldable pub table_answer : List ℕ → List ℕ → List ℕ → List ℕ → List ℕ → List ℕ → List ℕ → ℕ → ℕ → ℕ → Result ℕ TrainError
table_answer ws es fs al ae pre suf seeding size room =
    cond (bad_shape ws es fs al ae seeding) (Err BadShape)
    (cond (too_many (length es / 4) size (length ws) (length ae / 4) (length al) (length pre) (length suf)) (Err TooMany)
    (words_answer ws es fs seeding (length ae / 4) room))

-- the same of a task and its rooms
unfoldable pub task_answer : Task → Rooms → Result ℕ TrainError
task_answer t r =
    table_answer t.word_bytes t.word_ends t.frequency_bytes t.alphabet_bytes t.alphabet_ends t.prefix t.suffix t.seeding t.vocab_size (length r.work)

-- rows 1 to 7, and those after them
abbrev pub first_rows : List Refusal
first_rows = take 7 refusals

abbrev pub later_rows : List Refusal
later_rows = drop 7 refusals

-- the verdict of an answer, where the rows after the seventh are judged as `later`
unfoldable pub answer_verdict : Result ℕ TrainError → Verdict → Verdict
answer_verdict (Ok units) later = later
answer_verdict (Err e) later = train_verdict e
