-- The refusals of training: each condition, its row of the table (number, exactly when, gives), and the order in which they are tried.
-- A condition on the table alone is said of its runs and numbers, so that code over lent runs can say the very same; the row says it of a task.
use Rattle.std.specs.Prelude.{Bool, false, cond, not, List, [], ◌∷◌, ◌++◌, map, ℕ, ◌/◌, ◌^◌, eqb, ltb, leb, length}
use Rattle.numbers.specs.Little.{numbers}
use Rattle.rule.specs.Shapes.{wholes, parts_by, shaped, below, some?, first}
use Rattle.rule.specs.Table.{Task, Rooms, word_count, A, units_of, weighed, work_needed}
use Rattle.rule.specs.Seeding.{seeds}
use Rattle.rule.specs.Training.{trained, all_pieces}
use Rattle.rule.specs.Layout.{piece_bytes, piece_records, merge_bytes, saving_bytes}

-- a row of the table: its number, "exactly when", "gives"
pub record Refusal : Type 0 where
  pub number : ℕ
  pub holds : Task → Rooms → Bool
  pub gives : Task → List ℕ

-- a row on one line: number, exactly when, gives
abbrev pub row : ℕ → (Task → Rooms → Bool) → (Task → List ℕ) → Refusal
row n h g = record { number = n; holds = h; gives = g }

-- 1, of word bytes, word ends, frequencies, alphabet bytes, alphabet ends and seeding: "seeding not 0 or 1; ends not whole 4s,
-- frequencies not whole 8s; counts of the two differ; an end below the one before; last end not the byte length (with no entries: bytes present)"
unfoldable pub bad_shape : List ℕ → List ℕ → List ℕ → List ℕ → List ℕ → ℕ → Bool
bad_shape ws es fs al ae seeding = some? (
    ltb 1 seeding
    ∷ not (wholes 8 fs)
    ∷ not (eqb (length es / 4) (length fs / 8))
    ∷ not (shaped ws es)
    ∷ not (shaped al ae)
    ∷ [])

abbrev pub BadShape : Refusal
BadShape = row 1 (λ t r. bad_shape t.word_bytes t.word_ends t.frequency_bytes t.alphabet_bytes t.alphabet_ends t.seeding) (λ t. [])

-- 2: "over 16,777,216 words or vocabulary size; 268,435,456 word bytes; 65,536 alphabet symbols; 1,048,576 alphabet bytes; 255 bytes of prefix or suffix"
unfoldable pub too_many : ℕ → ℕ → ℕ → ℕ → ℕ → ℕ → ℕ → Bool
too_many words size word_bytes symbols alphabet_bytes prefix suffix = some? (
    ltb 16777216 words
    ∷ ltb 16777216 size
    ∷ ltb 268435456 word_bytes
    ∷ ltb 65536 symbols
    ∷ ltb 1048576 alphabet_bytes
    ∷ ltb 255 prefix
    ∷ ltb 255 suffix
    ∷ [])

abbrev pub TooMany : Refusal
TooMany = row 2 (λ t r. too_many (word_count t) t.vocab_size (length t.word_bytes) (A t) (length t.alphabet_bytes) (length t.prefix) (length t.suffix)) (λ t. [])

-- 3: "no words"
unfoldable pub empty_corpus : ℕ → Bool
empty_corpus words = eqb words 0

abbrev pub EmptyCorpus : Refusal
EmptyCorpus = row 3 (λ t r. empty_corpus (word_count t)) (λ t. [])

-- 4, of the frequencies: "a frequency is 0", asked of each word; gives the "first such word"
unfoldable pub no_frequency : List ℕ → List Bool
no_frequency fs = map (eqb 0) (numbers 8 fs)

-- one of them is
unfoldable pub zero_frequency : List ℕ → Bool
zero_frequency fs = some? (no_frequency fs)

abbrev pub ZeroFrequency : Refusal
ZeroFrequency = row 4 (λ t r. zero_frequency t.frequency_bytes) (λ t. first (no_frequency t.frequency_bytes) ∷ [])

-- 5, of word bytes and word ends: "a word not above its predecessor in byte order (equal included)", asked of each word but the first; gives the "first such word"
unfoldable pub not_above : List (List ℕ) → List Bool
not_above [] = []
not_above (w ∷ []) = []
not_above (v ∷ w ∷ ws) = not (below v w) ∷ not_above (w ∷ ws)

-- asked of each word: the first has no predecessor
unfoldable pub misplaced : List ℕ → List ℕ → List Bool
misplaced ws es = false ∷ not_above (parts_by ws es)

-- one of them is
unfoldable pub out_of_order : List ℕ → List ℕ → Bool
out_of_order ws es = some? (misplaced ws es)

abbrev pub OutOfOrder : Refusal
OutOfOrder = row 5 (λ t r. out_of_order t.word_bytes t.word_ends) (λ t. first (misplaced t.word_bytes t.word_ends) ∷ [])

-- 6, of word bytes, word ends, frequencies and seeding: "sum over all words of frequency times units is 2^53 or more"
unfoldable pub too_heavy : List ℕ → List ℕ → List ℕ → ℕ → Bool
too_heavy ws es fs seeding = leb (2 ^ 53) (weighed (numbers 8 fs) (units_of seeding ws es))

abbrev pub TooHeavy : Refusal
TooHeavy = row 6 (λ t r. too_heavy t.word_bytes t.word_ends t.frequency_bytes t.seeding) (λ t. [])

-- 7, of the work room's length and the bytes needed: "work room too small"
unfoldable pub work_room : ℕ → ℕ → Bool
work_room room needed = ltb room needed

abbrev pub WorkRoom : Refusal
WorkRoom = row 7 (λ t r. work_room (length r.work) (work_needed t)) (λ t. work_needed t ∷ [])

-- pieces "exceed the piece-ends room or the piece room"
abbrev pub exceed : List (List ℕ) → Rooms → List Bool
exceed ps r = ltb (length r.piece_ends) (length (piece_records ps)) ∷ ltb (length r.pieces) (length (piece_bytes ps)) ∷ []

-- 8: "seeds, initial alphabet and decorated units included, exceed the piece-ends room or the piece room"
unfoldable pub seed_room : Task → Rooms → Bool
seed_room t r = some? (exceed (seeds t) r)

abbrev pub SeedRoom : Refusal
SeedRoom = row 8 seed_room (λ t. [])

-- 9, of vocabulary size and alphabet length: "vocabulary size below alphabet length"; gives "both numbers"
unfoldable pub vocab_too_small : ℕ → ℕ → Bool
vocab_too_small size alphabet = ltb size alphabet

abbrev pub VocabTooSmall : Refusal
VocabTooSmall = row 9 (λ t r. vocab_too_small t.vocab_size (length (seeds t))) (λ t. t.vocab_size ∷ length (seeds t) ∷ [])

-- 10: "the full answer exceeds an output room, or 2^32 - 1 piece bytes"
unfoldable pub output_room : Task → Rooms → Bool
output_room t r = some? (exceed (all_pieces t) r ++ (
    ltb (length r.merges) (length (merge_bytes (trained t)))
    ∷ ltb (length r.savings) (length (saving_bytes (trained t)))
    ∷ ltb 4294967295 (length (piece_bytes (all_pieces t)))
    ∷ []))

abbrev pub OutputRoom : Refusal
OutputRoom = row 10 output_room (λ t. [])

-- "Refusal numbers, tried in this order"
abbrev pub refusals : List Refusal
refusals = BadShape ∷ TooMany ∷ EmptyCorpus ∷ ZeroFrequency ∷ OutOfOrder ∷ TooHeavy ∷ WorkRoom ∷ SeedRoom ∷ VocabTooSmall ∷ OutputRoom ∷ []

-- what a function answers: its number, 0 for success, and the numbers given
pub record Verdict : Type 0 where
  pub number : ℕ
  pub gives : List ℕ

-- a number and the numbers given
abbrev pub says : ℕ → List ℕ → Verdict
says n g = record { number = n; gives = g }

-- "Success gives piece count, alphabet length and merge count"
unfoldable pub success : Task → Verdict
success t = says 0 (length (all_pieces t) ∷ length (seeds t) ∷ length (trained t) ∷ [])

-- the first refusal that holds, or success
unfoldable pub judge : List Refusal → Task → Rooms → Verdict
judge [] t r = success t
judge (f ∷ fs) t r =
    let refused = says f.number (f.gives t) in
    let later = judge fs t r in
    cond (f.holds t r) refused later

-- the verdict on a task: all rows, in their order
unfoldable pub verdict : Task → Rooms → Verdict
verdict t r = judge refusals t r
