-- Counting, choosing, training.
use Rattle.std.specs.Prelude.{Bool, cond, ◌&&◌, ◌||◌, List, [], ◌∷◌, ◌++◌, map, ℕ, zero, suc, ◌+◌, ◌-◌, ◌*◌, max, eqb, ltb, leb, length}
use Rattle.rule.specs.Table.{Task}
use Rattle.rule.specs.Spelling.{joined, spelling, measure}
use Rattle.rule.specs.Seeding.{Entry, seeds, kept}
use Rattle.rule.specs.Rewriting.{rewrite, count_in}

-- "the sum over kept words of frequency times adjacent positions holding the pair"
unfoldable pub count : ℕ → ℕ → List Entry → ℕ
count a b [] = 0
count a b (e ∷ es) = e.frequency * count_in a b e.symbols + count a b es

-- the words after (a,b) has become x in each
unfoldable pub rewrite_all : ℕ → ℕ → ℕ → List Entry → List Entry
rewrite_all a b x [] = []
rewrite_all a b x (e ∷ es) = record { frequency = e.frequency; symbols = rewrite a b x e.symbols } ∷ rewrite_all a b x es

-- WHAT A SAVING IS: "the count the pair had when chosen"
unfoldable pub saving : ℕ → ℕ → List Entry → ℕ
saving a b es = count a b es

-- the piece that joining two numbers makes
unfoldable pub joined_of : Task → List (List ℕ) → ℕ → ℕ → List ℕ
joined_of t ps a b = joined t.prefix (spelling ps a) (spelling ps b)

-- whether it is "within the length limit"
unfoldable pub within : Task → List (List ℕ) → ℕ → ℕ → Bool
within t ps a b = leb (measure (joined_of t ps a b)) t.max_piece_length

-- a pair with its count
pub record Choice : Type 0 where
  pub left : ℕ
  pub right : ℕ
  pub times : ℕ

-- no pair
abbrev pub nothing : Choice
nothing = record { left = 0; right = 0; times = 0 }

-- "Pairs are compared by left number, then right"
abbrev pub lower_pair : Choice → Choice → Bool
lower_pair c d = ltb c.left d.left || (eqb c.left d.left && ltb c.right d.right)

-- "the greatest weighted count, and among equals the lowest pair of numbers"
abbrev pub better : Choice → Choice → Bool
better c d = ltb d.times c.times || (eqb c.times d.times && lower_pair c d)

-- the best of some, c among them
unfoldable pub best : Choice → List Choice → Choice
best c [] = c
best c (d ∷ ds) = best (cond (better d c) d c) ds

-- the pairs within the limit at the adjacent positions of a word, with their counts in all words: "An over-long pair is skipped"
module _ (t : Task) (ps : List (List ℕ)) (all : List Entry) where
  unfoldable pub candidates_in : List ℕ → List Choice
  candidates_in [] = []
  candidates_in (a ∷ []) = []
  candidates_in (a ∷ b ∷ r) =
      let c : Choice = record { left = a; right = b; times = count a b all } in
      cond (within t ps a b) (c ∷ candidates_in (b ∷ r)) (candidates_in (b ∷ r))

  -- of all words
  unfoldable pub candidates : List Entry → List Choice
  candidates [] = []
  candidates (e ∷ es) = candidates_in e.symbols ++ candidates es

-- the pair that is chosen
unfoldable pub choose : Task → List (List ℕ) → List Entry → Choice
choose t ps es = best nothing (candidates t ps es es)

-- a merge: its two numbers, its saving, the spelling of the piece that it makes
pub record Merge : Type 0 where
  pub left : ℕ
  pub right : ℕ
  pub saved : ℕ
  pub spelled : List ℕ

-- the merge of a pair
abbrev pub merge_of : Task → List (List ℕ) → List Entry → ℕ → ℕ → Merge
merge_of t ps es a b = record { left = a; right = b; saved = saving a b es; spelled = joined_of t ps a b }

-- at most n merges more: "A minimum of 0 acts as 1"; "A merge always takes the next number, even if the spelling exists"
unfoldable pub train_from : Task → ℕ → List (List ℕ) → List Entry → List Merge
train_from t zero ps es = []
train_from t (suc n) ps es =
    let c = choose t ps es in
    let m = merge_of t ps es c.left c.right in
    let rest = m ∷ train_from t n (ps ++ (m.spelled ∷ [])) (rewrite_all c.left c.right (length ps) es) in
    cond (ltb c.times (max 1 t.min_frequency)) [] rest

-- the merges of a task: as many as the vocabulary size leaves room for
unfoldable pub trained : Task → List Merge
trained t = train_from t (t.vocab_size - length (seeds t)) (seeds t) (kept t)

-- the pieces of the full answer
unfoldable pub all_pieces : Task → List (List ℕ)
all_pieces t = seeds t ++ map (λ m. m.spelled) (trained t)

-- ALL THAT A CHOICE ASKS OF A TASK is its prefix and its limit: a task with these and nothing else
unfoldable pub limits : List ℕ → ℕ → Task
limits prefix limit = record {
  word_bytes = [];
  word_ends = [];
  frequency_bytes = [];
  alphabet_bytes = [];
  alphabet_ends = [];
  prefix = prefix;
  suffix = [];
  seeding = 0;
  vocab_size = 0;
  min_frequency = 0;
  max_piece_length = limit;
}
