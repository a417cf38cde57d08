-- The lazy rule: a queue of pairs, each with the count that it was entered with, in place of a recount before each merge. No entry is looked for when a
-- merge changes counts: whether it is stale is asked when it comes to be taken, and then it gets its count of now and waits again.
use Rattle.std.specs.Prelude.{cond, ◌&&◌, ◌||◌, List, [], ◌∷◌, ◌++◌, ℕ, zero, suc, ◌+◌, ◌*◌, max, eqb, ltb, leb, length}
use Rattle.rule.specs.Table.{Task}
use Rattle.rule.specs.Seeding.{Entry}
use Rattle.rule.specs.Rewriting.{bit, is_pair}
use Rattle.rule.specs.Sums.{in_use}
use Rattle.rule.specs.Training.{count, rewrite_all, joined_of, within, Choice, better, Merge, merge_of}

-- THE QUEUE: a list of entries in the order of choice, the first of them the next to be taken. So two queues of the same entries are equal, whatever
-- the order of entering and wherever a heap keeps them. An entry put in its place
unfoldable pub insert : Choice → List Choice → List Choice
insert e [] = e ∷ []
insert e (f ∷ qu) = cond (better e f) (e ∷ f ∷ qu) (f ∷ insert e qu)

-- a sum over the entries
unfoldable pub total : (Choice → ℕ) → List Choice → ℕ
total g [] = 0
total g (e ∷ qu) = g e + total g qu

-- 1 for an entry of the pair (p,q)
abbrev pub is_of : ℕ → ℕ → Choice → ℕ
is_of p q e = bit (is_pair p q e.left e.right)

-- how many entries a pair has
unfoldable pub entries : ℕ → ℕ → List Choice → ℕ
entries p q qu = total (is_of p q) qu

-- two symbols
pub record Pair : Type 0 where
  pub left : ℕ
  pub right : ℕ

-- the two of them as a pair
abbrev pub pair : ℕ → ℕ → Pair
pair a b = record { left = a; right = b }

-- a pair with its count now
unfoldable pub live : List Entry → ℕ → ℕ → Choice
live es a b = record { left = a; right = b; times = count a b es }

-- the pairs at the adjacent positions of a word
unfoldable pub spots : List ℕ → List Pair
spots [] = []
spots (a ∷ []) = []
spots (a ∷ b ∷ r) = pair a b ∷ spots (b ∷ r)

-- of all words
unfoldable pub all_spots : List Entry → List Pair
all_spots [] = []
all_spots (e ∷ es) = spots e.symbols ++ all_spots es

-- a pair that occurs is entered with its count now, unless it has an entry: a second one would decide nothing, and the queue would grow over a long run
unfoldable pub enter : List Entry → Pair → List Choice → List Choice
enter es c qu = cond (leb 1 (count c.left c.right es) && eqb (entries c.left c.right qu) 0) (insert (live es c.left c.right) qu) qu

-- some pairs, one by one
unfoldable pub enter_all : List Entry → List Pair → List Choice → List Choice
enter_all es [] qu = qu
enter_all es (c ∷ cs) qu = enter_all es cs (enter es c qu)

-- the pairs that hold the symbol x
unfoldable pub holding : ℕ → List Pair → List Pair
holding x [] = []
holding x (c ∷ cs) = cond (eqb c.left x || eqb c.right x) (c ∷ holding x cs) (holding x cs)

-- the queue before the first merge: every pair that occurs
unfoldable pub seeds : List Entry → List Choice
seeds es = enter_all es (all_spots es) []

-- and after the merge that made x, with the words as it left them: a pair that gained must have an entry. A pair gains occurrences only in the merge
-- that makes the newer of its symbols, so these are the pairs that hold x
unfoldable pub gained : ℕ → List Entry → List Choice → List Choice
gained x es qu = enter_all es (holding x (all_spots es)) qu

-- what is done with an entry taken: corrected, dropped, the end of the run, skipped, merged
pub data Turn : Type 0 where
  again : Turn
  gone : Turn
  low : Turn
  long : Turn
  join : Turn

-- in the order of the tests: stale (the words no longer have the count that is in the entry), then the minimum, then the length. "A minimum of 0 acts
-- as 1"; "An over-long pair is skipped for good"
unfoldable pub turn : Task → List (List ℕ) → List Entry → Choice → Turn
turn t ps es e =
    let now = count e.left e.right es in
    cond (eqb now e.times)
    (cond (ltb e.times (max 1 t.min_frequency)) low (cond (within t ps e.left e.right) join long))
    (cond (leb 1 now) again gone)

-- the merges, and how many entries were taken from the queue for them
pub record Took : Type 0 where
  pub merges : List Merge
  pub taken : ℕ

-- one entry more
unfoldable pub one_more : Took → Took
one_more r = record { merges = r.merges; taken = suc r.taken }

-- one entry more, and a merge before the others
unfoldable pub merged : Merge → Took → Took
merged m r = record { merges = m ∷ r.merges; taken = suc r.taken }

-- the pieces and the words after the merge of an entry
abbrev pub pieces_with : Task → List (List ℕ) → Choice → List (List ℕ)
pieces_with t ps e = ps ++ (joined_of t ps e.left e.right ∷ [])

abbrev pub words_with : List (List ℕ) → List Entry → Choice → List Entry
words_with ps es e = rewrite_all e.left e.right (length ps) es

-- a turn, and what comes next
unfoldable pub act : Turn → Task → ℕ → List (List ℕ) → List Entry → Choice → List Choice → (ℕ → List (List ℕ) → List Entry → List Choice → Took) → Took
act again t n ps es e qu next = one_more (next (suc n) ps es (insert (live es e.left e.right) qu))
act gone t n ps es e qu next = one_more (next (suc n) ps es qu)
act low t n ps es e qu next = record { merges = []; taken = 1 }
act long t n ps es e qu next = one_more (next (suc n) ps es qu)
act join t n ps es e qu next =
    merged (merge_of t ps es e.left e.right) (next n (pieces_with t ps e) (words_with ps es e) (gained (length ps) (words_with ps es e) qu))

-- THE LAZY RULE: at most k entries are taken, for at most n merges more. An empty queue, or no room, takes nothing
unfoldable pub lazy : Task → ℕ → ℕ → List (List ℕ) → List Entry → List Choice → Took
lazy t zero n ps es qu = record { merges = []; taken = 0 }
lazy t (suc k) zero ps es qu = record { merges = []; taken = 0 }
lazy t (suc k) (suc n) ps es [] = record { merges = []; taken = 0 }
lazy t (suc k) (suc n) ps es (e ∷ qu) = act (turn t ps es e) t n ps es e qu (lazy t k)

-- from pieces and words, with as many entries as are ever needed: five for each symbol
unfoldable pub lazy_train : Task → ℕ → List (List ℕ) → List Entry → Took
lazy_train t n ps es = lazy t (5 * in_use es) n ps es (seeds es)
