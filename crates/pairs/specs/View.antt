-- What is known of a pair, as it stands in cells: an index from keys to records from `base` on, two cells a slot; the records behind it; behind these
-- the long lists of words, after two cells: how many cells of theirs are used, and how many times a record was asked for.
use Rattle.std.specs.Prelude.{cond, List, ℕ, zero, suc, ◌+◌, ◌-◌, ◌*◌, ◌%◌, eqb, ltb}
use Rattle.runs.specs.Parts.{nth, part}
use Rattle.index.specs.Index.{value}
use Rattle.records.specs.Records.{field}
use Rattle.states.specs.State.{State, blank}
use Rattle.pairs.specs.declared.Pairs.{Pairs}

-- where the records begin, the lists, their words; and what lies behind
abbrev pub arena_at : Pairs → ℕ
arena_at p = p.base + 2 * p.cap

abbrev pub lists_at : Pairs → ℕ
lists_at p = p.base + 2 * p.cap + 3 + p.most * 8

abbrev pub data_at : Pairs → ℕ
data_at p = p.base + 2 * p.cap + 3 + p.most * 8 + 2

abbrev pub behind : Pairs → ℕ
behind p = p.base + 2 * p.cap + 3 + p.most * 8 + 2 + 4 * p.most

-- the record of a key and 1, or 0 where it has none
abbrev pub record_of : Pairs → List ℕ → ℕ → ℕ
record_of p cs k = value p.base p.cap cs k

-- A RECORD: 0 its key, 1 its count, 2 its marks, 3 how many words; from 4 on up to four words, or 4 the place of a longer list and 5 its capacity
abbrev pub key_in : Pairs → List ℕ → ℕ → ℕ
key_in p cs r = field (p.base + 2 * p.cap) cs r 0

abbrev pub many : Pairs → List ℕ → ℕ → ℕ
many p cs r = field (p.base + 2 * p.cap) cs r 3

abbrev pub place : Pairs → List ℕ → ℕ → ℕ
place p cs r = field (p.base + 2 * p.cap) cs r 4

abbrev pub capacity : Pairs → List ℕ → ℕ → ℕ
capacity p cs r = field (p.base + 2 * p.cap) cs r 5

unfoldable pub words_of : Pairs → List ℕ → ℕ → List ℕ
words_of p cs r = cond (ltb 4 (many p cs r)) (part (data_at p + place p cs r) (many p cs r) cs) (part (arena_at p + 3 + r * 8 + 4) (many p cs r) cs)

unfoldable pub record_state : Pairs → List ℕ → ℕ → State
record_state p cs r = record { count = field (arena_at p) cs r 1; marks = field (arena_at p) cs r 2 % 256; words = words_of p cs r }

abbrev pub state_at : Pairs → List ℕ → ℕ → State
state_at p cs zero = blank
state_at p cs (suc r) = record_state p cs r

-- THE VIEW: the state of the pair with key k
unfoldable pub state : Pairs → List ℕ → ℕ → State
state p cs k = state_at p cs (record_of p cs k)

-- how many cells of the lists are used, and how many times a record was asked for
unfoldable pub top : Pairs → List ℕ → ℕ
top p cs = nth cs (lists_at p)

unfoldable pub made : Pairs → List ℕ → ℕ
made p cs = nth cs (lists_at p + 1)

-- a sum over the first n numbers
unfoldable pub sum : ℕ → (ℕ → ℕ) → ℕ
sum zero f = 0
sum (suc n) f = f n + sum n f

-- WHY THE LISTS FIT: each word noted brings four cells, which a list keeps until it has to move into twice its capacity
unfoldable pub credit : Pairs → List ℕ → ℕ → ℕ
credit p cs r = cond (eqb (key_in p cs r) 0) 0 (4 * many p cs r - 2 * cond (ltb 4 (many p cs r)) (capacity p cs r) 0)

unfoldable pub spent : Pairs → List ℕ → ℕ
spent p cs = top p cs + sum p.most (credit p cs)
