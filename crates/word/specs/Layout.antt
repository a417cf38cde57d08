-- Where the words of a set lie in a room of cells, and which words they are: `WordSet` of document 01's port order.
-- A word at the cell s has its frequency in s, its length in s + 1, and its symbols from s + 2 on. The cell starts + k holds the place of word k,
-- so that a word's number outlives a move. Words lie in order of their numbers; behind one's symbols there may be a gap, which merging left.
use Rattle.std.specs.Prelude.{◌≡◌, List, [], ◌∷◌, map, ℕ, zero, suc, ◌+◌, ◌%◌, ◌^◌, ◌≤◌, ◌<◌, length, get_or}
use Rattle.runs.specs.Parts.{nth, part}
use Rattle.rule.specs.Seeding.{Entry}
use Rattle.rule.specs.Sums.{in_use}
use Rattle.word.specs.declared.WordSet.{WordSet}
use Rattle.word.specs.declared.Span.{Span}

-- A SYMBOL'S CELL: its low 32 bits are the symbol; the high ones are room for a number beside it, 0 when the symbol is pushed
unfoldable pub symbol_in : ℕ → ℕ
symbol_in v = v % 4294967296

-- the n symbols in the cells from a place on
unfoldable pub symbols_at : ℕ → ℕ → List ℕ → List ℕ
symbols_at at n cs = map symbol_in (part at n cs)

-- the cell behind the symbols of the word at s
abbrev pub end_at : List ℕ → ℕ → ℕ
end_at cs s = s + 2 + nth cs (s + 1)

-- the word at s, as its cells stand
abbrev pub line : List ℕ → ℕ → Entry
line cs s = record { frequency = nth cs s; symbols = part (s + 2) (nth cs (s + 1)) cs }

-- the n words whose places stand from the cell starts on
unfoldable pub lines : List ℕ → ℕ → ℕ → List Entry
lines cs starts zero = []
lines cs starts (suc n) = line cs (nth cs starts) ∷ lines cs (starts + 1) n

-- THE VIEW: the words by their symbols, as the rule has its kept words
abbrev pub by_symbols : Entry → Entry
by_symbols e = record { frequency = e.frequency; symbols = map symbol_in e.symbols }

unfoldable pub corpus : List ℕ → ℕ → ℕ → List Entry
corpus cs starts n = map by_symbols (lines cs starts n)

-- the words of a set
abbrev pub words_in : WordSet → List ℕ → List Entry
words_in w cs = corpus cs w.starts w.count

-- word k of some words, and past their end one that says nothing
unfoldable pub entry_at : List Entry → ℕ → Entry
entry_at es k = get_or es k (record { frequency = 0; symbols = [] })

-- the cells between lo and hi are as they were
abbrev pub SameIn : ℕ → ℕ → List ℕ → List ℕ → Type 0
SameIn lo hi cs ds = (j : ℕ) → lo ≤ j → j < hi → nth ds j ≡ nth cs j

-- n words in order between lo and hi, none of which overlaps another
pub record InLine (cs : List ℕ) (starts n lo hi : ℕ) : Type 0 where
  pub span : lo ≤ hi
  pub first : (k : ℕ) → k < n → lo ≤ nth cs (starts + k)
  pub last : (k : ℕ) → k < n → end_at cs (nth cs (starts + k)) ≤ hi
  pub order : (i j : ℕ) → i < j → j < n → end_at cs (nth cs (starts + i)) ≤ nth cs (starts + j)

-- THE INVARIANT of a word set in a room: its places lie below its words, its words in line
pub record Words (w : WordSet) (cs : List ℕ) : Type 0 where
  pub small : length cs < 2 ^ 61
  pub room : w.top ≤ length cs
  pub apart : w.starts + w.count ≤ w.low
  pub in_line : InLine cs w.starts w.count w.low w.top
  pub used : w.live ≡ in_use (words_in w cs)

-- a set's numbers, one by one
pub record Numbers (r : WordSet) (starts count low top live : ℕ) : Type 0 where
  pub starts_is : r.starts ≡ starts
  pub count_is : r.count ≡ count
  pub low_is : r.low ≡ low
  pub top_is : r.top ≡ top
  pub live_is : r.live ≡ live

-- where word k begins
pub record Placed (w : WordSet) (k : ℕ) (cs : List ℕ) (s : ℕ) : Type 0 where
  pub place : s ≡ nth cs (w.starts + k)
  pub low : w.low ≤ s
  pub high : end_at cs s ≤ w.top

-- where the symbols of word k stand
pub record Found (w : WordSet) (k : ℕ) (cs : List ℕ) (r : Span) : Type 0 where
  pub symbols : symbols_at r.start r.length cs ≡ (entry_at (words_in w cs) k).symbols
  pub place : r.start ≡ nth cs (w.starts + k) + 2
  pub long : r.length ≡ length (entry_at (words_in w cs) k).symbols
  pub room : r.start + r.length ≤ length cs
