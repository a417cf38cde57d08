-- A pair's list of words: a short one in its record, or a long one in a run of cells.
use Rattle.std.specs.Prelude.{◌≡◌, cond, List, ℕ, ◌+◌, ltb, length}
use Rattle.runs.specs.Parts.{nth, part}
use Rattle.pairs.specs.View.{data_at, state}
use Rattle.pairs.specs.declared.Pairs.{Pairs}
use Rattle.lists.specs.declared.WordList.{WordList}
use Rattle.lists.specs.declared.WordList.TheVariants.{Short, Spilled}
use Rattle.lists.specs.declared.PairState.{PairState}

-- which kind of list n words are, by the last four fields of their record: the words of a short list, and the place of a long one first
unfoldable pub kind_of : ℕ → List ℕ → WordList
kind_of n near = cond (ltb 4 n) (Spilled (nth near 0) n) (Short n near)

-- how many words a list has
unfoldable pub length_of : WordList → ℕ
length_of (Short n near) = n
length_of (Spilled at n) = n

-- THE WORDS OF A STATE BY VALUE: those in the list, or those of its run
unfoldable pub listed : Pairs → List ℕ → WordList → List ℕ
listed p cs (Short n near) = part 0 n near
listed p cs (Spilled at n) = part (data_at p + at) n cs

-- a record by value
pub record Loaded (p : Pairs) (k : ℕ) (cs : List ℕ) (s : PairState) : Type 0 where
  pub count : s.count ≡ (state p cs k).count
  pub marks : s.marks ≡ (state p cs k).marks
  pub words : listed p cs s.words ≡ (state p cs k).words
  pub many : length_of s.words ≡ length (state p cs k).words
