-- Rewriting (a,b) to x in the words of a set.
use Rattle.std.specs.Prelude.{◌≡◌, List, [], ◌∷◌, ℕ, zero, suc, ◌+◌, ◌-◌}
use Rattle.runs.specs.Parts.{nth, Kept}
use Rattle.rule.specs.Rewriting.{rewrite, rewrites}
use Rattle.rule.specs.Seeding.{Entry}
use Rattle.rule.specs.Sums.{in_use}
use Rattle.rule.specs.Training.{rewrite_all}
use Rattle.word.specs.Layout.{end_at, lines, entry_at, Words, Numbers, words_in}
use Rattle.word.specs.declared.WordSet.{WordSet}
use Rattle.merge.specs.Cells.{rewrite_cells}
use Rattle.merge.specs.declared.Merged.{Merged}

-- the symbols of word k changed, and nothing else
unfoldable pub change_at : (List ℕ → List ℕ) → ℕ → List Entry → List Entry
change_at f k [] = []
change_at f zero (e ∷ es) = record { frequency = e.frequency; symbols = f e.symbols } ∷ es
change_at f (suc k) (e ∷ es) = e ∷ change_at f k es

-- the first k words rewritten
unfoldable pub rewrite_first : ℕ → ℕ → ℕ → ℕ → List Entry → List Entry
rewrite_first a b x zero es = es
rewrite_first a b x (suc k) [] = []
rewrite_first a b x (suc k) (e ∷ es) = record { frequency = e.frequency; symbols = rewrite a b x e.symbols } ∷ rewrite_first a b x k es

-- word k is rewritten in place: its length and its symbols change, and no other cell
pub record MergedWord (a b x : ℕ) (w : WordSet) (k : ℕ) (cs ds : List ℕ) (r : Merged) : Type 0 where
  pub rewritten : r.rewrites ≡ rewrites a b (entry_at (words_in w cs) k).symbols
  pub numbers : Numbers r.words w.starts w.count w.low w.top (w.live - r.rewrites)
  pub set : Words r.words ds
  pub view : words_in r.words ds ≡ change_at (rewrite a b x) k (words_in w cs)
  pub cells_are : lines ds r.words.starts r.words.count ≡ change_at (rewrite_cells a b x) k (lines cs w.starts w.count)
  pub kept : Kept (nth cs (w.starts + k) + 1) (end_at ds (nth cs (w.starts + k))) cs ds

-- every word is rewritten
pub record MergedAll (a b x : ℕ) (w : WordSet) (cs ds : List ℕ) (r : WordSet) : Type 0 where
  pub numbers : Numbers r w.starts w.count w.low w.top (in_use (rewrite_all a b x (words_in w cs)))
  pub set : Words r ds
  pub view : words_in r ds ≡ rewrite_all a b x (words_in w cs)
  pub kept : Kept w.low w.top cs ds

-- while they are: the first k words are rewritten
pub record Merging (a b x : ℕ) (w : WordSet) (k : ℕ) (cs ds : List ℕ) (v : WordSet) : Type 0 where
  pub numbers : Numbers v w.starts w.count w.low w.top v.live
  pub set : Words v ds
  pub view : words_in v ds ≡ rewrite_first a b x k (words_in w cs)
  pub kept : Kept w.low w.top cs ds
