-- What making and pushing words do: a word is open while its symbols are added at the top, and then pushed or dropped.
use Rattle.std.specs.Prelude.{◌≡◌, cond, List, [], ◌∷◌, ◌++◌, ℕ, ◌+◌, ◌*◌, ◌≤◌, ltb, length}
use Rattle.runs.specs.Parts.{nth, put, Kept}
use Rattle.rule.specs.Seeding.{keep}
use Rattle.word.specs.Layout.{symbols_at, Words, words_in}
use Rattle.word.specs.declared.WordSet.{WordSet}

-- a set with a word of n symbols more
abbrev pub longer : WordSet → ℕ → WordSet
longer w n = record { starts = w.starts; count = w.count + 1; low = w.low; top = w.top + 2 + n; live = w.live + n }

-- a one-unit word "takes no part in merging. An empty word adds nothing"
unfoldable pub pushed : WordSet → ℕ → WordSet
pushed w n = cond (ltb n 2) w (longer w n)

-- what that takes: two cells a symbol at most, and a place for every two
pub record Takes (w : WordSet) (n : ℕ) (r : WordSet) : Type 0 where
  pub starts_is : r.starts ≡ w.starts
  pub low_is : r.low ≡ w.low
  pub top-most : r.top ≤ w.top + 2 * n
  pub count_most : 2 * r.count ≤ 2 * w.count + n

-- the cells then: its length is put behind its frequency, and its place behind the others
unfoldable pub pushed_cells : WordSet → ℕ → List ℕ → List ℕ
pushed_cells w n cs = cond (ltb n 2) cs (put (put cs (w.top + 1) n) (w.starts + w.count) w.top)

-- Each record says the cells, by an equation; and what callers go by: the set, its words, the open word, and what is as it was.

-- a word of frequency f is open at the top, with no symbol yet
pub record Opened (w : WordSet) (f : ℕ) (cs ds : List ℕ) : Type 0 where
  pub is : ds ≡ put cs w.top f
  pub set : Words w ds
  pub view : words_in w ds ≡ words_in w cs
  pub frequency : nth ds w.top ≡ f
  pub kept : Kept w.top (w.top + 1) cs ds

-- the open word of n symbols has the symbol s more
pub record Added (w : WordSet) (n s : ℕ) (cs ds : List ℕ) : Type 0 where
  pub is : ds ≡ put cs (w.top + 2 + n) s
  pub set : Words w ds
  pub view : words_in w ds ≡ words_in w cs
  pub frequency : nth ds w.top ≡ nth cs w.top
  pub symbols : symbols_at (w.top + 2) (n + 1) ds ≡ symbols_at (w.top + 2) n cs ++ (s ∷ [])
  pub kept : Kept (w.top + 2 + n) (w.top + 2 + n + 1) cs ds

-- the open word of n symbols is a word of the set, or dropped
pub record Pushed (w : WordSet) (n : ℕ) (cs ds : List ℕ) (r : WordSet) : Type 0 where
  pub is : ds ≡ pushed_cells w n cs
  pub numbers : r ≡ pushed w n
  pub takes : Takes w n r
  pub set : Words r ds
  pub view : words_in r ds ≡ words_in w cs ++ keep (nth cs w.top) (symbols_at (w.top + 2) n cs) []
  pub long : length ds ≡ length cs
  pub same : (j : ℕ) → (j ≡ w.starts + w.count → ⊥) → (j ≡ w.top + 1 → ⊥) → nth ds j ≡ nth cs j
