-- Sliding the words of a set together, and when.
use Rattle.std.specs.Prelude.{◌≡◌, Bool, List, ◌⊎◌, ℕ, ◌+◌, ◌-◌, ◌*◌, ◌≤◌, ◌<◌, ltb, length}
use Rattle.runs.specs.Parts.{nth, put, part, laid, Kept}
use Rattle.rule.specs.Sums.{in_use}
use Rattle.word.specs.Layout.{end_at, line, lines, corpus, InLine, Words, Numbers, words_in}
use Rattle.word.specs.declared.WordSet.{WordSet}

-- the gaps take more cells than the symbols: of the span, each word's two cells before its symbols are neither
unfoldable pub sparse : WordSet → Bool
sparse w = ltb (2 * w.live) (w.top - w.low - 2 * w.count)

-- the words lie without gaps, and are the words that they were, cell by cell; outside of the set nothing changes
pub record Compacted (w : WordSet) (cs ds : List ℕ) (r : WordSet) : Type 0 where
  pub numbers : Numbers r w.starts w.count w.low (w.low + w.live + 2 * w.count) w.live
  pub lower : r.top ≤ w.top
  pub set : Words r ds
  pub view : words_in r ds ≡ words_in w cs
  pub whole : lines ds r.starts r.count ≡ lines cs w.starts w.count
  pub kept : Kept w.starts w.top cs ds

-- n cells from s on are copied to the cell `to`, which is put in the cell `at`
pub record Relocated (at s to n : ℕ) (cs ds : List ℕ) : Type 0 where
  pub is : ds ≡ put (laid cs to (part s n cs)) at to
  pub long : length ds ≡ length cs

-- word k stands at the cell `to` now, and ends at r
pub record Moved (w : WordSet) (k to : ℕ) (cs ds : List ℕ) (r : ℕ) : Type 0 where
  pub place : nth ds (w.starts + k) ≡ to
  pub word : line ds to ≡ line cs (nth cs (w.starts + k))
  pub size : nth ds (to + 1) ≡ nth cs (nth cs (w.starts + k) + 1)
  pub next : r ≡ to + 2 + nth cs (nth cs (w.starts + k) + 1)
  pub long : length ds ≡ length cs
  pub same : (j : ℕ) → (j < to) ⊎ (end_at cs (nth cs (w.starts + k)) ≤ j) → (j ≡ w.starts + k → ⊥) → nth ds j ≡ nth cs j

-- while they are: the first k words lie without gaps up to the cell `to`, and the others above it
pub record Sliding (w : WordSet) (k to : ℕ) (cs ds : List ℕ) : Type 0 where
  pub set : Words w ds
  pub done : InLine ds w.starts k w.low to
  pub ahead : (j : ℕ) → k ≤ j → j < w.count → to ≤ nth ds (w.starts + j)
  pub tight : to ≡ w.low + in_use (corpus cs w.starts k) + 2 * k
  pub whole : lines ds w.starts w.count ≡ lines cs w.starts w.count
  pub kept : Kept w.starts w.top cs ds
