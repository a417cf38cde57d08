-- The words of a pair's list while they are visited.
use Rattle.std.specs.Prelude.{◌≡◌, List, ℕ, ◌+◌, ◌<◌, ◌≤◌, min, length}
use Rattle.runs.specs.Parts.{nth, Kept}
use Rattle.rule.specs.Rewriting.{count_in}
use Rattle.rule.specs.Training.{rewrite_all}
use Rattle.word.specs.Layout.{Words, Numbers, words_in}
use Rattle.word.specs.declared.WordSet.{WordSet}
use Rattle.states.specs.State.{key}
use Rattle.pairs.specs.View.{state}
use Rattle.pairs.specs.Pairs.{Has}
use Rattle.pairs.specs.declared.Pairs.{Pairs}
use Rattle.reports.specs.Reports.{beyond, Staying}
use Rattle.joining.specs.Joining.{Midway}
use Rattle.joining.specs.Running.{word_of}

-- of n words that are left, so many are visited next
abbrev pub together : ℕ → ℕ
together n = min n 16

-- THE FREQUENCIES of n words of the list of a pair, from the i-th on. The pair's key is c, its record r
pub record CanLook (w : WordSet) (p : Pairs) (c r i n : ℕ) (cs : List ℕ) : Type 0 where
  pub words : Words w cs
  pub has : Has p c r cs
  pub low : i + n ≤ length (state p cs c).words
  pub few : n ≤ 16
  pub inside : (j : ℕ) → j < n → nth (state p cs c).words (i + j) < w.count

abbrev pub Weights : WordSet → Pairs → ℕ → ℕ → ℕ → List ℕ → List ℕ → Type 0
Weights w p c i n cs fs = (j : ℕ) → j < n → nth fs j ≡ (word_of w (nth (state p cs c).words (i + j)) cs).frequency

-- how often word k of a set holds (a,b)
abbrev pub holds : ℕ → ℕ → WordSet → ℕ → List ℕ → ℕ
holds a b w k cs = count_in a b (word_of w k cs).symbols

-- THE WORDS of the list, which is as it was, are visited from the i-th up to the j-th: they hold (a,b) no more, and none that held it no more holds it
-- again. v is the set now, and m pairs are touched. The pair's record is r
pub record Visiting (a b x : ℕ) (w : WordSet) (p : Pairs) (r i j m : ℕ) (v : WordSet) (cs ds : List ℕ) : Type 0 where
  pub midway : Midway a b x v p m ds
  pub has : Has p (key a b) r ds
  pub numbers : Numbers v w.starts w.count w.low w.top v.live
  pub view : rewrite_all a b x (words_in v ds) ≡ rewrite_all a b x (words_in w cs)
  pub weights : (k : ℕ) → (word_of v k ds).frequency ≡ (word_of w k cs).frequency
  pub done : (s : ℕ) → i ≤ s → s < j → holds a b v (nth (state p cs (key a b)).words s) ds ≡ 0
  pub still : (k : ℕ) → holds a b w k cs ≡ 0 → holds a b v k ds ≡ 0
  pub list : (state p ds (key a b)).words ≡ (state p cs (key a b)).words
  pub records : Staying p cs ds
  pub kept : Kept w.low (beyond p) cs ds
