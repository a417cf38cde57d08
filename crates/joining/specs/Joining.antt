-- A merge of (a,b) to x, word by word: only the words that the pair's list has are visited, and the states of all pairs follow.
use Rattle.std.specs.Prelude.{◌≡◌, List, ℕ, ◌+◌, ◌*◌, ◌^◌, ◌<◌, ◌≤◌}
use Rattle.runs.specs.Parts.{Kept}
use Rattle.rule.specs.Rewriting.{rewrite}
use Rattle.rule.specs.Sums.{AllUnder, symbols_in}
use Rattle.rule.specs.Training.{rewrite_all}
use Rattle.word.specs.Layout.{Words, Numbers, words_in}
use Rattle.word.specs.declared.WordSet.{WordSet}
use Rattle.merge.specs.Merging.{change_at}
use Rattle.states.specs.State.{most, key}
use Rattle.states.specs.Tracking.{Tracks, Gaining, Weighed}
use Rattle.pairs.specs.View.{state, made}
use Rattle.pairs.specs.Pairs.{Pairing}
use Rattle.pairs.specs.declared.Pairs.{Pairs}
use Rattle.reports.specs.Reports.{beyond, Listing, Staying}
use Rattle.joining.specs.declared.Joined.{Joined}

-- BETWEEN TWO WORDS of the merge of (a,b) to x, with n pairs touched so far
pub record Midway (a b x : ℕ) (w : WordSet) (p : Pairs) (n : ℕ) (cs : List ℕ) : Type 0 where
  pub words : Words w cs
  pub apart : w.top ≤ p.base
  pub ok : Pairing p cs
  pub tracks : Tracks (state p cs) (key a b) (words_in w cs)
  pub gaining : Gaining (state p cs) x
  pub listing : Listing p (key a b) n cs
  pub left : a < x
  pub right : b < x
  pub new : x < most
  pub under : AllUnder (x + 1) (words_in w cs)
  pub light : symbols_in (words_in w cs) < 2 ^ 53
  pub weighed : Weighed (words_in w cs)
  pub space : made p cs + 2 * w.live ≤ p.most
  pub places : n + 4 * w.live ≤ 2 * p.most

-- word k is rewritten, and the states track the words again
pub record JoinedWord (a b x : ℕ) (w : WordSet) (p : Pairs) (k : ℕ) (cs ds : List ℕ) (r : Joined) : Type 0 where
  pub midway : Midway a b x r.words p r.touched ds
  pub view : words_in r.words ds ≡ change_at (rewrite a b x) k (words_in w cs)
  pub numbers : Numbers r.words w.starts w.count w.low w.top r.words.live
  pub list : (state p ds (key a b)).words ≡ (state p cs (key a b)).words
  pub records : Staying p cs ds
  pub kept : Kept w.low (beyond p) cs ds

-- every word is rewritten
pub record JoinedAll (a b x : ℕ) (w : WordSet) (p : Pairs) (cs ds : List ℕ) (r : Joined) : Type 0 where
  pub midway : Midway a b x r.words p r.touched ds
  pub view : words_in r.words ds ≡ rewrite_all a b x (words_in w cs)
  pub numbers : Numbers r.words w.starts w.count w.low w.top r.words.live
  pub records : Staying p cs ds
  pub kept : Kept w.low (beyond p) cs ds
