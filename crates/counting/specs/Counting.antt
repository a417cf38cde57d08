-- What counting a pair adds up, word by word.
use Rattle.std.specs.Prelude.{◌≡◌, List, ℕ, ◌+◌, ◌*◌, ◌≤◌, drop}
use Rattle.rule.specs.Rewriting.{bit, is_pair, count_in}
use Rattle.rule.specs.Seeding.{Entry}
use Rattle.rule.specs.Sums.{symbols_in}
use Rattle.word.specs.Layout.{entry_at}

-- 1 where (s,t) is (p,q), else 0
pub record Tested (p q s t r : ℕ) : Type 0 where
  pub is : r ≡ bit (is_pair p q s t)
  pub few : r ≤ 1

-- the share of word k is added to a sum: its frequency times the positions that hold (p,q). No share is above the word's weight
pub record Counted (es : List Entry) (k p q sum r : ℕ) : Type 0 where
  pub is : r ≡ sum + (entry_at es k).frequency * count_in p q (entry_at es k).symbols
  pub light : r + symbols_in (drop (k + 1) es) ≤ sum + symbols_in (drop k es)
