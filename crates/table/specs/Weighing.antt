-- What a pass over the words finds: the units of a word, the weight up to 2^53, the units of all words.
use Rattle.std.specs.Prelude.{◌≡◌, cond, List, map, ℕ, ◌+◌, ◌*◌, ◌^◌, ◌≤◌, ltb, length}
use Rattle.numbers.specs.Little.{numbers}
use Rattle.rule.specs.Table.{units_of, total, weighed}

-- "Let U be the units of all words", of seeding, word bytes and word ends
unfoldable pub unit_count : ℕ → List ℕ → List ℕ → ℕ
unit_count seeding ws es = total (map length (units_of seeding ws es))

-- "2^53 or more" is told as 2^53: a number up to it
unfoldable pub capped : ℕ → ℕ
capped n = cond (ltb n (2 ^ 53)) n (2 ^ 53)

-- r is a weight with one word more: "frequency times units"
pub record Heavier (weight frequency count r : ℕ) : Type 0 where
  pub is : r ≡ capped (weight + frequency * count)
  pub low : r ≤ 2 ^ 53

-- "sum over all words of frequency times units", up to 2^53, and "U the units of all words", no more than their bytes
pub record IsWeighed (seeding : ℕ) (ws es fs : List ℕ) (weight count : ℕ) : Type 0 where
  pub weight_is : weight ≡ capped (weighed (numbers 8 fs) (units_of seeding ws es))
  pub units_is : count ≡ unit_count seeding ws es
  pub few : count ≤ length ws
