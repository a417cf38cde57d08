-- What a recount asks of the rooms, and what it tells: the choice of the rule.
use Rattle.std.specs.Prelude.{◌≡◌, Bool, false, cond, ◌&&◌, List, ℕ, ◌^◌, ◌<◌, eqb, Option, Some, None}
use Rattle.rule.specs.Table.{Task}
use Rattle.rule.specs.Seeding.{Entry}
use Rattle.rule.specs.Sums.{AllUnder, symbols_in}
use Rattle.rule.specs.Training.{nothing, count, better, best, candidates_in, choose, limits}
use Rattle.rule.specs.Training as rule
use Rattle.intern.specs.Pieces.{Held}
use Rattle.word.specs.Layout.{Words, words_in}
use Rattle.word.specs.declared.WordSet.{WordSet}
use Rattle.recount.specs.declared.Choice.{Choice}

-- a choice as the rule has it
unfoldable pub ruled : Choice → rule.Choice
ruled c = record { left = c.left; right = c.right; times = c.times }

-- and where there is none
unfoldable pub told : Option Choice → rule.Choice
told None = nothing
told (Some c) = ruled c

-- the better of two, c where they are equal
unfoldable pub pick : Option Choice → Choice → Option Choice
pick c d = cond (better (ruled d) (told c)) (Some d) c

-- c is the pair (s,t)
unfoldable pub known : Option Choice → ℕ → ℕ → Bool
known None s t = false
known (Some c) s t = eqb c.left s && eqb c.right t

-- WHAT A RECOUNT ASKS: a word set whose counts stay below 2^53, and a piece for each of its symbols
pub record Ready (w : WordSet) (piece_count used : ℕ) (cs xs ys : List ℕ) : Type 0 where
  pub words : Words w cs
  pub light : symbols_in (words_in w cs) < 2 ^ 53
  pub below : AllUnder piece_count (words_in w cs)
  pub held : Held piece_count used xs ys

-- a choice has its pair's count, which is some
pub record Weighed (es : List Entry) (c : Option Choice) : Type 0 where
  pub some : (d : Choice) → c ≡ Some d → 0 < d.times
  pub counted : (d : Choice) → c ≡ Some d → d.times ≡ count d.left d.right es

-- r is the best of c and the pairs of some symbols
pub record Tried (prefix : List ℕ) (limit : ℕ) (ps : List (List ℕ)) (es : List Entry) (l : List ℕ) (c r : Option Choice) : Type 0 where
  pub is : told r ≡ best (told c) (candidates_in (limits prefix limit) ps es l)
  pub weighed : Weighed es r

-- WHAT A RECOUNT TELLS: for every task with this prefix and this limit, the pair that the rule chooses, and none where that has no count
pub record Chosen (prefix : List ℕ) (limit : ℕ) (ps : List (List ℕ)) (es : List Entry) (r : Option Choice) : Type 0 where
  pub is : (t : Task) → t.prefix ≡ prefix → t.max_piece_length ≡ limit → choose t ps es ≡ told r
  pub some : (c : Choice) → r ≡ Some c → 0 < c.times
