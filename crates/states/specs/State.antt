-- What is known of a pair, and how a report changes it: `PairState` of the original.
use Rattle.std.specs.Prelude.{◌≡◌, Bool, true, cond, ◌&&◌, List, [], ◌∷◌, ◌++◌, ℕ, ◌+◌, ◌-◌, ◌*◌, ◌/◌, ◌%◌, ◌<◌, eqb, ltb, length}
use Rattle.runs.specs.Parts.{nth}
use Rattle.marks.specs.Marks.{touched, gained, marking}

-- its count, its three marks in one number, and the words that may hold it
pub record State : Type 0 where
  pub count : ℕ
  pub marks : ℕ
  pub words : List ℕ

-- the state of a pair that nothing is known of
abbrev pub blank : State
blank = record { count = 0; marks = 0; words = [] }

-- no symbol of a pair is so large
abbrev pub most : ℕ
most = 4294967295

-- A PAIR AS ONE NUMBER above 0, in the order of pairs
unfoldable pub key : ℕ → ℕ → ℕ
key p q = p * 4294967296 + q + 1

-- its two symbols again
unfoldable pub left_of : ℕ → ℕ
left_of c = (c - 1) / 4294967296

unfoldable pub right_of : ℕ → ℕ
right_of c = (c - 1) % 4294967296

-- c is the number of a pair of small symbols
pub record OfPair (c : ℕ) : Type 0 where
  pub is : key (left_of c) (right_of c) ≡ c
  pub left : left_of c < most
  pub right : right_of c < most

-- w stands in a list
pub record Among (w : ℕ) (ws : List ℕ) : Type 0 where
  pub at : ℕ
  pub low : at < length ws
  pub is : nth ws at ≡ w

-- the number noted last is w
unfoldable pub last_is : ℕ → List ℕ → Bool
last_is w ws = ltb 0 (length ws) && eqb (nth ws (length ws - 1)) w

-- a list is in rising order, each word once: words come in order, so that to look at the last is enough
unfoldable pub noted : ℕ → List ℕ → List ℕ
noted w ws = cond (last_is w ws) ws (ws ++ (w ∷ []))

-- HOW A REPORT CHANGES A STATE: +1 and -1, f times, in the word w. Either is a touch, and a raise is a gain too
unfoldable pub raise : ℕ → ℕ → State → State
raise f w s = record { count = s.count + f; marks = marking gained true (marking touched true s.marks); words = noted w s.words }

unfoldable pub lower : ℕ → State → State
lower f s = record { count = s.count - f; marks = marking touched true s.marks; words = s.words }

-- the state of c is s now, and every other as it was
pub record Change (c : ℕ) (s : State) (was is : ℕ → State) : Type 0 where
  pub here : is c ≡ s
  pub others : (d : ℕ) → 0 < d → (d ≡ c → ⊥) → is d ≡ was d
