-- Seeding: the pieces before the first merge, and the words in their numbers.
use Rattle.std.specs.Prelude.{cond, ℕ, zero, suc}
use mathlib.Core.List.{List, [], ◌∷◌, ◌++◌, map, flat_map, foldl}
use Rattle.order.specs.Order.{same}
use Rattle.rule.specs.Shapes.{below, some?, first}
use Rattle.rule.specs.Table.{Task, chars, frequencies, alphabet, word_units}
use Rattle.rule.specs.Spelling.{decorate}

-- "each word's decorated units in word order"
unfoldable pub decorated : Task → List (List (List ℕ))
decorated t = map (decorate t.prefix t.suffix) (word_units t)

-- the lowest number with a spelling
unfoldable pub number_of : List (List ℕ) → List ℕ → ℕ
number_of ps s = first (map (same s) ps)

-- "A spelling already present gets its existing number"; any other the next
unfoldable pub intern : List (List ℕ) → List ℕ → List (List ℕ)
intern ps s = let more = ps ++ (s ∷ []) in cond (some? (map (same s) ps)) ps more

-- "seeds 0 to 255 are the byte values, used or not": n of them from b on
unfoldable pub byte_values : ℕ → ℕ → List (List ℕ)
byte_values zero b = []
byte_values (suc n) b = (b ∷ []) ∷ byte_values n (suc b)

-- "The distinct undecorated units of all words become seeds in byte order": a unit put in its place, unless it is there
unfoldable pub insert : List (List ℕ) → List ℕ → List (List ℕ)
insert [] u = u ∷ []
insert (v ∷ vs) u =
    let further = v ∷ insert vs u in
    cond (below u v) (u ∷ v ∷ vs) (cond (same u v) (v ∷ vs) further)

-- all of some units, put in one by one
unfoldable pub distinct : List (List ℕ) → List (List ℕ)
distinct us = foldl insert [] us

-- the seeds that come first, by the seeding
unfoldable pub first_seeds : ℕ → List (List (List ℕ)) → List (List ℕ)
first_seeds seeding us =
    let inOrder = distinct (flat_map (λ w. w) us) in
    cond (chars seeding) inOrder (byte_values 256 0)

-- "Then the initial alphabet in given order, then each word's decorated units in word order". "Alphabet length is the piece count at this moment"
unfoldable pub seeds : Task → List (List ℕ)
seeds t = foldl intern (first_seeds t.seeding (word_units t)) (alphabet t ++ flat_map (λ w. w) (decorated t))

-- a kept word: its frequency and its symbols
pub record Entry : Type 0 where
  pub frequency : ℕ
  pub symbols : List ℕ

-- a one-unit word "takes no part in merging. An empty word adds nothing"
unfoldable pub keep : ℕ → List ℕ → List Entry → List Entry
keep f [] rest = rest
keep f (s ∷ []) rest = rest
keep f (s ∷ s₁ ∷ ss) rest = record { frequency = f; symbols = s ∷ s₁ ∷ ss } ∷ rest

-- of frequencies and decorated words, with their numbers among the pieces
unfoldable pub kept_with : List (List ℕ) → List ℕ → List (List (List ℕ)) → List Entry
kept_with ps [] ws = []
kept_with ps (f ∷ fs) [] = []
kept_with ps (f ∷ fs) (w ∷ ws) = keep f (map (number_of ps) w) (kept_with ps fs ws)

-- the kept words of a task
unfoldable pub kept : Task → List Entry
kept t = kept_with (seeds t) (frequencies t) (decorated t)
