-- Spelling: decoration of a word's units, and the joining of two spellings.
use Rattle.std.specs.Prelude.{Bool, true, false, cond, ◌&&◌, List, [], ◌∷◌, ◌++◌, map, ℕ, eqb, length, drop, get_or}

-- "prefix before each unit but a word's first"
unfoldable pub prefixed : List ℕ → List (List ℕ) → List (List ℕ)
prefixed p [] = []
prefixed p (u ∷ us) = u ∷ map (λ v. p ++ v) us

-- "suffix after the last"
unfoldable pub suffixed : List ℕ → List (List ℕ) → List (List ℕ)
suffixed s [] = []
suffixed s (u ∷ []) = (u ++ s) ∷ []
suffixed s (u ∷ v ∷ us) = u ∷ suffixed s (v ∷ us)

-- both; "A one-unit word gets only the suffix"
unfoldable pub decorate : List ℕ → List ℕ → List (List ℕ) → List (List ℕ)
decorate p s us = suffixed s (prefixed p us)

-- whether a piece has a prefix
unfoldable pub leads : List ℕ → List ℕ → Bool
leads [] piece = true
leads (p ∷ ps) [] = false
leads (p ∷ ps) (b ∷ piece) = eqb p b && leads ps piece

-- "without one leading prefix if it has it"
unfoldable pub strip_prefix : List ℕ → List ℕ → List ℕ
strip_prefix prefix piece = cond (leads prefix piece) (drop (length prefix) piece) piece

-- "A joined piece is the left spelling, then the right one without one leading prefix if it has it"
unfoldable pub joined : List ℕ → List ℕ → List ℕ → List ℕ
joined prefix left right = left ++ strip_prefix prefix right

-- the spelling that a number has among the pieces
abbrev pub spelling : List (List ℕ) → ℕ → List ℕ
spelling ps n = get_or ps n []

-- WHAT THE LENGTH LIMIT MEASURES: "maximum piece length in bytes"
unfoldable pub measure : List ℕ → ℕ
measure piece = length piece
