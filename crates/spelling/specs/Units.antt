-- The units of a word with their decoration, from the front: `decorate` of the rule as a loop over the units meets it.
use Rattle.std.specs.Prelude.{Bool, true, false, cond, List, [], ◌∷◌, ◌++◌, ℕ}

-- one unit: "prefix before each unit but a word's first; suffix after the last"
unfoldable pub dressed : List ℕ → List ℕ → Bool → Bool → List ℕ → List ℕ
dressed p s isFirst is_last u = cond isFirst [] p ++ (u ++ cond is_last s [])

-- the units from some place on, of which the foremost is the word's first or not
unfoldable pub dressed_from : List ℕ → List ℕ → Bool → List (List ℕ) → List (List ℕ)
dressed_from p s isFirst [] = []
dressed_from p s isFirst (u ∷ []) = dressed p s isFirst true u ∷ []
dressed_from p s isFirst (u ∷ v ∷ us) = dressed p s isFirst false u ∷ dressed_from p s false (v ∷ us)
