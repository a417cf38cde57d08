-- Byte order and equality of two lists of bytes.
use Rattle.std.specs.Prelude.{Bool, true, false, cond, ◌&&◌, List, [], ◌∷◌, ℕ, eqb, ltb}
use Rattle.std.specs.declared.cmp.Ordering.{Ordering}
use Rattle.std.specs.declared.cmp.Ordering.TheVariants.{Less, Equal, Greater}

-- by the first byte that differs; of two lists of which one begins the other, the shorter is below
unfoldable pub compared : List ℕ → List ℕ → Ordering
compared [] [] = Equal
compared [] (y ∷ ys) = Less
compared (x ∷ xs) [] = Greater
compared (x ∷ xs) (y ∷ ys) = cond (ltb x y) Less (cond (ltb y x) Greater (compared xs ys))

-- the same bytes
unfoldable pub same : List ℕ → List ℕ → Bool
same [] [] = true
same [] (y ∷ ys) = false
same (x ∷ xs) [] = false
same (x ∷ xs) (y ∷ ys) = eqb x y && same xs ys
