-- Pieces in two runs: their bytes end to end in one, their ends, 4 bytes each, in the other.
use Rattle.std.specs.Prelude.{◌≡◌, List, [], ◌∷◌, ◌++◌, ℕ, zero, suc, ◌+◌, ◌*◌, ◌<◌, ◌≤◌, length}
use Rattle.rule.specs.Layout.{piece_start, piece_at}

-- THE VIEW: the first n pieces of the rooms, each "by its number"
unfoldable pub pieces : List ℕ → List ℕ → ℕ → List (List ℕ)
pieces xs ys zero = []
pieces xs ys (suc n) = pieces xs ys n ++ (piece_at xs ys n ∷ [])

-- the rooms hold n pieces, u bytes in all: "piece ends" that rise from 0 to u, below 2^32
pub record Held (n u : ℕ) (xs ys : List ℕ) : Type 0 where
  pub ends : n * 4 ≤ length ys
  pub bytes : u ≤ length xs
  pub small : u ≤ 4294967295
  pub rises : (j : ℕ) → j < n → piece_start ys j ≤ piece_start ys (j + 1)
  pub low : (j : ℕ) → j ≤ n → piece_start ys j ≤ u
  pub last : piece_start ys n ≡ u
