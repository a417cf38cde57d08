-- One piece more, one merge more, or no place for it.
use Rattle.std.specs.Prelude.{◌≡◌, Result, Ok, Err, ⊤, List, [], ◌∷◌, ◌++◌, ◌⊎◌, ℕ, ◌+◌, ◌*◌, ◌<◌, ◌≤◌, length}
use Rattle.runs.specs.Parts.{laid, Kept}
use Rattle.numbers.specs.Little.{spell}
use Rattle.error.specs.declared.NoRoom.{NoRoom}
use Rattle.intern.specs.Pieces.{pieces, Held}
use Rattle.intern.specs.Intern.{Lacks}

-- n pieces of u bytes, and s behind them
pub record More (n u : ℕ) (s xs ys vs ws : List ℕ) (u' : ℕ) : Type 0 where
  pub held : Held (n + 1) u' vs ws
  pub are : pieces vs ws (n + 1) ≡ pieces xs ys n ++ (s ∷ [])
  pub long : u' ≡ u + length s
  pub bytes : Kept u u' xs vs
  pub ends : Kept (n * 4) ((n + 1) * 4) ys ws

-- "A merge always takes the next number, even if the spelling exists"
unfoldable pub PieceDone : Result ℕ NoRoom → ℕ → ℕ → List ℕ → List ℕ → List ℕ → List ℕ → List ℕ → Type 0
PieceDone (Ok u') n u s xs ys vs ws = More n u s xs ys vs ws u'
PieceDone (Err _) n u s xs ys vs ws = (vs ≡ xs) × (ws ≡ ys) × Lacks n u s xs ys

-- "merges (left then right number, 4 bytes each) and savings (8 bytes, one for each merge)": the k-th
unfoldable pub MergeDone : Result ⊤ NoRoom → ℕ → ℕ → ℕ → ℕ → List ℕ → List ℕ → List ℕ → List ℕ → Type 0
MergeDone (Ok _) k left right saved ms ss ns ts = (k * 8 + 8 ≤ length ms) × (k * 8 + 8 ≤ length ss) × (ns ≡ laid ms (k * 8) (spell 4 left ++ spell 4 right)) × (ts ≡ laid ss (k * 8) (spell 8 saved))
MergeDone (Err _) k left right saved ms ss ns ts = (ns ≡ ms) × (ts ≡ ss) × ((length ms < k * 8 + 8) ⊎ (length ss < k * 8 + 8))
