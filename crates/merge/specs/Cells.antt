-- Rewriting (a,b) to x in the cells of a word, in place.
use Rattle.std.specs.Prelude.{◌≡◌, cond, List, [], ◌∷◌, ◌++◌, map, ℕ, ◌+◌, ◌^◌, ◌≤◌, ◌<◌, eqb, length, drop, Option}
use Rattle.runs.specs.Parts.{nth, part, Kept}
use Rattle.rule.specs.Rewriting.{Span, one, hit, cut}
use Rattle.step.specs.Step.{step_of, StepAt}
use Rattle.step.specs.declared.Step.{Step}
use Rattle.word.specs.Layout.{symbol_in, symbols_at}

-- what the pieces of a word make of its cells: a symbol that stays keeps its whole cell, an occurrence becomes the cell x
unfoldable pub cells_of : ℕ → List Span → List ℕ → List ℕ
cells_of x [] l = []
cells_of x (p ∷ ps) [] = []
cells_of x (one s ∷ ps) (c ∷ l) = c ∷ cells_of x ps l
cells_of x (hit ∷ ps) (c ∷ []) = []
cells_of x (hit ∷ ps) (c ∷ d ∷ l) = x ∷ cells_of x ps l

-- "Rewriting (a,b) to X goes left to right without overlap", in cells
unfoldable pub rewrite_cells : ℕ → ℕ → ℕ → List ℕ → List ℕ
rewrite_cells a b x l = cells_of x (cut a b (map symbol_in l)) l

-- what a step leaves in a cell: the whole cell c of a symbol that it keeps, or its symbol
unfoldable pub leaves : Step → ℕ → ℕ
leaves st c = cond (eqb st.took 1) c st.symbol

-- a step at the front of the `left` symbols from the cell `at` on
pub record Looked (a b x : ℕ) (previous : Option ℕ) (at left : ℕ) (cs : List ℕ) (st : Step) : Type 0 where
  pub is : st ≡ step_of a b x previous (symbols_at at left cs)
  pub step : StepAt a b x previous (symbols_at at left cs) st
  pub within : st.took ≤ left
  pub cells_is : rewrite_cells a b x (part at left cs) ≡ leaves st (nth cs at) ∷ rewrite_cells a b x (drop st.took (part at left cs))

-- the n symbols from the cell start on are rewritten in place, and k of them are kept
pub record Rewritten (a b x start n : ℕ) (cs ds : List ℕ) (k : ℕ) : Type 0 where
  pub cells_is : part start k ds ≡ rewrite_cells a b x (part start n cs)
  pub fewer : k ≤ n
  pub kept : Kept start (start + k) cs ds

-- while they are: k are written, and `left` from the cell `at` on are still to be read
pub record Run (a b x start n k at left : ℕ) (cs ds : List ℕ) : Type 0 where
  pub sofar : part start k ds ++ rewrite_cells a b x (part at left ds) ≡ rewrite_cells a b x (part start n cs)
  pub kept : Kept start (start + k) cs ds
  pub behind : start + k ≤ at
  pub ends : at + left ≡ start + n
  pub room : start + n ≤ length ds
  pub long : length ds ≡ length cs
  pub small : length ds < 2 ^ 61

-- the word of n symbols at the cell s is rewritten in place, and m of them are kept: its length and its symbols change, and no other cell
pub record RewrittenWord (a b x s n : ℕ) (cs ds : List ℕ) (m : ℕ) : Type 0 where
  pub cells_is : part (s + 2) m ds ≡ rewrite_cells a b x (part (s + 2) n cs)
  pub length_is : nth ds (s + 1) ≡ m
  pub fewer : m ≤ n
  pub kept : Kept (s + 1) (s + 2 + m) cs ds
