-- Runs of bytes as tables: whole numbers, parts between ends, byte order as a test, places of tests, and what is written over a run.
use Rattle.std.specs.Prelude.{Bool, true, false, ◌&&◌, ◌||◌, ℕ, suc, ◌+◌, ◌-◌, ◌%◌, eqb, leb, length}
use mathlib.Core.List.{List, [], ◌∷◌, ◌++◌, flat_map}
use Rattle.runs.specs.Parts.{part, zeros}
use Rattle.order.specs.Order.{compared}
use Rattle.std.specs.declared.cmp.Ordering.{Ordering}
use Rattle.std.specs.declared.cmp.Ordering.TheVariants.{Less, Equal, Greater}
use Rattle.numbers.specs.Little.{spell, numbers}

-- "whole 4s", "whole 8s"
abbrev pub wholes : ℕ → List ℕ → Bool
wholes w run = eqb (length run % w) 0

-- numbers end to end, w bytes each
unfoldable pub spell_all : ℕ → List ℕ → List ℕ
spell_all w ns = flat_map (spell w) ns

-- the parts of a run: each from the end before it to its own
unfoldable pub parts : List ℕ → ℕ → List ℕ → List (List ℕ)
parts run from [] = []
parts run from (e ∷ es) = part from (e - from) run ∷ parts run e es

-- bytes "end to end" with their ends "4 bytes each": the parts, the first from 0
unfoldable pub parts_by : List ℕ → List ℕ → List (List ℕ)
parts_by run ends = parts run 0 (numbers 4 ends)

-- the ends of some parts, laid end to end from a place
unfoldable pub ends_from : ℕ → List (List ℕ) → List ℕ
ends_from from [] = []
ends_from from (p ∷ ps) = (from + length p) ∷ ends_from (from + length p) ps

-- not "an end below the one before; last end not the byte length (with no entries: bytes present)": the ends rise from a place to n
unfoldable pub rise_to : ℕ → ℕ → List ℕ → Bool
rise_to n from [] = eqb from n
rise_to n from (e ∷ es) = leb from e && rise_to n e es

-- the shape rules of bytes and their 4-byte ends
unfoldable pub shaped : List ℕ → List ℕ → Bool
shaped run ends = wholes 4 ends && rise_to (length run) 0 (numbers 4 ends)

-- byte order as a test
unfoldable pub is_below : Ordering → Bool
is_below Less = true
is_below Equal = false
is_below Greater = false

-- "in byte order": v strictly below w
unfoldable pub below : List ℕ → List ℕ → Bool
below v w = is_below (compared v w)

-- whether one of some tests holds
unfoldable pub some? : List Bool → Bool
some? [] = false
some? (b ∷ bs) = b || some? bs

-- the place of the first that does, their number where none does: "Places given count from 0"
unfoldable pub first : List Bool → ℕ
first [] = 0
first (true ∷ bs) = 0
first (false ∷ bs) = suc (first bs)

-- a run that holds an answer, and beyond it 0
unfoldable pub filled : List ℕ → List ℕ → List ℕ
filled run new = new ++ zeros (length run - length new)
