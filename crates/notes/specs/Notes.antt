-- A word noted in a pair's list: what becomes of the pair's state, and what stays of the others.
use Rattle.std.specs.Prelude.{◌≡◌, List, [], ◌∷◌, ◌++◌, ◌⊎◌, ℕ, ◌+◌, ◌-◌, ◌*◌, ◌<◌, ◌≤◌, length}
use Rattle.runs.specs.Parts.{nth, part, Kept}
use Rattle.records.specs.Records.{field, Live}
use Rattle.states.specs.State.{State, noted, Change}
use Rattle.pairs.specs.View.{arena_at, data_at, behind, record_of, many, place, capacity, state, top, made, credit, spent}
use Rattle.pairs.specs.Pairs.{Long, Has}
use Rattle.pairs.specs.declared.Pairs.{Pairs}

-- a state with the word w noted
abbrev pub with_note : ℕ → State → State
with_note w s = record { count = s.count; marks = s.marks; words = noted w s.words }

-- a state with the word w behind the others
abbrev pub with_more : ℕ → State → State
with_more w s = record { count = s.count; marks = s.marks; words = s.words ++ (w ∷ []) }

-- there are four cells for it
pub record CanNote (p : Pairs) (k r : ℕ) (cs : List ℕ) : Type 0 where
  pub has : Has p k r cs
  pub space : spent p cs + 4 ≤ 4 * made p cs

pub record Noted (p : Pairs) (k r : ℕ) (s : State) (was is : List ℕ) : Type 0 where
  pub has : Has p k r is
  pub change : Change k s (state p was) (state p is)
  pub records : (q : ℕ) → 0 < q → record_of p is q ≡ record_of p was q
  pub kept : Kept p.base (behind p) was is
  pub same : made p is ≡ made p was
  pub most : spent p is ≤ spent p was + 4

-- THE PARTS OF A NOTE: the list has n words, fewer than four
pub record AddShort (p : Pairs) (k r n : ℕ) (cs : List ℕ) : Type 0 where
  pub can : CanNote p k r cs
  pub many_is : n ≡ many p cs r
  pub few : n < 4

-- or four or more
pub record AddLong (p : Pairs) (k r n : ℕ) (cs : List ℕ) : Type 0 where
  pub can : CanNote p k r cs
  pub many_is : n ≡ many p cs r
  pub least : 4 ≤ n

-- WHAT STAYS where only the list of the record r changes: every other record, and of this one the key, the count and the marks
pub record Still (p : Pairs) (r : ℕ) (was is : List ℕ) : Type 0 where
  pub live : Live (arena_at p) p.most r is
  pub kept : Kept (arena_at p + 3) (behind p) was is
  pub others : (s g : ℕ) → s < p.most → g < 8 → (s ≡ r → ⊥) → field (arena_at p) is s g ≡ field (arena_at p) was s g
  pub mine : (g : ℕ) → g < 3 → field (arena_at p) is r g ≡ field (arena_at p) was r g
  pub same : made p is ≡ made p was

-- there is a new run for n words
pub record CanMove (p : Pairs) (k r from n size : ℕ) (cs : List ℕ) : Type 0 where
  pub has : Has p k r cs
  pub source : from + n ≤ length cs
  pub fits : n ≤ size
  pub space : top p cs + size ≤ 4 * p.most

-- they stand in it: it lies at the old top, and nothing below has changed
pub record MovedList (p : Pairs) (r from n size : ℕ) (was is : List ℕ) : Type 0 where
  pub still : Still p r was is
  pub place_is : place p is r ≡ top p was
  pub capacity_is : capacity p is r ≡ size
  pub top_is : top p is ≡ top p was + size
  pub below : (j : ℕ) → j < top p was → nth is (data_at p + j) ≡ nth was (data_at p + j)
  pub words : part (data_at p + top p was) n is ≡ part from n was

-- the n words stand in a run that no other list meets, and it has space for one more, which the four cells pay
pub record Ready (p : Pairs) (k r n : ℕ) (was is : List ℕ) : Type 0 where
  pub still : Still p r was is
  pub space : n < capacity p is r
  pub below : place p is r + capacity p is r ≤ top p is
  pub grown : top p was ≤ top p is
  pub apart : (s : ℕ) → (s ≡ r → ⊥) → Long p was s
      → (place p is r + capacity p is r ≤ place p was s) ⊎ (place p was s + capacity p was s ≤ place p is r)
  pub lists : (s j : ℕ) → (s ≡ r → ⊥) → Long p was s → j < many p was s → nth is (data_at p + place p was s + j) ≡ nth was (data_at p + place p was s + j)
  pub words : part (data_at p + place p is r) n is ≡ (state p was k).words
  pub cost : top p is + (4 * (n + 1) - 2 * capacity p is r) ≤ top p was + credit p was r + 4
  pub bound : top p is ≤ 4 * p.most
