-- THE LAYOUT OF THE WORK ROOM, in cells of 64 bits, of u units and a symbols of the alphabet. `room_for` bytes of document 01 are 64 * (u + a) + 4096 cells.
use Rattle.std.specs.Prelude.{◌≡◌, cond, List, [], ◌∷◌, ℕ, ◌+◌, ◌*◌, ◌/◌, ◌^◌, ◌<◌, ◌≤◌, ltb}

-- no word has more units than bytes, and the words of a table have at most 2 ^ 28 bytes
abbrev pub FewUnits : ℕ → Type 0
FewUnits u = u ≤ 268435456

-- a region: where it begins, and its cells
pub record Region : Type 0 where
  pub at : ℕ
  pub many : ℕ

-- THE WORDS, from seeding to the end: a place for each kept word (of two units or more), then two cells for each unit (a kept word has its
-- frequency and its length before its symbols), and two for a word that is open
abbrev pub words_at : ℕ → ℕ
words_at u = u / 2 + 1

abbrev pub places : ℕ → Region
places u = record { at = 0; many = words_at u }

abbrev pub words : ℕ → Region
words u = record { at = words_at u; many = 2 * u + 2 }

-- SEEDING: the distinct units in order, two cells each
abbrev pub units_at : ℕ → ℕ
units_at u = words_at u + (2 * u + 2)

abbrev pub ordered : ℕ → Region
ordered u = record { at = units_at u; many = 2 * u }

-- and behind them the table of the units met, two cells a slot; once they are in order, the table of spellings, a cell a slot
abbrev pub table_at : ℕ → ℕ
table_at u = units_at u + 2 * u

unfoldable pub slots_for : ℕ → ℕ
slots_for u = cond (ltb u 1114368) (2 * u + 1) (2 * 1114368 + 1)

abbrev pub met : ℕ → Region
met u = record { at = table_at u; many = 2 * slots_for u }

-- where `first` seeds come first
abbrev pub spellings_for : ℕ → ℕ → ℕ
spellings_for first a = 8 * first + 2 * a + 1

abbrev pub spellings : ℕ → ℕ → ℕ → Region
spellings u first a = record { at = table_at u; many = spellings_for first a }

-- TRAINING, with at most 3 u records of pairs: the index of pairs (two cells a slot), its slots a power of two above the records
pub record IndexSize (u cap : ℕ) : Type 0 where
  pub above : 3 * u < cap
  pub below : cap ≤ 6 * u + 1
  pub exponent : ℕ
  pub power : cap ≡ 2 ^ exponent

abbrev pub index : ℕ → ℕ → Region
index u cap = record { at = units_at u; many = 2 * cap }

-- the records, of eight cells each behind three of their own; the words of each pair, four cells a record behind two of their own
abbrev pub records : ℕ → ℕ → Region
records u cap = record { at = units_at u + 2 * cap; many = 3 + 3 * u * 8 }

abbrev pub lists : ℕ → ℕ → Region
lists u cap = record { at = units_at u + 2 * cap + (3 + 3 * u * 8); many = 2 + 4 * (3 * u) }

-- the pairs that a merge touched; the queue, two cells an entry
abbrev pub touched : ℕ → ℕ → Region
touched u cap = record { at = units_at u + 2 * cap + (3 + 3 * u * 8) + (2 + 4 * (3 * u)); many = 2 * (3 * u) }

abbrev pub queue : ℕ → ℕ → Region
queue u cap = record { at = units_at u + 2 * cap + (3 + 3 * u * 8) + (2 + 4 * (3 * u)) + 2 * (3 * u); many = 2 * (3 * u) }

-- the regions that are in use at the same time, stage by stage
abbrev pub gathering : ℕ → List Region
gathering u = places u ∷ words u ∷ ordered u ∷ met u ∷ []

abbrev pub seeding : ℕ → ℕ → ℕ → List Region
seeding u first a = places u ∷ words u ∷ ordered u ∷ spellings u first a ∷ []

abbrev pub training : ℕ → ℕ → List Region
training u cap = places u ∷ words u ∷ index u cap ∷ records u cap ∷ lists u cap ∷ touched u cap ∷ queue u cap ∷ []

-- the cells of a work room that document 01 asks for
abbrev pub cells_for : ℕ → ℕ → ℕ
cells_for u a = 64 * (u + a) + 4096

-- regions one behind the other, none over another, from a cell on up to the last of some cells
unfoldable pub Behind : ℕ → ℕ → List Region → Type 0
Behind from to [] = from ≤ to
Behind from to (r ∷ rs) = (from ≡ r.at) × Behind (r.at + r.many) to rs
