-- What the contracts of `text` cite beside the definitions of RFC 3629: a seeding, and two answers.
use Rattle.std.specs.Prelude.{◌≡◌, Bool, true, cond, Option, Some, None, List, ℕ, ◌+◌, ◌-◌, ◌≤◌, ◌<◌, length}
use Rattle.runs.specs.Parts.{part}
use Rattle.rfc3629.specs.Cut.{well_formed, unit_len, units_by, seeded}
use Rattle.rule.specs.Table.{chars}
use Rattle.text.specs.declared.Seeding.{Seeding}
use Rattle.text.specs.declared.Seeding.TheVariants.{Bytes, Chars}

-- "Settings are numbers: seeding (0 Bytes, 1 Chars)"
unfoldable pub setting_of : Seeding → ℕ
setting_of Bytes = 0
setting_of Chars = 1

-- whether a seeding goes by characters
unfoldable pub by_chars : Seeding → Bool
by_chars d = chars (setting_of d)

-- how many characters a word is, if it is well formed
unfoldable pub chars_in : List ℕ → Option ℕ
chars_in w = cond (well_formed w) (Some (length (units_by true w))) None

-- r is where the unit at `at` ends, in a word that ends at `to`, by characters (true) or by bytes (false)
pub record Next (whole : Bool) (s : List ℕ) (at to r : ℕ) : Type 0 where
  pub is : r ≡ at + unit_len whole (part at (to - at) s)
  pub on : at < r
  pub inside : r ≤ to

-- r is the number of units of a word, under Chars (true) or Bytes (false)
pub record Counted (byCharacters : Bool) (w : List ℕ) (r : ℕ) : Type 0 where
  pub is : r ≡ length (seeded byCharacters w)
  pub few : r ≤ length w
