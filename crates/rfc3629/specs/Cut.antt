-- Document 01, "Seeding and spelling": the units of a word. "Bytes: each byte is a unit"; "Chars: a well-formed UTF-8 word .. is cut
-- into its characters; any other word is cut into bytes as a whole."
use Rattle.std.specs.Prelude.{Bool, true, false, cond, ◌&&◌, ℕ, zero, suc, ◌≤◌, ◌<◌, ltb, length, take, drop}
use mathlib.Core.List.{List, [], ◌∷◌, map, flatten}
use Rattle.rfc3629.specs.Rfc3629.{Scalar, encode}
use Rattle.rfc3629.specs.Rows.{char_len}

-- UTF8-octets = *( UTF8-char ): character after character up to the end; the number bounds how many
unfoldable pub goes_on : ℕ → List ℕ → Bool
goes_on zero [] = true
goes_on zero (a ∷ r) = false
goes_on (suc f) [] = true
goes_on (suc f) (a ∷ r) = ltb 0 (char_len (a ∷ r)) && goes_on f (drop (char_len (a ∷ r)) (a ∷ r))

-- "a well-formed UTF-8 word (RFC 3629: no surrogates, no overlong forms, top U+10FFFF)"
unfoldable pub well_formed : List ℕ → Bool
well_formed w = goes_on (length w) w

-- the length of the unit at the head: of a character, where it goes by characters (true) and one stands there, else 1
unfoldable pub unit_len : Bool → List ℕ → ℕ
unit_len chars w = cond (chars && ltb 0 (char_len w)) (char_len w) 1

-- unit after unit; the number bounds how many
unfoldable pub units_in : Bool → ℕ → List ℕ → List (List ℕ)
units_in chars zero w = []
units_in chars (suc f) [] = []
units_in chars (suc f) (a ∷ r) = take (unit_len chars (a ∷ r)) (a ∷ r) ∷ units_in chars f (drop (unit_len chars (a ∷ r)) (a ∷ r))

-- the units, by characters (true) or by bytes (false)
unfoldable pub units_by : Bool → List ℕ → List (List ℕ)
units_by chars w = units_in chars (length w) w

-- its characters if it is well formed, else its bytes as a whole
unfoldable pub cut : List ℕ → List (List ℕ)
cut w = units_by (well_formed w) w

-- the units under the seeding Chars (true) or Bytes (false)
unfoldable pub seeded : Bool → List ℕ → List (List ℕ)
seeded chars w = units_by (chars && well_formed w) w

-- "each byte is a unit"
unfoldable pub singles : List ℕ → List (List ℕ)
singles w = map (λ a. a ∷ []) w

-- the units put together again
unfoldable pub together : List (List ℕ) → List ℕ
together us = flatten us

-- RFC 3629, section 3, of a text given by its character numbers: the octets of each
unfoldable pub spelled : List ℕ → List (List ℕ)
spelled ns = map encode ns

-- every number is one that section 3 encodes
unfoldable pub Scalars : List ℕ → Type 0
Scalars [] = Unit {0}
Scalars (n ∷ ns) = Scalar n × Scalars ns

-- every unit has 1 to 4 bytes
unfoldable pub Short : List (List ℕ) → Type 0
Short [] = Unit {0}
Short (u ∷ us) = (0 < length u) × (length u ≤ 4) × Short us
