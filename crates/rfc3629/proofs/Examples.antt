-- The RFC's examples and its bounds, and words that are not well formed: one table, with one test of all its rows.
use mathlib.Core.Path.{◌≡◌, refl}
use mathlib.Core.Bool.{Bool, true, false}
use mathlib.Core.List.{List, [], ◌∷◌, map, flatten}
use Prim.Native.Nat.{ℕ}
use Rattle.rfc3629.specs.Rfc3629.{encode}
use Rattle.rfc3629.specs.Rows.{within, heads, tails, follow, by_lead, char_len}
use Rattle.rfc3629.specs.Cut.{goes_on, well_formed, unit_len, units_in, units_by, cut, singles, together, spelled}

-- a row: the numbers of a text and the octets of each, which are its units; or a word that is not well formed, whose units are its bytes
pub data Example : Type 0 where
  text : (numbers : List ℕ) (units : List (List ℕ)) → Example
  broken : (word : List ℕ) → Example

unfoldable pub table : List Example
table =
    -- section 7: "A<NOT IDENTICAL TO><ALPHA>.", "hangugeo", "nihongo", a byte order mark and "stump of tree"
    text (0x0041 ∷ 0x2262 ∷ 0x0391 ∷ 0x002E ∷ []) ((0x41 ∷ []) ∷ (0xE2 ∷ 0x89 ∷ 0xA2 ∷ []) ∷ (0xCE ∷ 0x91 ∷ []) ∷ (0x2E ∷ []) ∷ [])
    ∷ text (0xD55C ∷ 0xAD6D ∷ 0xC5B4 ∷ []) ((0xED ∷ 0x95 ∷ 0x9C ∷ []) ∷ (0xEA ∷ 0xB5 ∷ 0xAD ∷ []) ∷ (0xEC ∷ 0x96 ∷ 0xB4 ∷ []) ∷ [])
    ∷ text (0x65E5 ∷ 0x672C ∷ 0x8A9E ∷ []) ((0xE6 ∷ 0x97 ∷ 0xA5 ∷ []) ∷ (0xE6 ∷ 0x9C ∷ 0xAC ∷ []) ∷ (0xE8 ∷ 0xAA ∷ 0x9E ∷ []) ∷ [])
    ∷ text (0xFEFF ∷ 0x233B4 ∷ []) ((0xEF ∷ 0xBB ∷ 0xBF ∷ []) ∷ (0xF0 ∷ 0xA3 ∷ 0x8E ∷ 0xB4 ∷ []) ∷ [])
    -- no characters; the first and the last of each length
    ∷ text [] []
    ∷ text (0x00 ∷ 0x7F ∷ []) ((0x00 ∷ []) ∷ (0x7F ∷ []) ∷ [])
    ∷ text (0x80 ∷ 0x7FF ∷ []) ((0xC2 ∷ 0x80 ∷ []) ∷ (0xDF ∷ 0xBF ∷ []) ∷ [])
    ∷ text (0x800 ∷ 0xFFFF ∷ []) ((0xE0 ∷ 0xA0 ∷ 0x80 ∷ []) ∷ (0xEF ∷ 0xBF ∷ 0xBF ∷ []) ∷ [])
    ∷ text (0x10000 ∷ 0x10FFFF ∷ []) ((0xF0 ∷ 0x90 ∷ 0x80 ∷ 0x80 ∷ []) ∷ (0xF4 ∷ 0x8F ∷ 0xBF ∷ 0xBF ∷ []) ∷ [])
    -- what would be 110000, and a first octet past F4
    ∷ broken (0xF4 ∷ 0x90 ∷ 0x80 ∷ 0x80 ∷ [])
    ∷ broken (0xF5 ∷ 0x80 ∷ 0x80 ∷ 0x80 ∷ [])
    -- around the surrogates: before, D800, DFFF, after; section 3's pair
    ∷ text (0xD7FF ∷ []) ((0xED ∷ 0x9F ∷ 0xBF ∷ []) ∷ [])
    ∷ broken (0xED ∷ 0xA0 ∷ 0x80 ∷ [])
    ∷ broken (0xED ∷ 0xBF ∷ 0xBF ∷ [])
    ∷ text (0xE000 ∷ []) ((0xEE ∷ 0x80 ∷ 0x80 ∷ []) ∷ [])
    ∷ broken (0xED ∷ 0xA1 ∷ 0x8C ∷ 0xED ∷ 0xBE ∷ 0xB4 ∷ [])
    -- overlong forms: section 3's of 0, of 7F, of 7FF and of FFFF; section 10's of "/../"
    ∷ broken (0xC0 ∷ 0x80 ∷ [])
    ∷ broken (0xC1 ∷ 0xBF ∷ [])
    ∷ broken (0xE0 ∷ 0x9F ∷ 0xBF ∷ [])
    ∷ broken (0xF0 ∷ 0x8F ∷ 0xBF ∷ 0xBF ∷ [])
    ∷ broken (0x2F ∷ 0xC0 ∷ 0xAE ∷ 0x2E ∷ 0x2F ∷ [])
    -- forms cut short, by the end or by another character; a tail alone
    ∷ broken (0xC3 ∷ [])
    ∷ broken (0xE2 ∷ 0x89 ∷ [])
    ∷ broken (0xF0 ∷ 0xA3 ∷ 0x8E ∷ [])
    ∷ broken (0xE2 ∷ 0x89 ∷ 0x41 ∷ [])
    ∷ broken (0xA9 ∷ [])
    -- example 8 of document 01; "é", and "é" spoilt by a byte after it
    ∷ broken (0xFF ∷ 0x61 ∷ [])
    ∷ text (0xE9 ∷ []) ((0xC3 ∷ 0xA9 ∷ []) ∷ [])
    ∷ broken (0xC3 ∷ 0xA9 ∷ 0xFF ∷ [])
    ∷ []

-- of a row: whether the word is well formed, its units, and the octets of the numbers; as computed, and as the row says
abbrev pub Facts : Type 0
Facts = Bool × List (List ℕ) × List (List ℕ)

unfoldable pub computed : Example → Facts
computed (text ns us) = (well_formed (together us), cut (together us), spelled ns)
computed (broken w) = (well_formed w, cut w, [])

unfoldable pub stated : Example → Facts
stated (text ns us) = (true, us, us)
stated (broken w) = (false, singles w, [])

pub examples : map computed table ≡ map stated table
unfolding table computed stated encode well_formed goes_on cut units_by units_in unit_len char_len by_lead follow tails heads within together flatten spelled singles
examples = refl
