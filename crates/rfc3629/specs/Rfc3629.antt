-- RFC 3629 by itself, to be read beside it: section 3 (the octets of a character number) and section 4 (the syntax). An octet is a number.
use Rattle.std.specs.Prelude.{cond, List, [], ◌∷◌, ◌++◌, ◌⊎◌, ℕ, ◌+◌, ◌-◌, ◌*◌, ◌/◌, ◌%◌, ◌≤◌, ◌<◌, leb}

-- Section 3: "characters from the U+0000..U+10FFFF range", and it "prohibits encoding character numbers between U+D800 and U+DFFF".
abbrev pub Scalar : ℕ → Type 0
Scalar n = (n < 0xD800) ⊎ ((0xDFFF < n) × (n ≤ 0x10FFFF))

-- Section 3's table: the number of octets by the first column, their high-order bits by the second, and the bits marked x filled
-- from the number's, the lowest-order ones in the last octet.
--     0000 0000-0000 007F | 0xxxxxxx
--     0000 0080-0000 07FF | 110xxxxx 10xxxxxx
--     0000 0800-0000 FFFF | 1110xxxx 10xxxxxx 10xxxxxx
--     0001 0000-0010 FFFF | 11110xxx 10xxxxxx 10xxxxxx 10xxxxxx
unfoldable pub encode : ℕ → List ℕ
encode n =
    cond (leb n 0x7F) (n ∷ [])
    (cond (leb n 0x7FF) ((0b110_00000 + n / 64) ∷ (0b10_000000 + n % 64) ∷ [])
    (cond (leb n 0xFFFF) ((0b1110_0000 + n / 64 / 64) ∷ (0b10_000000 + n / 64 % 64) ∷ (0b10_000000 + n % 64) ∷ [])
    ((0b11110_000 + n / 64 / 64 / 64) ∷ (0b10_000000 + n / 64 / 64 % 64) ∷ (0b10_000000 + n / 64 % 64) ∷ (0b10_000000 + n % 64) ∷ [])))

-- Section 3, "Decoding a UTF-8 character": the bits marked x back into the number, by the number of octets. What it gives for other
-- lists than characters means nothing.
unfoldable pub decode : List ℕ → ℕ
decode [] = 0
decode (a ∷ []) = a
decode (a ∷ b ∷ []) = (a - 0b110_00000) * 64 + (b - 0b10_000000)
decode (a ∷ b ∷ c ∷ []) = ((a - 0b1110_0000) * 64 + (b - 0b10_000000)) * 64 + (c - 0b10_000000)
decode (a ∷ b ∷ c ∷ d ∷ r) = (((a - 0b11110_000) * 64 + (b - 0b10_000000)) * 64 + (c - 0b10_000000)) * 64 + (d - 0b10_000000)

-- Section 4, %xLOW-HIGH: an octet of a range.
abbrev pub Oct : ℕ → ℕ → ℕ → Type 0
Oct low high a = (low ≤ a) × (a ≤ high)

-- UTF8-tail = %x80-BF
abbrev pub Tail : ℕ → Type 0
Tail a = Oct 0x80 0xBF a

-- UTF8-char = UTF8-1 / UTF8-2 / UTF8-3 / UTF8-4, a constructor for each alternative:
--     UTF8-1 = %x00-7F
--     UTF8-2 = %xC2-DF UTF8-tail
--     UTF8-3 = %xE0 %xA0-BF UTF8-tail / %xE1-EC 2( UTF8-tail ) / %xED %x80-9F UTF8-tail / %xEE-EF 2( UTF8-tail )
--     UTF8-4 = %xF0 %x90-BF 2( UTF8-tail ) / %xF1-F3 3( UTF8-tail ) / %xF4 %x80-8F 2( UTF8-tail )
pub data Char : List ℕ → Type 0 where
  utf8_1 : {a : ℕ} → Oct 0x00 0x7F a → Char (a ∷ [])
  utf8_2 : {a b : ℕ} → Oct 0xC2 0xDF a → Tail b → Char (a ∷ b ∷ [])
  utf8_3_E0 : {a b c : ℕ} → Oct 0xE0 0xE0 a → Oct 0xA0 0xBF b → Tail c → Char (a ∷ b ∷ c ∷ [])
  utf8_3_E1 : {a b c : ℕ} → Oct 0xE1 0xEC a → Tail b → Tail c → Char (a ∷ b ∷ c ∷ [])
  utf8_3_ED : {a b c : ℕ} → Oct 0xED 0xED a → Oct 0x80 0x9F b → Tail c → Char (a ∷ b ∷ c ∷ [])
  utf8_3_EE : {a b c : ℕ} → Oct 0xEE 0xEF a → Tail b → Tail c → Char (a ∷ b ∷ c ∷ [])
  utf8_4_F0 : {a b c d : ℕ} → Oct 0xF0 0xF0 a → Oct 0x90 0xBF b → Tail c → Tail d → Char (a ∷ b ∷ c ∷ d ∷ [])
  utf8_4_F1 : {a b c d : ℕ} → Oct 0xF1 0xF3 a → Tail b → Tail c → Tail d → Char (a ∷ b ∷ c ∷ d ∷ [])
  utf8_4_F4 : {a b c d : ℕ} → Oct 0xF4 0xF4 a → Oct 0x80 0x8F b → Tail c → Tail d → Char (a ∷ b ∷ c ∷ d ∷ [])

-- UTF8-octets = *( UTF8-char )
pub data Octets : List ℕ → Type 0 where
  utf8_end : Octets []
  utf8_then : {c r : List ℕ} → Char c → Octets r → Octets (c ++ r)
