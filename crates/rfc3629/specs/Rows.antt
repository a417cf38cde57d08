-- Section 4 of RFC 3629 as a test that computes: the length of the character at the head of a list of octets, 0 where none stands there.
use Rattle.std.specs.Prelude.{Bool, true, false, cond, ◌&&◌, List, [], ◌∷◌, ℕ, zero, suc, ◌+◌, leb, drop}

-- %xLOW-HIGH: whether an octet lies in the range
unfoldable pub within : ℕ → ℕ → ℕ → Bool
within low high a = leb low a && leb a high

-- whether the list begins with an octet of the range
unfoldable pub heads : ℕ → ℕ → List ℕ → Bool
heads low high [] = false
heads low high (a ∷ r) = within low high a

-- n( UTF8-tail ): whether the list begins with n tails, UTF8-tail = %x80-BF
unfoldable pub tails : ℕ → List ℕ → Bool
tails zero r = true
tails (suc n) r = heads 0x80 0xBF r && tails n (drop 1 r)

-- what follows the first octet: a second one of the range and n tails make a character of 2 + n octets
unfoldable pub follow : ℕ → ℕ → ℕ → List ℕ → ℕ
follow low high n r = cond (heads low high r && tails n (drop 1 r)) (2 + n) 0

-- UTF8-1, UTF8-2, UTF8-3 and UTF8-4, alternative by alternative: the range of the first octet, then what follows it
unfoldable pub by_lead : ℕ → List ℕ → ℕ
by_lead a r =
    cond (within 0x00 0x7F a) 1
    (cond (within 0xC2 0xDF a) (follow 0x80 0xBF 0 r)
    (cond (within 0xE0 0xE0 a) (follow 0xA0 0xBF 1 r)
    (cond (within 0xE1 0xEC a) (follow 0x80 0xBF 1 r)
    (cond (within 0xED 0xED a) (follow 0x80 0x9F 1 r)
    (cond (within 0xEE 0xEF a) (follow 0x80 0xBF 1 r)
    (cond (within 0xF0 0xF0 a) (follow 0x90 0xBF 2 r)
    (cond (within 0xF1 0xF3 a) (follow 0x80 0xBF 2 r)
    (cond (within 0xF4 0xF4 a) (follow 0x80 0x8F 2 r)
    0))))))))

-- UTF8-char at the head
unfoldable pub char_len : List ℕ → ℕ
char_len [] = 0
char_len (a ∷ r) = by_lead a r
