-- Sections 3 and 4 of RFC 3629 say the same: the syntax has exactly the encodings of character numbers (`char_iff`), and an encoding
-- tells its number (`decode-encode`, `one_value`).
use mathlib.Core.Path.{◌≡◌, refl, sym, ap, ◌∙◌}
use mathlib.Core.List.{List, [], ◌∷◌}
use mathlib.Core.Logic.{inl, inr, ◌↔◌}
use Prim.Native.Nat.{ℕ, ◌+◌, ◌/◌, ◌%◌, ◌≤◌, ◌<◌}
use native.Mathlib.Omega.{arith}
use native.Mathlib.Decide.{dec_le}
use borrow.Author.Tests.{le-leb, lt-leb}
use Rattle.rfc3629.specs.Rfc3629.{Scalar, encode, decode, Oct, Tail, Char, utf8_1, utf8_2, utf8_3_E0, utf8_3_E1, utf8_3_ED, utf8_3_EE, utf8_4_F0, utf8_4_F1, utf8_4_F4}

-- the rows of section 3's table
module _ (n : ℕ) where
  pub encode_1 : n ≤ 0x7F → encode n ≡ n ∷ []
  unfolding encode
  encode_1 h = simp (le-leb n 0x7F h)

  pub encode_2 : 0x7F < n → n ≤ 0x7FF → encode n ≡ (0xC0 + n / 64) ∷ (0x80 + n % 64) ∷ []
  unfolding encode
  encode_2 g h = simp (lt-leb n 0x7F g, le-leb n 0x7FF h)

  pub encode_3 : 0x7FF < n → n ≤ 0xFFFF → encode n ≡ (0xE0 + n / 64 / 64) ∷ (0x80 + n / 64 % 64) ∷ (0x80 + n % 64) ∷ []
  unfolding encode
  encode_3 g h = simp (lt-leb n 0x7F (omega arith), lt-leb n 0x7FF g, le-leb n 0xFFFF h)

  pub encode_4 : 0xFFFF < n → encode n ≡ (0xF0 + n / 64 / 64 / 64) ∷ (0x80 + n / 64 / 64 % 64) ∷ (0x80 + n / 64 % 64) ∷ (0x80 + n % 64) ∷ []
  unfolding encode
  encode_4 g = simp (lt-leb n 0x7F (omega arith), lt-leb n 0x7FF (omega arith), lt-leb n 0xFFFF g)

data Row (n : ℕ) : Type 0 where
  one : n ≤ 0x7F → Row n
  two : 0x7F < n → n ≤ 0x7FF → Row n
  three : 0x7FF < n → n ≤ 0xFFFF → Row n
  four : 0xFFFF < n → Row n

row : (n : ℕ) → Row n
row n =
    elim (dec_le n 0x7F) [
      | yes h ↦ one h
      | no f ↦ elim (dec_le n 0x7FF) [
        | yes h ↦ two (omega arith) h
        | no g ↦ elim (dec_le n 0xFFFF) [
          | yes h ↦ three (omega arith) h
          | no k ↦ four (omega arith)
        ]
      ]
    ]

-- an encoding tells its number, whatever number that is
pub decode-encode : (n : ℕ) → decode (encode n) ≡ n
unfolding decode
decode-encode n = go (row n)
  where
    go : Row n → decode (encode n) ≡ n
    go (one h) = rw (encode_1 n h)
    go (two g h) = rw (encode_2 n g h) (omega arith)
    go (three g h) = rw (encode_3 n g h) (omega arith)
    go (four g) = rw (encode_4 n g) (omega arith)

pub encode_injective : (n m : ℕ) → encode n ≡ encode m → n ≡ m
encode_injective n m e = sym (decode-encode n) ∙ ap decode e ∙ decode-encode m

-- an encoding keeps to the syntax
three_char : (n a b c : ℕ) → a ≡ 0xE0 + n / 64 / 64 → b ≡ 0x80 + n / 64 % 64 → c ≡ 0x80 + n % 64
    → Scalar n → 0x7FF < n → n ≤ 0xFFFF → Char (a ∷ b ∷ c ∷ [])
three_char n a b c x y z s g h =
    elim (dec_le n 0xFFF) [
      | yes p ↦ utf8_3_E0 {a = a} {b = b} {c = c} (omega arith) (omega arith) (omega arith)
      | no p ↦ elim (dec_le n 0xCFFF) [
        | yes q ↦ utf8_3_E1 {a = a} {b = b} {c = c} (omega arith) (omega arith) (omega arith)
        | no q ↦ elim s [
          | inl l ↦ utf8_3_ED {a = a} {b = b} {c = c} (omega arith) (omega arith) (omega arith)
          | inr k ↦ utf8_3_EE {a = a} {b = b} {c = c} (omega arith) (omega arith) (omega arith)
        ]
      ]
    ]

four_char : (n a b c d : ℕ) → a ≡ 0xF0 + n / 64 / 64 / 64 → b ≡ 0x80 + n / 64 / 64 % 64 → c ≡ 0x80 + n / 64 % 64 → d ≡ 0x80 + n % 64
    → 0xFFFF < n → n ≤ 0x10FFFF → Char (a ∷ b ∷ c ∷ d ∷ [])
four_char n a b c d x y z w g h =
    elim (dec_le n 0x3FFFF) [
      | yes p ↦ utf8_4_F0 {a = a} {b = b} {c = c} {d = d} (omega arith) (omega arith) (omega arith) (omega arith)
      | no p ↦ elim (dec_le n 0xFFFFF) [
        | yes q ↦ utf8_4_F1 {a = a} {b = b} {c = c} {d = d} (omega arith) (omega arith) (omega arith) (omega arith)
        | no q ↦ utf8_4_F4 {a = a} {b = b} {c = c} {d = d} (omega arith) (omega arith) (omega arith) (omega arith)
      ]
    ]

top : {n : ℕ} → Scalar n → n ≤ 0x10FFFF
top (inl l) = omega arith
top (inr k) = omega arith

pub encode_char : (n : ℕ) → Scalar n → Char (encode n)
encode_char n s = go (row n)
  where
    go : Row n → Char (encode n)
    go (one h) = rw (encode_1 n h) (utf8_1 {a = n} (omega arith))
    go (two g h) = rw (encode_2 n g h) (utf8_2 {a = 0xC0 + n / 64} {b = 0x80 + n % 64} (omega arith) (omega arith))
    go (three g h) = rw (encode_3 n g h) (three_char n _ _ _ refl refl refl s g h)
    go (four g) = rw (encode_4 n g) (four_char n _ _ _ _ refl refl refl refl g (top s))

-- and what keeps to the syntax is an encoding
pub decode_scalar : {c : List ℕ} → Char c → Scalar (decode c)
unfolding decode
decode_scalar (utf8_1 p) = inl (omega arith)
decode_scalar (utf8_2 p q) = inl (omega arith)
decode_scalar (utf8_3_E0 p q r) = inl (omega arith)
decode_scalar (utf8_3_E1 p q r) = inl (omega arith)
decode_scalar (utf8_3_ED p q r) = inl (omega arith)
decode_scalar (utf8_3_EE p q r) = inr (omega arith)
decode_scalar (utf8_4_F0 p q r s) = inr (omega arith)
decode_scalar (utf8_4_F1 p q r s) = inr (omega arith)
decode_scalar (utf8_4_F4 p q r s) = inr (omega arith)

back_2 : (a b n : ℕ) → n ≡ decode (a ∷ b ∷ []) → Oct 0xC2 0xDF a → Tail b → encode n ≡ a ∷ b ∷ []
unfolding decode
back_2 a b n e p q =
    let x : 0xC0 + n / 64 ≡ a = omega arith in
    let y : 0x80 + n % 64 ≡ b = omega arith in
    encode_2 n (omega arith) (omega arith) ∙ rw (x, y)

back_3 : (a b c n : ℕ) → n ≡ decode (a ∷ b ∷ c ∷ []) → Oct 0xE0 0xEF a → Tail b → Tail c → 0x7FF < n → encode n ≡ a ∷ b ∷ c ∷ []
unfolding decode
back_3 a b c n e p q r g =
    let x : 0xE0 + n / 64 / 64 ≡ a = omega arith in
    let y : 0x80 + n / 64 % 64 ≡ b = omega arith in
    let z : 0x80 + n % 64 ≡ c = omega arith in
    encode_3 n g (omega arith) ∙ rw (x, y, z)

back_4 : (a b c d n : ℕ) → n ≡ decode (a ∷ b ∷ c ∷ d ∷ []) → Oct 0xF0 0xF7 a → Tail b → Tail c → Tail d → 0xFFFF < n → encode n ≡ a ∷ b ∷ c ∷ d ∷ []
unfolding decode
back_4 a b c d n e p q r s g =
    let x : 0xF0 + n / 64 / 64 / 64 ≡ a = omega arith in
    let y : 0x80 + n / 64 / 64 % 64 ≡ b = omega arith in
    let z : 0x80 + n / 64 % 64 ≡ c = omega arith in
    let w : 0x80 + n % 64 ≡ d = omega arith in
    encode_4 n g ∙ rw (x, y, z, w)

pub encode-decode : {c : List ℕ} → Char c → encode (decode c) ≡ c
unfolding decode
encode-decode (utf8_1 {a} p) = encode_1 a p.1
encode-decode (utf8_2 {a} {b} p q) = back_2 a b _ refl (omega arith) q
encode-decode (utf8_3_E0 {a} {b} {c} p q r) = back_3 a b c _ refl (omega arith) (omega arith) r (omega arith)
encode-decode (utf8_3_E1 {a} {b} {c} p q r) = back_3 a b c _ refl (omega arith) q r (omega arith)
encode-decode (utf8_3_ED {a} {b} {c} p q r) = back_3 a b c _ refl (omega arith) (omega arith) r (omega arith)
encode-decode (utf8_3_EE {a} {b} {c} p q r) = back_3 a b c _ refl (omega arith) q r (omega arith)
encode-decode (utf8_4_F0 {a} {b} {c} {d} p q r s) = back_4 a b c d _ refl (omega arith) (omega arith) r s (omega arith)
encode-decode (utf8_4_F1 {a} {b} {c} {d} p q r s) = back_4 a b c d _ refl (omega arith) q r s (omega arith)
encode-decode (utf8_4_F4 {a} {b} {c} {d} p q r s) = back_4 a b c d _ refl (omega arith) (omega arith) r s (omega arith)

pub char_iff : (c : List ℕ) → Char c ↔ ((n : ℕ) × Scalar n × (encode n ≡ c))
char_iff c = (λ p. (decode c, decode_scalar p, encode-decode p), λ e. rw e.2 at (encode_char e.0 e.1))

-- and of one number only
pub one_value : {c : List ℕ} → Char c → (n : ℕ) × Scalar n × (encode n ≡ c) × ((m : ℕ) → encode m ≡ c → m ≡ n)
one_value {c} p = (decode c, decode_scalar p, encode-decode p, λ m e. sym (decode-encode m) ∙ ap decode e)
