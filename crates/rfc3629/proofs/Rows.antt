-- `char_len` is fixed by the syntax: where a character stands at the head it is the character's length (`len_char`), where it is not 0 a
-- character of that length stands there (`char_len_lem`), and where it is 0 none does (`len_none`).
use mathlib.Core.Path.{◌≡◌, refl, ap, ◌∙◌}
use mathlib.Core.Bool.{Bool, true, false, cond, ◌&&◌, and-eq-true_iff, and-false, false≢true}
use mathlib.Core.List.{List, [], ◌∷◌, ◌++◌}
use mathlib.Core.Logic.{◌⊎◌, inl, inr, ⊎_elim}
use Prim.Native.Nat.{ℕ, suc, ◌+◌, ◌≤◌, ◌<◌}
use native.Mathlib.Omega.{arith}
use lib.Dec.{leb, ltb}
use lib.ListN.{length, take, drop, length-take}
use borrow.Author.Tests.{leb-true, ltb-true, le-leb, lt-leb}
use Rattle.rfc3629.specs.Rfc3629.{Oct, Tail, Char, utf8_1, utf8_2, utf8_3_E0, utf8_3_E1, utf8_3_ED, utf8_3_EE, utf8_4_F0, utf8_4_F1, utf8_4_F4}
use Rattle.rfc3629.specs.Rows.{within, heads, tails, follow, by_lead, char_len}

-- the test of a range
module _ (low high a : ℕ) where
  pub inside : low ≤ a → a ≤ high → within low high a ≡ true
  unfolding within
  inside g h = simp (le-leb low a g, le-leb a high h)

  pub under : a < low → within low high a ≡ false
  unfolding within
  under h = simp (lt-leb low a h)

  pub past : high < a → within low high a ≡ false
  unfolding within
  past h = simp (lt-leb a high h, and-false)

  pub within_oct : within low high a ≡ true → Oct low high a
  unfolding within
  within_oct e = let p = (and-eq-true_iff (leb low a) (leb a high)).0 e in (leb-true low a p.0, leb-true a high p.1)

-- ranges of numerals that a is past, or under; `simp` computes the first premise
ends_below : (g low high a : ℕ) → ltb high g ≡ true → g ≤ a → within low high a ≡ false
ends_below g low high a t h = let l = ltb-true high g t in past low high a (omega arith)

starts_above : (g low high a : ℕ) → ltb g low ≡ true → a ≤ g → within low high a ≡ false
starts_above g low high a t h = let l = ltb-true g low t in under low high a (omega arith)

-- the rows: by the first octet, what decides
module _ (a : ℕ) (r : List ℕ) where
  pub lead_1 : a ≤ 0x7F → by_lead a r ≡ 1
  unfolding by_lead
  lead_1 h = simp (inside 0x00 0x7F a (omega arith) h)

  pub lead_2 : 0xC2 ≤ a → a ≤ 0xDF → by_lead a r ≡ follow 0x80 0xBF 0 r
  unfolding by_lead
  lead_2 g h = simp (ends_below 0xC2, inside)

  pub lead_E0 : 0xE0 ≤ a → a ≤ 0xE0 → by_lead a r ≡ follow 0xA0 0xBF 1 r
  unfolding by_lead
  lead_E0 g h = simp (ends_below 0xE0, inside)

  pub lead_E1 : 0xE1 ≤ a → a ≤ 0xEC → by_lead a r ≡ follow 0x80 0xBF 1 r
  unfolding by_lead
  lead_E1 g h = simp (ends_below 0xE1, inside)

  pub lead_ED : 0xED ≤ a → a ≤ 0xED → by_lead a r ≡ follow 0x80 0x9F 1 r
  unfolding by_lead
  lead_ED g h = simp (ends_below 0xED, inside)

  pub lead_EE : 0xEE ≤ a → a ≤ 0xEF → by_lead a r ≡ follow 0x80 0xBF 1 r
  unfolding by_lead
  lead_EE g h = simp (ends_below 0xEE, inside)

  pub lead_F0 : 0xF0 ≤ a → a ≤ 0xF0 → by_lead a r ≡ follow 0x90 0xBF 2 r
  unfolding by_lead
  lead_F0 g h = simp (ends_below 0xF0, inside)

  pub lead_F1 : 0xF1 ≤ a → a ≤ 0xF3 → by_lead a r ≡ follow 0x80 0xBF 2 r
  unfolding by_lead
  lead_F1 g h = simp (ends_below 0xF1, inside)

  pub lead_F4 : 0xF4 ≤ a → a ≤ 0xF4 → by_lead a r ≡ follow 0x80 0x8F 2 r
  unfolding by_lead
  lead_F4 g h = simp (ends_below 0xF4, inside)

  -- no row has such a first octet
  pub lead_low : 0x80 ≤ a → a ≤ 0xC1 → by_lead a r ≡ 0
  unfolding by_lead
  lead_low g h = simp (ends_below 0x80, starts_above 0xC1)

  pub lead_high : 0xF5 ≤ a → by_lead a r ≡ 0
  unfolding by_lead
  lead_high g = simp (ends_below 0xF5)

-- what follows the first octet
module _ (low high b : ℕ) (o : Oct low high b) where
  follow_0 : (r : List ℕ) → follow low high 0 (b ∷ r) ≡ 2
  unfolding follow heads tails
  follow_0 r = simp (inside low high b o.0 o.1)

  follow_1 : (c : ℕ) (r : List ℕ) → Tail c → follow low high 1 (b ∷ c ∷ r) ≡ 3
  unfolding follow heads tails
  follow_1 c r p = simp (inside low high b o.0 o.1, inside 0x80 0xBF c p.0 p.1)

  follow_2 : (c d : ℕ) (r : List ℕ) → Tail c → Tail d → follow low high 2 (b ∷ c ∷ d ∷ r) ≡ 4
  unfolding follow heads tails
  follow_2 c d r p q = simp (inside low high b o.0 o.1, inside 0x80 0xBF c p.0 p.1, inside 0x80 0xBF d q.0 q.1)

-- a character at the head is found
pub len_char : {c : List ℕ} → Char c → (r : List ℕ) → char_len (c ++ r) ≡ length c
unfolding char_len
len_char (utf8_1 {a} p) r = lead_1 a r p.1
len_char (utf8_2 {a} {b} p q) r = lead_2 a _ p.0 p.1 ∙ follow_0 0x80 0xBF b q r
len_char (utf8_3_E0 {a} {b} {c} p q s) r = lead_E0 a _ p.0 p.1 ∙ follow_1 0xA0 0xBF b q c r s
len_char (utf8_3_E1 {a} {b} {c} p q s) r = lead_E1 a _ p.0 p.1 ∙ follow_1 0x80 0xBF b q c r s
len_char (utf8_3_ED {a} {b} {c} p q s) r = lead_ED a _ p.0 p.1 ∙ follow_1 0x80 0x9F b q c r s
len_char (utf8_3_EE {a} {b} {c} p q s) r = lead_EE a _ p.0 p.1 ∙ follow_1 0x80 0xBF b q c r s
len_char (utf8_4_F0 {a} {b} {c} {d} p q s t) r = lead_F0 a _ p.0 p.1 ∙ follow_2 0x90 0xBF b q c d r s t
len_char (utf8_4_F1 {a} {b} {c} {d} p q s t) r = lead_F1 a _ p.0 p.1 ∙ follow_2 0x80 0xBF b q c d r s t
len_char (utf8_4_F4 {a} {b} {c} {d} p q s t) r = lead_F4 a _ p.0 p.1 ∙ follow_2 0x80 0x8F b q c d r s t

-- and what is found is a character
-- of a length k at the head of w
abbrev Found : List ℕ → ℕ → Type 0
Found w k = Char (take k w) × (length (take k w) ≡ k)

abbrev Len : List ℕ → ℕ → Type 0
Len w k = (k ≡ 0) ⊎ Found w k

-- what holds of both values, each where its test is so, holds of the `cond`
pub cond_elim : {A : Type 0} (P : A → Type 0) (t : Bool) {x y : A} → (t ≡ true → P x) → (t ≡ false → P y) → P (cond t x y)
cond_elim P true f g = f refl
cond_elim P false f g = g refl

-- an octet of the range stands at the head, and n tails after it
step : (low high n : ℕ) (r : List ℕ) → (heads low high r && tails n (drop 1 r)) ≡ true
    → (b : ℕ) × (s : List ℕ) × Oct low high b × (b ∷ s ≡ r) × (tails n s ≡ true)
unfolding heads
step low high n [] e = absurd (false≢true e)
step low high n (b ∷ s) e = let p = (and-eq-true_iff (within low high b) (tails n s)).0 e in (b, s, within_oct low high b p.0, refl, p.1)

tail_step : (n : ℕ) (r : List ℕ) → tails (suc n) r ≡ true → (b : ℕ) × (s : List ℕ) × Tail b × (b ∷ s ≡ r) × (tails n s ≡ true)
unfolding tails
tail_step n r e = step 0x80 0xBF n r e

module _ (a low high : ℕ) (r : List ℕ) where
  follow_len : (n : ℕ) → ((b : ℕ) (s : List ℕ) → Oct low high b → tails n s ≡ true → Found (a ∷ b ∷ s) (2 + n)) → Len (a ∷ r) (follow low high n r)
  unfolding follow
  follow_len n f =
      cond_elim (Len (a ∷ r)) (heads low high r && tails n (drop 1 r))
      (λ e. let x = step low high n r e in inr (rw (← x.3) (f x.0 x.1 x.2 x.4))) (λ e. inl refl)

  two_len : ((b : ℕ) → Oct low high b → Char (a ∷ b ∷ [])) → Len (a ∷ r) (follow low high 0 r)
  two_len mk = follow_len 0 (λ b s o t. (mk b o, refl))

  three_len : ((b c : ℕ) → Oct low high b → Tail c → Char (a ∷ b ∷ c ∷ [])) → Len (a ∷ r) (follow low high 1 r)
  three_len mk = follow_len 1 (λ b s o t. let y = tail_step 0 s t in rw (← y.3) (mk b y.0 o y.2, refl))

  four_len : ((b c d : ℕ) → Oct low high b → Tail c → Tail d → Char (a ∷ b ∷ c ∷ d ∷ [])) → Len (a ∷ r) (follow low high 2 r)
  four_len mk =
      follow_len 2
      (λ b s o t. let y = tail_step 1 s t in let z = tail_step 0 y.1 y.4 in rw (← y.3, ← z.3) (mk b y.0 z.0 o y.2 z.2, refl))

len_is : (w : List ℕ) → Len w (char_len w)
unfolding char_len by_lead
len_is [] = inl refl
len_is (a ∷ r) =
    row 0x00 0x7F (λ o. inr (utf8_1 o, refl))
    (row 0xC2 0xDF (λ o. two_len a 0x80 0xBF r (λ b p. utf8_2 o p))
    (row 0xE0 0xE0 (λ o. three_len a 0xA0 0xBF r (λ b c p q. utf8_3_E0 o p q))
    (row 0xE1 0xEC (λ o. three_len a 0x80 0xBF r (λ b c p q. utf8_3_E1 o p q))
    (row 0xED 0xED (λ o. three_len a 0x80 0x9F r (λ b c p q. utf8_3_ED o p q))
    (row 0xEE 0xEF (λ o. three_len a 0x80 0xBF r (λ b c p q. utf8_3_EE o p q))
    (row 0xF0 0xF0 (λ o. four_len a 0x90 0xBF r (λ b c d p q s. utf8_4_F0 o p q s))
    (row 0xF1 0xF3 (λ o. four_len a 0x80 0xBF r (λ b c d p q s. utf8_4_F1 o p q s))
    (row 0xF4 0xF4 (λ o. four_len a 0x80 0x8F r (λ b c d p q s. utf8_4_F4 o p q s))
    (inl refl)))))))))
  where
    row : (low high : ℕ) {x y : ℕ} → (Oct low high a → Len (a ∷ r) x) → Len (a ∷ r) y → Len (a ∷ r) (cond (within low high a) x y)
    row low high f g = cond_elim (Len (a ∷ r)) (within low high a) (λ e. f (within_oct low high a e)) (λ e. g)

pub char_short : {c : List ℕ} → Char c → (0 < length c) × (length c ≤ 4)
char_short (utf8_1 p) = omega arith
char_short (utf8_2 p q) = omega arith
char_short (utf8_3_E0 p q r) = omega arith
char_short (utf8_3_E1 p q r) = omega arith
char_short (utf8_3_ED p q r) = omega arith
char_short (utf8_3_EE p q r) = omega arith
char_short (utf8_4_F0 p q r s) = omega arith
char_short (utf8_4_F1 p q r s) = omega arith
char_short (utf8_4_F4 p q r s) = omega arith

pub char_len_lem : (w : List ℕ) → 0 < char_len w → Char (take (char_len w) w)
char_len_lem w h = ⊎_elim (λ e. absurd (omega arith)) (λ f. f.0) (len_is w)

pub len_bounds : (w : List ℕ) → (char_len w ≤ length w) × (char_len w ≤ 4)
len_bounds w = ⊎_elim (λ e. omega arith) (λ f. let s = char_short f.0 in omega (arith, length-take (char_len w) w)) (len_is w)

pub len_none : (w : List ℕ) → char_len w ≡ 0 → (c r : List ℕ) → Char c → c ++ r ≡ w → ⊥
len_none w z c r p e = let l = len_char p r in let s = char_short p in omega (arith, ap char_len e)
