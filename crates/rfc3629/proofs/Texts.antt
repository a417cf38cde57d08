-- Texts of characters: no encoding begins another, so a text has one cut into encodings at most (`one_cut`). A word is well formed exactly
-- if it is such a text (`well_iff`, `well_octets`); `cut` gives its encodings then (`spelled-cut`), and else its bytes (`cut_bytes`).
use mathlib.Core.Path.{◌≡◌, refl, sym, ap, ◌∙◌}
use mathlib.Core.Bool.{Bool, true, false, ◌&&◌, and-eq-true_iff, false≢true}
use mathlib.Core.List.{List, [], ◌∷◌, ◌++◌, flatten, append-nil}
use mathlib.Core.Logic.{◌↔◌}
use Prim.Native.Nat.{ℕ, zero, suc, ◌≤◌}
use native.Mathlib.Omega.{arith}
use lib.Dec.{ltb}
use lib.ListN.{length, take, drop, length-append, take-append-drop}
use lib.Seq.{take-append_seam, drop-append_seam, take_at, drop_at}
use borrow.Author.Tests.{ltb-true}
use Rattle.rfc3629.specs.Rfc3629.{Scalar, encode, decode, Char, Octets, utf8_end, utf8_then}
use Rattle.rfc3629.specs.Rows.{char_len}
use Rattle.rfc3629.specs.Cut.{goes_on, well_formed, unit_len, units_by, cut, seeded, singles, together, spelled, Scalars, Short}
use Rattle.rfc3629.proofs.Numbers.{decode_scalar, encode-decode, encode_char, encode_injective}
use Rattle.rfc3629.proofs.Rows.{len_char, char_len_lem, char_short}
use Rattle.rfc3629.proofs.Units.{well_nil, well_next, unit_char, units_nil, units_next, units-joined, units-short, units_few, units_bytes}

-- a character at the head is cut off
module _ {c : List ℕ} (p : Char c) (r : List ℕ) where
  pub well_char : well_formed (c ++ r) ≡ well_formed r
  well_char = well_next (c ++ r) (rw (len_char p r) (char_short p).0) ∙ ap well_formed (rw (len_char p r) (drop-append_seam c r))

  pub units_char : units_by true (c ++ r) ≡ c ∷ units_by true r
  units_char =
      let s = char_short p in
      let k : unit_len true (c ++ r) ≡ length c = unit_char (c ++ r) (rw (len_char p r) s.0) ∙ len_char p r in
      units_next true (c ++ r) (omega (arith, length-append c r)) ∙ rw (k, take-append_seam c r, drop-append_seam c r)

-- no character begins another one
pub char_prefix_free : {c d : List ℕ} → Char c → Char d → (r s : List ℕ) → c ++ r ≡ d ++ s → (c ≡ d) × (r ≡ s)
char_prefix_free {c} {d} p q r s e =
    let l : length d ≡ length c = sym (len_char q s) ∙ ap char_len (sym e) ∙ len_char p r in (
      sym (take-append_seam c r) ∙ ap (take (length c)) e ∙ take_at d s (length c) l,
      sym (drop-append_seam c r) ∙ ap (drop (length c)) e ∙ drop_at d s (length c) l,
    )

pub prefix_free : (n m : ℕ) → Scalar n → Scalar m → (r s : List ℕ) → encode n ++ r ≡ encode m ++ s → (n ≡ m) × (r ≡ s)
prefix_free n m p q r s e =
    let h = char_prefix_free (encode_char n p) (encode_char m q) r s e in (encode_injective n m h.0, h.1)

pub no_prefix : (n m : ℕ) → Scalar n → Scalar m → (r : List ℕ) → encode n ++ r ≡ encode m → r ≡ []
no_prefix n m p q r e = (prefix_free n m p q r [] (e ∙ sym (append-nil (encode m)))).1

-- a text of encodings is well formed, and cut into them
pub spelled_well : (ns : List ℕ) → Scalars ns → well_formed (together (spelled ns)) ≡ true
unfolding together flatten spelled Scalars
spelled_well [] s = well_nil
spelled_well (n ∷ ns) s = well_char (encode_char n s.0) _ ∙ spelled_well ns s.1

spelled-units : (ns : List ℕ) → Scalars ns → units_by true (together (spelled ns)) ≡ spelled ns
unfolding together flatten spelled Scalars
spelled-units [] s = units_nil true
spelled-units (n ∷ ns) s = units_char (encode_char n s.0) _ ∙ ap (λ us. encode n ∷ us) (spelled-units ns s.1)

pub spelled-cut : (ns : List ℕ) → Scalars ns → cut (together (spelled ns)) ≡ spelled ns
unfolding cut
spelled-cut ns s = rw (spelled_well ns s) (spelled-units ns s)

-- so it has one cut into encodings only
spelled_injective : (ns ms : List ℕ) → spelled ns ≡ spelled ms → ns ≡ ms
unfolding spelled
spelled_injective [] [] e = refl
spelled_injective [] (m ∷ ms) e = cc
spelled_injective (n ∷ ns) [] e = cc
spelled_injective (n ∷ ns) (m ∷ ms) e =
    let x = encode_injective n m (cc) in
    let y = spelled_injective ns ms (cc) in
    cc

pub one_cut : (ns ms : List ℕ) → Scalars ns → Scalars ms → together (spelled ns) ≡ together (spelled ms) → ns ≡ ms
one_cut ns ms s t e = spelled_injective ns ms (sym (spelled-cut ns s) ∙ ap cut e ∙ spelled-cut ms t)

-- a well-formed word is characters after each other, and these are encodings
goes_on_octets : (f : ℕ) (w : List ℕ) → goes_on f w ≡ true → Octets w
unfolding goes_on
goes_on_octets zero [] e = utf8_end
goes_on_octets zero (a ∷ r) e = absurd (false≢true e)
goes_on_octets (suc f) [] e = utf8_end
goes_on_octets (suc f) (a ∷ r) e =
    let k = char_len (a ∷ r) in
    let b = (and-eq-true_iff (ltb 0 k) (goes_on f (drop k (a ∷ r)))).0 e in
    rw take-append-drop at (utf8_then (char_len_lem (a ∷ r) (ltb-true 0 k b.0)) (goes_on_octets f (drop k (a ∷ r)) b.1))

octets_well : {w : List ℕ} → Octets w → well_formed w ≡ true
octets_well utf8_end = well_nil
octets_well (utf8_then {r = r} p o) = well_char p r ∙ octets_well o

octets_spelled : {w : List ℕ} → Octets w → (ns : List ℕ) × Scalars ns × (together (spelled ns) ≡ w)
unfolding together flatten spelled Scalars
octets_spelled utf8_end = ([], tt, refl)
octets_spelled (utf8_then {c = c} p o) =
    let t = octets_spelled o in
    (decode c ∷ t.0, (decode_scalar p, t.1), rw (encode-decode p, t.2))

pub well_octets : (w : List ℕ) → (well_formed w ≡ true) ↔ Octets w
unfolding well_formed
well_octets w = (goes_on_octets (length w) w, octets_well)

pub well_iff : (w : List ℕ) → (well_formed w ≡ true) ↔ ((ns : List ℕ) × Scalars ns × (together (spelled ns) ≡ w))
well_iff w = (λ e. octets_spelled ((well_octets w).0 e), λ t. rw t.2 at (spelled_well t.0 t.1))

-- any other word is cut into bytes as a whole
pub cut_bytes : (w : List ℕ) → well_formed w ≡ false → cut w ≡ singles w
unfolding cut
cut_bytes w e = rw e (units_bytes w)

pub cut-joined : (w : List ℕ) → together (cut w) ≡ w
unfolding cut
cut-joined w = units-joined (well_formed w) w

pub cut-short : (w : List ℕ) → Short (cut w)
unfolding cut
cut-short w = units-short (well_formed w) w

-- the two seedings; an empty word has no units
pub seeded-chars : (w : List ℕ) → seeded true w ≡ cut w
unfolding seeded cut
seeded-chars w = refl

pub seeded_bytes : (w : List ℕ) → seeded false w ≡ singles w
unfolding seeded
seeded_bytes w = units_bytes w

pub seeded_nil : (chars : Bool) → seeded chars [] ≡ []
unfolding seeded
seeded_nil chars = units_nil (chars && well_formed [])

module _ (chars : Bool) (w : List ℕ) where
  pub seeded-joined : together (seeded chars w) ≡ w
  unfolding seeded
  seeded-joined = units-joined (chars && well_formed w) w

  pub seeded-short : Short (seeded chars w)
  unfolding seeded
  seeded-short = units-short (chars && well_formed w) w

  pub seeded_few : length (seeded chars w) ≤ length w
  unfolding seeded
  seeded_few = units_few (chars && well_formed w) w
