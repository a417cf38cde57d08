-- For whoever goes on with the runs: where the answer is a table, their fronts hold the words and the frequencies of the text's lines. Assumes nothing.
use mathlib.Core.Path.{◌≡◌, refl, sym, ap}
use mathlib.Core.Bool.{Bool, true, false, cond, and-eq-true_iff}
use mathlib.Core.List.{List, [], ◌∷◌, ◌++◌, map, flat_map, append-nil}
use Prim.Native.Nat.{ℕ, ◌+◌, ◌-◌, ◌*◌, ◌^◌, ◌<◌, ◌≤◌}
use native.Mathlib.Nat.{pow-succ', pow-le-pow_right, mul-le-mul_right}
use native.Mathlib.Omega.{arith}
use lib.Dec.{ltb, leb}
use lib.ListN.{length, drop}
use borrow.Author.Tests.{leb-true, ltb-false}
use Rattle.runs.specs.Parts.{part, laid}
use Rattle.runs.proofs.Parts.{part-laid}
use Rattle.numbers.specs.Little.{numbers}
use Rattle.rule.specs.Shapes.{spell_all, ends_from, parts, parts_by, shaped}
use Rattle.rule.specs.Layout.{piece_bytes, piece_records, piece_shape}
use Rattle.rule.specs.Sums.{Under}
use Rattle.rule.proofs.Lengths.{length-piece_bytes}
use Rattle.rule.proofs.Reading.{numbers_back, parts_back, ends_under, layout_shape}
use Rattle.std.specs.Prelude.{Err}
use Rattle.lines.specs.declared.Parsed.{Parsed}
use Rattle.lines.specs.declared.ParseError.TheVariants.{NoRoom, TooLong, BadLine}
use Rattle.lines.specs.Lines.{lines, is_digit, digits, decimal, word_of, digits_of, frequency_of, well_formed, too_long, bad_among, first_bad}
use Rattle.lines.specs.Table.{word_bytes, end_bytes, frequency_bytes, no_room, table, parsed, leaves, Read, Told}
use Rattle.lines.proofs.Cuts.{good_first}
use Rattle.lines.proofs.Judged.{well_few}
use Rattle.lines.proofs.Writing.{length-end_bytes, length-frequency_bytes, words-short}
use Rattle.lines.proofs.Answers.{has_room, not_long}

-- THE WORDS are laid out as pieces are, and read back as they

flat_words : (ls : List (List ℕ)) → word_bytes ls ≡ piece_bytes (map word_of ls)
unfolding word_bytes piece_bytes flat_map
flat_words [] = refl
flat_words (l ∷ ls) = ap (λ (x : List ℕ). word_of l ++ x) (flat_words ls)

end_records : (ls : List (List ℕ)) → end_bytes 0 ls ≡ piece_records (map word_of ls)
unfolding end_bytes piece_records
end_records ls = refl

module _ (ls : List (List ℕ)) (h : length (word_bytes ls) ≤ 4294967295) where
  pub words-shaped : shaped (word_bytes ls) (end_bytes 0 ls) ≡ true
  unfolding piece_shape
  words-shaped = rw (flat_words ls, end_records ls) (layout_shape (map word_of ls) (rw (flat_words ls) at h))

  pub words_back : parts_by (word_bytes ls) (end_bytes 0 ls) ≡ map word_of ls
  unfolding parts_by end_bytes piece_bytes
  words_back =
      let ps = map word_of ls in
      let u = ends_under 0 (256 ^ 4) ps (omega (arith, h, ap length (flat_words ls), length-piece_bytes ps)) in
      let n : numbers 4 (spell_all 4 (ends_from 0 ps)) ≡ ends_from 0 ps = numbers_back 4 (ends_from 0 ps) (omega arith) u in
      let k : parts (piece_bytes ps) 0 (ends_from 0 ps) ≡ ps = rw append-nil at (parts_back [] ps []) in
      rw (n, flat_words ls) k

-- THE FREQUENCIES have at most 18 digits, and fit 8 bytes

digit-top : (b : ℕ) → is_digit b ≡ true → b ≤ 57
unfolding is_digit
digit-top b e = leb-true b 57 ((and-eq-true_iff (leb 48 b) (leb b 57)).0 e).1

decimal_lt : (v : ℕ) (xs : List ℕ) → decimal v (digits xs) < (v + 1) * 10 ^ length (digits xs)
unfolding decimal digits
decimal_lt v [] = omega arith
decimal_lt v (b ∷ bs) = go (is_digit b) refl (λ u. decimal_lt u bs)
  where
    go : (t : Bool) → is_digit b ≡ t → ((u : ℕ) → decimal u (digits bs) < (u + 1) * 10 ^ length (digits bs))
        → decimal v (cond t (b ∷ digits bs) []) < (v + 1) * 10 ^ length (cond t (b ∷ digits bs) [])
    go true e f =
        let p = 10 ^ length (digits bs) in
        let s = mul-le-mul_right {m = v * 10 + (b - 48) + 1} {n = v * 10 + 10} p (omega (arith, digit-top b e)) in
        rw (pow-succ' 10 (length (digits bs))) (omega (arith, f (v * 10 + (b - 48)), s))
    go false e f = omega arith

frequency_lt : (l : List ℕ) → well_formed l ≡ true → frequency_of l < 256 ^ 8
unfolding frequency_of digits_of
frequency_lt l t =
    let xs = drop (length (word_of l) + 1) l in
    let p = pow-le-pow_right {n = 10} (omega arith) {i = length (digits xs)} {j = 18} (well_few l t) in
    omega (arith, decimal_lt 0 xs, p)

frequencies_under : (ls : List (List ℕ)) → length ls ≤ bad_among ls → Under (256 ^ 8) (map frequency_of ls)
unfolding Under
frequencies_under [] h = tt
frequencies_under (l ∷ ls) h = let g = good_first l ls h in (frequency_lt l g.0, frequencies_under ls g.1)

pub frequencies_back : (ls : List (List ℕ)) → length ls ≤ bad_among ls → numbers 8 (frequency_bytes ls) ≡ map frequency_of ls
unfolding frequency_bytes
frequencies_back ls h = numbers_back 8 (map frequency_of ls) (omega arith) (frequencies_under ls h)

-- AN ANSWER THAT IS A TABLE: no test held

table_tests : (a b d : Bool) (bad n m count bytes : ℕ) → cond a (Err NoRoom) (cond b (Err TooLong) (cond d (Err (BadLine bad)) (table n m))) ≡ table count bytes
    → (a ≡ false) × (b ≡ false) × (d ≡ false) × (n ≡ count) × (m ≡ bytes)
table_tests true b d bad n m count bytes e = let z : ◌≡◌ {A = ℕ} 0 1 = cc in absurd (omega arith)
table_tests false true d bad n m count bytes e = let z : ◌≡◌ {A = ℕ} 0 1 = cc in absurd (omega arith)
table_tests false false true bad n m count bytes e = let z : ◌≡◌ {A = ℕ} 0 1 = cc in absurd (omega arith)
table_tests false false false bad n m count bytes e =
    let z : record { count = n; bytes = m } ≡ record { count = count; bytes = bytes } = cc in
    (refl, refl, refl, ap (λ (x : Parsed). x.count) z, ap (λ (x : Parsed). x.bytes) z)

good_all : (text : List ℕ) → ltb (first_bad text) (length (lines text)) ≡ false → length (lines text) ≤ bad_among (lines text)
unfolding first_bad
good_all text e = ltb-false (bad_among (lines text)) (length (lines text)) e

-- the front of a run, up to a length
front : (was is-now new : List ℕ) (n : ℕ) → is-now ≡ laid was 0 new → length new ≡ n → n ≤ length was → part 0 n is-now ≡ new
front was is-now new n e l h = rw (e, ← l) (part-laid was 0 new (omega arith))

pub read-told : (text : List ℕ) (count bytes : ℕ) (w e f w' e' f' : List ℕ) → Read text (table count bytes) w e f w' e' f' → Told text count bytes w' e' f'
unfolding parsed leaves
read-told text count bytes w e f w' e' f' r =
    let ls = lines text in
    let t = table_tests (no_room (length w) (length e) (length f)) (too_long text) (ltb (first_bad text) (length ls)) (first_bad text + 1) (length ls) (length (word_bytes ls)) count bytes (sym r.is) in
    let room = has_room (length w) (length e) (length f) t.0 in
    let short = not_long text t.1 in
    let s = words-short text in
    let a = front w w' (word_bytes ls) bytes r.words t.4 (omega (arith, t.4, s, short.0, room.0)) in
    let b = front e e' (end_bytes 0 ls) (count * 4) r.ends (omega (arith, length-end_bytes 0 ls, t.3)) (omega (arith, t.3, short.1, room.1)) in
    let d = front f f' (frequency_bytes ls) (count * 8) r.frequencies (omega (arith, length-frequency_bytes ls, t.3)) (omega (arith, t.3, short.1, room.2)) in
    record {
      shape = rw (a, b) (words-shaped ls (omega (arith, s, short.0)));
      words = rw (a, b) (words_back ls (omega (arith, s, short.0)));
      frequencies = rw d (frequencies_back ls (good_all text t.2));
    }
