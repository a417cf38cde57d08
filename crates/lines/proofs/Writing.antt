-- The laws of the table as it is written: one line, and the loop over all of them. Assumes nothing.
use mathlib.Core.Path.{◌≡◌, refl, sym, ap, ◌∙◌}
use mathlib.Core.Bool.{Bool, true, false, cond}
use mathlib.Core.List.{List, [], ◌∷◌, ◌++◌, flat_map}
use Prim.Native.Nat.{ℕ, suc, ◌+◌, ◌-◌, ◌*◌, ◌≤◌}
use native.Mathlib.Omega.{arith}
use lib.Dec.{eqb}
use lib.ListN.{length, take, drop, length-append, length-map}
use Rattle.runs.specs.Parts.{laid}
use Rattle.runs.proofs.Parts.{laid_none, laid-laid, length-laid}
use Rattle.numbers.specs.Little.{spell, store}
use Rattle.numbers.proofs.Little.{length-spell}
use Rattle.rule.specs.Shapes.{spell_all, ends_from}
use Rattle.rule.proofs.Lengths.{length-spell_all, length_ends}
use Rattle.lines.specs.Lines.{ahead, lines, before, word_of, digits_of, frequency_of, first_bad}
use Rattle.lines.specs.Table.{word_bytes, end_bytes, frequency_bytes, Filled}
use Rattle.lines.specs.Places.{place_of, value_at, lines_from, Line, CanWrite, Wrote, Going}
use Rattle.lines.proofs.Cuts.{lines_over, lines_start, good_first}
use Rattle.lines.proofs.Judged.{before-take, space_is}

-- WHAT IS WRITTEN, line by line

words-more : (l : List ℕ) (ls : List (List ℕ)) → word_bytes (l ∷ ls) ≡ word_of l ++ word_bytes ls
unfolding word_bytes flat_map
words-more l ls = refl

ends_more : (from : ℕ) (l : List ℕ) (ls : List (List ℕ)) → end_bytes from (l ∷ ls) ≡ spell 4 (from + length (word_of l)) ++ end_bytes (from + length (word_of l)) ls
unfolding end_bytes spell_all ends_from flat_map
ends_more from l ls = refl

frequencies-more : (l : List ℕ) (ls : List (List ℕ)) → frequency_bytes (l ∷ ls) ≡ spell 8 (frequency_of l) ++ frequency_bytes ls
unfolding frequency_bytes spell_all flat_map
frequencies-more l ls = refl

length-words-more : (l : List ℕ) (ls : List (List ℕ)) → length (word_bytes (l ∷ ls)) ≡ length (word_of l) + length (word_bytes ls)
length-words-more l ls = rw (words-more l ls) (length-append (word_of l) (word_bytes ls))

pub length-end_bytes : (from : ℕ) (ls : List (List ℕ)) → length (end_bytes from ls) ≡ 4 * length ls
unfolding end_bytes
length-end_bytes from ls = rw (length-spell_all, length_ends, length-map)

pub length-frequency_bytes : (ls : List (List ℕ)) → length (frequency_bytes ls) ≡ 8 * length ls
unfolding frequency_bytes
length-frequency_bytes ls = rw (length-spell_all, length-map)

nothing : (from : ℕ) → (word_bytes [] ≡ []) × (end_bytes from [] ≡ []) × (frequency_bytes [] ≡ [])
unfolding word_bytes end_bytes frequency_bytes spell_all ends_from flat_map
nothing from = (refl, refl, refl)

word_take : (line : List ℕ) → take (length (word_of line)) line ≡ word_of line
unfolding word_of
word_take line = before-take 32 line

-- ONE LINE: s is where its space stands, v the value behind it

pub wrote : (line w e f w' e' f' : List ℕ) (n used s v : ℕ) → s ≡ place_of 32 line 0 → v ≡ value_at line 0 (s + 1)
    → w' ≡ laid w used (take s line) → e' ≡ store 4 e (n * 4) (used + s) → f' ≡ store 8 f (n * 8) v → Wrote line n used (used + s) w e f w' e' f'
unfolding value_at frequency_of digits_of
wrote line w e f w' e' f' n used s v p q a b d =
    let z = space_is line s p in
    let t : take s line ≡ word_of line = rw z (word_take line) in
    let u : v ≡ frequency_of line = rw z at q in
    record {
      word = a ∙ ap (λ (l : List ℕ). laid w used l) t;
      end = b ∙ ap (λ (k : ℕ). store 4 e (n * 4) (used + k)) z;
      frequency = d ∙ ap (λ (k : ℕ). store 8 f (n * 8) k) u;
      behind = ap (λ (k : ℕ). used + k) z;
    }

-- ALL OF THEM

pub going_start : (text w e f : List ℕ) → Going (lines text) (lines text) w e f 0 0 w e f → Going (lines text) (lines_from text 0) w e f 0 0 w e f
going_start text w e f g = rw (lines_start text) g

module _ (all : List (List ℕ)) (w e f : List ℕ) (n used : ℕ) (w' e' f' : List ℕ) where
  can : (l : List ℕ) (ls : List (List ℕ)) → Going all (l ∷ ls) w e f n used w' e' f' → CanWrite l n used (length w') (length e') (length f')
  can l ls g =
      let b = length-words-more l ls in
      record {
        good = (good_first l ls g.good).0;
        word = omega (arith, b, g.bytes, g.small, g.word_room);
        small = omega (arith, b, g.bytes, g.small);
        end = omega (arith, g.few, g.end_room);
        frequency = omega (arith, g.few, g.frequency_room);
      }

  turn : (l : List ℕ) (ls : List (List ℕ)) (u : ℕ) (w'' e'' f'' : List ℕ) → Going all (l ∷ ls) w e f n used w' e' f'
      → Wrote l n used u w' e' f' w'' e'' f'' → Going all ls w e f (n + 1) u w'' e'' f''
  unfolding store
  turn l ls u w'' e'' f'' g k =
      let b = length-words-more l ls in
      let v = used + length (word_of l) in
      let x = length-spell 4 v in
      let y = length-spell 8 (frequency_of l) in
      let d = length-end_bytes v ls in
      let h = length-frequency_bytes ls in
      let hw : used + length (word_of l) + length (word_bytes ls) ≤ length w' = omega (arith, b, g.bytes, g.small, g.word_room) in
      let he : n * 4 + length (spell 4 v) + length (end_bytes v ls) ≤ length e' = omega (arith, x, d, g.few, g.end_room) in
      let hf : n * 8 + length (spell 8 (frequency_of l)) + length (frequency_bytes ls) ≤ length f' = omega (arith, y, h, g.few, g.frequency_room) in
      let p4 : n * 4 + length (spell 4 v) ≡ (n + 1) * 4 = omega (arith, x) in
      let p8 : n * 8 + length (spell 8 (frequency_of l)) ≡ (n + 1) * 8 = omega (arith, y) in
      let lw = length-laid w' used (word_of l) (omega arith) in
      let le = length-laid e' (n * 4) (spell 4 v) (omega arith) in
      let lf = length-laid f' (n * 8) (spell 8 (frequency_of l)) (omega arith) in
      record {
        words = g.words ∙ rw (words-more l ls, k.word, k.behind) (sym (laid-laid w' used (word_of l) (word_bytes ls) hw));
        ends = g.ends ∙ rw (ends_more used l ls, k.end, k.behind, ← p4) (sym (laid-laid e' (n * 4) (spell 4 v) (end_bytes v ls) he));
        frequencies = g.frequencies ∙ rw (frequencies-more l ls, k.frequency, ← p8) (sym (laid-laid f' (n * 8) (spell 8 (frequency_of l)) (frequency_bytes ls) hf));
        bytes = omega (arith, b, g.bytes, k.behind);
        small = g.small;
        few = omega (arith, g.few);
        good = (good_first l ls g.good).1;
        word_room = omega (arith, ap length k.word, lw, g.word_room);
        end_room = omega (arith, ap length k.end, le, g.end_room);
        frequency_room = omega (arith, ap length k.frequency, lf, g.frequency_room);
        word_long = omega (arith, ap length k.word, lw, g.word_long);
        end_long = omega (arith, ap length k.end, le, g.end_long);
        frequency_long = omega (arith, ap length k.frequency, lf, g.frequency_long);
      }

  over : Going all [] w e f n used w' e' f' → Filled all used w e f w' e' f'
  over g =
      let z = nothing used in
      record {
        is = omega (arith, g.bytes, ap length z.0);
        words = sym (g.words ∙ rw z.0 (laid_none w' used));
        ends = sym (g.ends ∙ rw z.1 (laid_none e' (n * 4)));
        frequencies = sym (g.frequencies ∙ rw z.2 (laid_none f' (n * 8)));
      }

  module _ (text : List ℕ) (at : ℕ) (g : Going all (lines_from text at) w e f n used w' e' f') where
    module _ (r : ℕ) (l : Line text at r) where
      pub going_can : CanWrite (take (r - at) (drop at text)) n used (length w') (length e') (length f')
      going_can = can (take (r - at) (drop at text)) (lines_from text r) (rw l.cut at g)

      pub going_turn : (u : ℕ) (w'' e'' f'' : List ℕ) → Wrote (take (r - at) (drop at text)) n used u w' e' f' w'' e'' f''
          → Going all (lines_from text r) w e f (n + 1) u w'' e'' f''
      going_turn u w'' e'' f'' k = turn (take (r - at) (drop at text)) (lines_from text r) u w'' e'' f'' (rw l.cut at g) k

    pub going_end : length text ≤ at → Filled all used w e f w' e' f'
    going_end h = over (rw (lines_over text at h) at g)

-- THE START: a text that is not refused

-- its words have no more bytes than it has
word_one : (b : ℕ) → length (word_of (b ∷ [])) ≤ 1
unfolding word_of before
word_one b = go (eqb b 32)
  where
    go : (t : Bool) → length (cond t [] (b ∷ [])) ≤ 1
    go true = omega arith
    go false = omega arith

word_more : (b : ℕ) (l : List ℕ) → length (word_of (b ∷ l)) ≤ suc (length (word_of l))
unfolding word_of before
word_more b l = go (eqb b 32)
  where
    go : (t : Bool) → length (cond t [] (b ∷ before 32 l)) ≤ suc (length (before 32 l))
    go true = omega arith
    go false = omega arith

words-ahead : (b : ℕ) (ls : List (List ℕ)) → length (word_bytes (ahead b ls)) ≤ suc (length (word_bytes ls))
unfolding ahead
words-ahead b [] = omega (arith, length-words-more (b ∷ []) [], word_one b)
words-ahead b (l ∷ ls) = omega (arith, length-words-more (b ∷ l) ls, length-words-more l ls, word_more b l)

pub words-short : (text : List ℕ) → length (word_bytes (lines text)) ≤ length text
unfolding lines
words-short [] = omega (arith, ap length (nothing 0).0)
words-short (b ∷ bs) = go (eqb b 10) (words-short bs)
  where
    go : (t : Bool) → length (word_bytes (lines bs)) ≤ length bs → length (word_bytes (cond t ((b ∷ []) ∷ lines bs) (ahead b (lines bs)))) ≤ suc (length bs)
    go true h = omega (arith, length-words-more (b ∷ []) (lines bs), word_one b)
    go false h = omega (arith, words-ahead b (lines bs))

pub going_first : (text w e f : List ℕ) → length text ≤ 1024 → length (lines text) ≤ 64 → length (lines text) ≤ first_bad text
    → 1024 ≤ length w → 256 ≤ length e → 512 ≤ length f → Going (lines text) (lines text) w e f 0 0 w e f
unfolding first_bad
going_first text w e f h k g a b d = record {
  words = refl;
  ends = refl;
  frequencies = refl;
  bytes = omega arith;
  small = omega (arith, words-short text);
  few = omega arith;
  good = g;
  word_room = a;
  end_room = b;
  frequency_room = d;
  word_long = refl;
  end_long = refl;
  frequency_long = refl;
}
