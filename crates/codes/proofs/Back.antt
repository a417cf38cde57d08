-- For whoever has pieces and merges: the text has a line for each merge, with the spellings of its two pieces. Assumes nothing.
use mathlib.Core.Path.{◌≡◌, refl, sym, ap, ◌∙◌}
use mathlib.Core.List.{List, [], ◌∷◌, ◌++◌, flat_map, append_assoc}
use Prim.Native.Nat.{ℕ, suc, ◌+◌, ◌*◌, ◌^◌, ◌<◌, ◌≤◌}
use native.Mathlib.Omega.{arith}
use lib.ListN.{length, get_or, length-append}
use Rattle.runs.proofs.Parts.{part_mid}
use Rattle.numbers.specs.Little.{little, spell, load}
use Rattle.numbers.proofs.Little.{length-spell, little-spell}
use Rattle.rule.specs.Training.{Merge}
use Rattle.rule.specs.Demand.{merge_at}
use Rattle.rule.specs.Layout.{piece_bytes, piece_records, merge_bytes}
use Rattle.rule.proofs.Reading.{layout_found, layout_back}
use Rattle.vocab.specs.Reading.{piece_given}
use Rattle.codes.specs.Codes.{version, code_line, left_of, right_of, line_of, lines_of, codes_text, merge_lines}

-- A NUMBER of 4 bytes that stands behind others
load-behind : (a rest : List ℕ) (v at : ℕ) → length a ≡ at → v < 256 ^ 4 → load 4 (a ++ (spell 4 v ++ rest)) at ≡ v
unfolding load
load-behind a rest v at l h =
    rw (← l) (ap little (part_mid a (spell 4 v) rest 4 (length-spell 4 v))) ∙ little-spell 4 v h

module _ (ps : List (List ℕ)) (small : length (piece_bytes ps) ≤ 4294967295) (few : length ps ≤ 16777216) where
  -- the reader gives the piece of each number
  spelling : (n : ℕ) → n < length ps → piece_given (piece_bytes ps) (piece_records ps) n ≡ get_or ps n []
  unfolding piece_given
  spelling n h = rw (layout_found ps small n h few) (layout_back ps small n h)

  -- a line, where the bytes of its merge stand behind those of i others
  line_back : (a rest : List ℕ) (i l r : ℕ) → length a ≡ i * 8 → l < length ps → r < length ps
      → line_of (piece_bytes ps) (piece_records ps) (a ++ (spell 4 l ++ spell 4 r ++ rest)) i ≡ code_line (get_or ps l []) (get_or ps r [])
  unfolding line_of left_of right_of
  line_back a rest i l r e h k =
      let x : a ++ (spell 4 l ++ spell 4 r ++ rest) ≡ a ++ (spell 4 l ++ (spell 4 r ++ rest)) = rw (append_assoc (spell 4 l) (spell 4 r) rest) in
      let y : a ++ (spell 4 l ++ (spell 4 r ++ rest)) ≡ a ++ spell 4 l ++ (spell 4 r ++ rest) = sym (append_assoc a (spell 4 l) (spell 4 r ++ rest)) in
      let p : load 4 (a ++ (spell 4 l ++ spell 4 r ++ rest)) (i * 8) ≡ l = rw x (load-behind a (spell 4 r ++ rest) l (i * 8) e (omega (arith, few))) in
      let n : length (a ++ spell 4 l) ≡ i * 8 + 4 = simp (length-append, length-spell) (omega arith) in
      let q : load 4 (a ++ (spell 4 l ++ spell 4 r ++ rest)) (i * 8 + 4) ≡ r =
      ap (λ (z : List ℕ). load 4 z (i * 8 + 4)) (x ∙ y) ∙ load-behind (a ++ spell 4 l) rest r (i * 8 + 4) n (omega (arith, few)) in
      rw (p, q, spelling l h, spelling r k)

  merge_more : (m : Merge) (ms : List Merge) → merge_bytes (m ∷ ms) ≡ spell 4 m.left ++ spell 4 m.right ++ merge_bytes ms
  unfolding merge_bytes flat_map
  merge_more m ms = refl

  lines_none : (m : List ℕ) (i : ℕ) → lines_of (piece_bytes ps) (piece_records ps) m i 0 ≡ []
  unfolding lines_of
  lines_none m i = refl

  lines-more : (m : List ℕ) (i n : ℕ) → lines_of (piece_bytes ps) (piece_records ps) m i (suc n)
      ≡ line_of (piece_bytes ps) (piece_records ps) m i ++ lines_of (piece_bytes ps) (piece_records ps) m (suc i) n
  unfolding lines_of
  lines-more m i n = refl

  text_more : (m : Merge) (ms : List Merge) → merge_lines ps (m ∷ ms) ≡ code_line (get_or ps m.left []) (get_or ps m.right []) ++ merge_lines ps ms
  unfolding merge_lines flat_map
  text_more m ms = refl

  text_none : merge_lines ps [] ≡ []
  unfolding merge_lines flat_map
  text_none = refl

  lines_back : (a : List ℕ) (i : ℕ) (ms : List Merge) → length a ≡ i * 8
      → ((k : ℕ) → k < length ms → ((merge_at ms k).left < length ps) × ((merge_at ms k).right < length ps))
      → lines_of (piece_bytes ps) (piece_records ps) (a ++ merge_bytes ms) i (length ms) ≡ merge_lines ps ms
  lines_back a i [] e h = lines_none (a ++ merge_bytes []) i ∙ sym text_none
  lines_back a i (m ∷ ms) e h =
      let s = spell 4 m.left ++ spell 4 m.right in
      let z = h 0 (omega arith) in
      let n : length (a ++ s) ≡ suc i * 8 = simp (length-append, length-spell) (omega arith) in
      let k : lines_of (piece_bytes ps) (piece_records ps) (a ++ s ++ merge_bytes ms) (suc i) (length ms) ≡ merge_lines ps ms =
      lines_back (a ++ s) (suc i) ms n (λ j l. h (suc j) (omega arith)) in
      let b = line_back a (merge_bytes ms) i m.left m.right e z.0 z.1 in
      let x : a ++ s ++ merge_bytes ms ≡ a ++ (s ++ merge_bytes ms) = append_assoc a s (merge_bytes ms) in
      ap (λ (l : List ℕ). lines_of (piece_bytes ps) (piece_records ps) (a ++ l) i (suc (length ms))) (merge_more m ms)
      ∙ lines-more (a ++ (s ++ merge_bytes ms)) i (length ms)
      ∙ ap (λ (l : List ℕ). l ++ lines_of (piece_bytes ps) (piece_records ps) (a ++ (s ++ merge_bytes ms)) (suc i) (length ms)) b
      ∙ ap (λ (l : List ℕ). code_line (get_or ps m.left []) (get_or ps m.right []) ++ l) (rw x at k)
      ∙ sym (text_more m ms)

  -- THE TEXT OF PIECES AND MERGES as the trainer writes them
  pub text_back : (ms : List Merge) → ((k : ℕ) → k < length ms → ((merge_at ms k).left < length ps) × ((merge_at ms k).right < length ps))
      → codes_text (piece_bytes ps) (piece_records ps) (merge_bytes ms) (length ms) ≡ version ++ (10 ∷ merge_lines ps ms)
  unfolding codes_text
  text_back ms h = ap (λ (l : List ℕ). version ++ (10 ∷ l)) (lines_back [] 0 ms refl h)
