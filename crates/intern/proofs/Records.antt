-- What the ends room holds: "piece ends (4 bytes)" of the pieces that are there. Assumes nothing.
use mathlib.Core.Path.{◌≡◌, sym, ap, ◌∙◌}
use mathlib.Core.List.{List, [], ◌∷◌, ◌++◌, flat_map}
use Prim.Native.Nat.{ℕ, zero, suc, ◌+◌, ◌*◌, ◌-◌, ◌<◌, ◌≤◌}
use native.Mathlib.Omega.{arith}
use native.Mathlib.Numerals.{add-one}
use lib.ListN.{length, length-append}
use Rattle.runs.specs.Parts.{part, Bytes}
use Rattle.runs.proofs.Parts.{part_none, part_split, part_bytes, length-part}
use Rattle.numbers.specs.Little.{little, spell, load}
use Rattle.numbers.proofs.Little.{spell-little}
use Rattle.rule.specs.Shapes.{spell_all, ends_from}
use Rattle.rule.specs.Layout.{piece_bytes, piece_records, piece_start, piece_at}
use Rattle.rule.proofs.Lengths.{spell_all_last}
use Rattle.intern.specs.Pieces.{pieces, Held}
use Rattle.intern.proofs.Rooms.{start_later, pieces-more}
use Rattle.intern.proofs.Lists.{length_bytes_more}
use Rattle.intern.proofs.Many.{flat}

spell-load : (w : ℕ) (ys : List ℕ) (at : ℕ) → at + w ≤ length ys → Bytes ys → spell w (load w ys at) ≡ part at w ys
unfolding load
spell-load w ys at h b =
    ap (λ (k : ℕ). spell k (little (part at w ys))) (sym (length-part at w ys h))
    ∙ spell-little (part at w ys) (part_bytes at w ys b)

ends_more : (from : ℕ) (ps : List (List ℕ)) (p : List ℕ) → ends_from from (ps ++ (p ∷ [])) ≡ ends_from from ps ++ ((from + length (piece_bytes ps) + length p) ∷ [])
unfolding ends_from piece_bytes flat_map
ends_more from [] p = let z : from + 0 + length p ≡ from + length p = omega arith in rw z
ends_more from (q ∷ ps) p =
    let z : from + length (q ++ piece_bytes ps) + length p ≡ from + length q + length (piece_bytes ps) + length p = omega (arith, length-append q (piece_bytes ps)) in
    ap (λ (l : List ℕ). (from + length q) ∷ l) (ends_more (from + length q) ps p ∙ ap (λ (k : ℕ). ends_from (from + length q) ps ++ (k ∷ [])) (sym z))

module _ (n u : ℕ) (xs ys : List ℕ) (l : Held n u xs ys) where
  start_is : (m : ℕ) → m ≤ n → length (piece_bytes (pieces xs ys m)) ≡ piece_start ys m
  start_is m h = ap length (sym (flat n u xs ys l m h)) ∙ length-part 0 (piece_start ys m) xs (omega (arith, l.low m h, l.bytes))

  ends_step : (m : ℕ) → m < n → ends_from 0 (pieces xs ys (m + 1)) ≡ ends_from 0 (pieces xs ys m) ++ (piece_start ys (m + 1) ∷ [])
  ends_step m h =
      let a = length_bytes_more (pieces xs ys m) (piece_at xs ys m) in
      let b = ap (λ (ps : List (List ℕ)). length (piece_bytes ps)) (pieces-more xs ys m) in
      let z : 0 + length (piece_bytes (pieces xs ys m)) + length (piece_at xs ys m) ≡ piece_start ys (m + 1) = omega (arith, start_is (m + 1) (omega arith)) in
      ap (ends_from 0) (pieces-more xs ys m) ∙ ends_more 0 (pieces xs ys m) (piece_at xs ys m) ∙ ap (λ (k : ℕ). ends_from 0 (pieces xs ys m) ++ (k ∷ [])) z

  module _ (b : Bytes ys) where
    end_bytes_lem : (m : ℕ) → m < n → part (m * 4) 4 ys ≡ spell 4 (piece_start ys (m + 1))
    end_bytes_lem m h =
        let z : m + 1 - 1 ≡ m = omega arith in
        sym (spell-load 4 ys (m * 4) (omega (arith, l.ends)) b)
        ∙ ap (spell 4) (start_later ys (m + 1) (load 4 ys (m * 4)) (λ q. omega arith) (omega (arith, l.ends)) (ap (λ (k : ℕ). load 4 ys (k * 4)) (sym z)))

    records_step : (m : ℕ) → m < n → part 0 (m * 4) ys ≡ piece_records (pieces xs ys m) → part 0 ((m + 1) * 4) ys ≡ piece_records (pieces xs ys (m + 1))
    unfolding piece_records
    records_step m h e =
        let z : (m + 1) * 4 ≡ m * 4 + 4 = omega arith in
        let o : 0 + m * 4 ≡ m * 4 = omega arith in
        ap (λ (k : ℕ). part 0 k ys) z
        ∙ part_split 0 (m * 4) 4 ys
        ∙ ap (λ (k : ℕ). part 0 (m * 4) ys ++ part k 4 ys) o
        ∙ ap (λ (r : List ℕ). r ++ part (m * 4) 4 ys) e
        ∙ ap (λ (r : List ℕ). piece_records (pieces xs ys m) ++ r) (end_bytes_lem m h)
        ∙ sym (ap (spell_all 4) (ends_step m h) ∙ spell_all_last 4 (ends_from 0 (pieces xs ys m)) (piece_start ys (m + 1)))

    records_none : part 0 (0 * 4) ys ≡ piece_records (pieces xs ys 0)
    unfolding piece_records pieces ends_from spell_all flat_map
    records_none = part_none 0 ys

    records_upto : (m : ℕ) → m ≤ n → part 0 (m * 4) ys ≡ piece_records (pieces xs ys m)
    records_upto zero h = records_none
    records_upto (suc m) h = rw (← add-one m) (records_step m (omega arith) (records_upto m (omega arith)))

    -- THE FRONT OF THE ENDS ROOM
    pub records_are : part 0 (n * 4) ys ≡ piece_records (pieces xs ys n)
    records_are = records_upto n (omega arith)
