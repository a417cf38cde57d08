-- What is written is read back: numbers, ends, pieces.
use mathlib.Core.Path.{◌≡◌, refl, sym, ap, subst}
use mathlib.Core.Bool.{true}
use mathlib.Core.List.{List, [], ◌∷◌, ◌++◌, map, flat_map, append_assoc, append-nil}
use Prim.Native.Nat.{ℕ, zero, suc, ◌+◌, ◌-◌, ◌*◌, ◌/◌, ◌%◌, ◌^◌, ◌≤◌, ◌<◌}
use native.Mathlib.Nat.{mul-div_right, mul-mod_right}
use native.Mathlib.Omega.{arith}
use lib.ListN.{length, take, get_or, length-append}
use borrow.Author.Tests.{eq-eqb, le-leb, le-ltb, lt-leb}
use Rattle.runs.specs.Parts.{part}
use Rattle.numbers.specs.Little.{little, spell, load, loads, numbers}
use Rattle.rule.specs.Shapes.{spell_all, parts, ends_from, rise_to, shaped}
use Rattle.rule.specs.Table.{Task, Rooms, total}
use Rattle.rule.specs.Training.{all_pieces}
use Rattle.rule.specs.Layout.{piece_bytes, piece_records, piece_shape, piece_count, piece_start, piece_length, piece_at}
use Rattle.rule.specs.Refusals.{says, verdict}
use Rattle.rule.specs.Outcome.{train_outcome, look_up}
use Rattle.runs.proofs.Parts.{part_mid}
use Rattle.numbers.proofs.Little.{length-spell, little-spell, length-numbers}
use Rattle.rule.specs.Sums.{Under}
use Rattle.rule.proofs.Lengths.{length-spell_all, length_flat, length-piece_records}
use Rattle.rule.proofs.Judged.{accepts}
use Rattle.rule.proofs.Left.{fits, writes_answer}

-- NUMBERS that fit their width are read back, whatever stands before and behind
spell_step : (w n : ℕ) (ns rest : List ℕ) → spell_all w (n ∷ ns) ++ rest ≡ spell w n ++ (spell_all w ns ++ rest)
unfolding spell_all flat_map
spell_step w n ns rest = append_assoc (spell w n) (flat_map (spell w) ns) rest

loads_step : (w n : ℕ) (xs : List ℕ) (at : ℕ) → loads w (suc n) xs at ≡ little (part at w xs) ∷ loads w n xs (at + w)
unfolding loads load
loads_step w n xs at = refl

loads_none : (w : ℕ) (xs : List ℕ) (at : ℕ) → loads w 0 xs at ≡ []
unfolding loads
loads_none w xs at = refl

pub loads_back : (w : ℕ) (before ns rest : List ℕ) → Under (256 ^ w) ns → loads w (length ns) (before ++ (spell_all w ns ++ rest)) (length before) ≡ ns
unfolding Under
loads_back w before [] rest b = loads_none w _ _
loads_back w before (n ∷ ns) rest b =
    let more = spell_all w ns ++ rest in
    let l : length (before ++ spell w n) ≡ length before + w = simp (length-append, length-spell) in
    let k : loads w (length ns) ((before ++ spell w n) ++ more) (length (before ++ spell w n)) ≡ ns = loads_back w (before ++ spell w n) ns rest b.1 in
    rw (spell_step, loads_step, part_mid before (spell w n) more w (length-spell w n), little-spell w n b.0)
    (ap (λ (l : List ℕ). n ∷ l) (rw (append_assoc before (spell w n) more, l) at k))

pub numbers_back : (w : ℕ) (ns : List ℕ) → 0 < w → Under (256 ^ w) ns → numbers w (spell_all w ns) ≡ ns
unfolding numbers
numbers_back w ns h b =
    let l : length (spell_all w ns) / w ≡ length ns = rw length-spell_all (mul-div_right (length ns) h) in
    rw l (rw append-nil at (loads_back w [] ns [] b))

-- SPELLINGS laid end to end are read back by their ends
parts_step : (s : List ℕ) (from : ℕ) (p : List ℕ) (ps : List (List ℕ))
    → parts s from (ends_from from (p ∷ ps)) ≡ part from ((from + length p) - from) s ∷ parts s (from + length p) (ends_from (from + length p) ps)
unfolding parts ends_from
parts_step s from p ps = refl

flat_step : (p : List ℕ) (ps : List (List ℕ)) → flat_map (λ q. q) (p ∷ ps) ≡ p ++ flat_map (λ q. q) ps
unfolding flat_map
flat_step p ps = refl

parts_none : (s : List ℕ) (from : ℕ) → parts s from (ends_from from []) ≡ []
unfolding parts ends_from
parts_none s from = refl

pub parts_back : (before : List ℕ) (ps : List (List ℕ)) (rest : List ℕ)
    → parts (before ++ (flat_map (λ p. p) ps ++ rest)) (length before) (ends_from (length before) ps) ≡ ps
parts_back before [] rest = parts_none _ _
parts_back before (p ∷ ps) rest =
    let more = flat_map (λ q. q) ps ++ rest in
    let l : length p ≡ (length before + length p) - length before = omega arith in
    let k : parts (before ++ p ++ more) (length (before ++ p)) (ends_from (length (before ++ p)) ps) ≡ ps = parts_back (before ++ p) ps rest in
    rw (flat_step, append_assoc p (flat_map (λ q. q) ps) rest, parts_step, part_mid before p more _ l)
    (ap (λ (l : List (List ℕ)). p ∷ l) (rw (append_assoc before p more, length-append) at k))

-- their ends rise to the last, and none is past it
pub ends_rise : (from : ℕ) (ps : List (List ℕ)) → rise_to (from + total (map length ps)) from (ends_from from ps) ≡ true
unfolding rise_to ends_from total
ends_rise from [] = eq-eqb from (from + 0) (omega arith)
ends_rise from (p ∷ ps) =
    let e : from + (length p + total (map length ps)) ≡ (from + length p) + total (map length ps) = omega arith in
    rw (le-leb from (from + length p) (omega arith))
    (subst (λ (n : ℕ). rise_to n (from + length p) (ends_from (from + length p) ps) ≡ true) (sym e) (ends_rise (from + length p) ps))

pub ends_under : (from m : ℕ) (ps : List (List ℕ)) → from + total (map length ps) < m → Under m (ends_from from ps)
unfolding ends_from total Under
ends_under from m [] h = tt
ends_under from m (p ∷ ps) h = (omega arith, ends_under (from + length p) m ps (omega arith))

-- a part is what lies between the end before it and its own
part_at : (s : List ℕ) (from : ℕ) (es : List ℕ) (n : ℕ) → n < length es
    → get_or (parts s from es) n [] ≡ part (get_or (from ∷ es) n 0) (get_or es n 0 - get_or (from ∷ es) n 0) s
unfolding parts
part_at s from [] n h = absurd (omega arith)
part_at s from (e ∷ es) zero h = refl
part_at s from (e ∷ es) (suc n) h = part_at s e es n (omega arith)

-- A PIECE IS READ as the part of the bytes that is its own
pub piece_at_lem : (bytes records : List ℕ) (n : ℕ) → n < piece_count records → piece_at bytes records n ≡ get_or (parts bytes 0 (numbers 4 records)) n []
unfolding piece_count piece_at piece_start piece_length
piece_at_lem bytes records n h = sym (part_at bytes 0 (numbers 4 records) n (rw length-numbers h))

-- PIECES LAID OUT in bytes and records have the reader's shape, are as many, and are read back
module _ (ps : List (List ℕ)) (small : length (piece_bytes ps) ≤ 4294967295) where
  ends_back : numbers 4 (piece_records ps) ≡ ends_from 0 ps
  unfolding piece_records piece_bytes
  ends_back = numbers_back 4 (ends_from 0 ps) (omega arith) (ends_under 0 (256 ^ 4) ps (omega (arith, length_flat ps)))

  pub layout_shape : piece_shape (piece_bytes ps) (piece_records ps) ≡ true
  unfolding piece_shape shaped piece_bytes
  layout_shape =
      let l : length (piece_records ps) % 4 ≡ 0 = rw length-piece_records (mul-mod_right 4 (length ps)) in
      let e : 0 + total (map length ps) ≡ length (flat_map (λ p. p) ps) = omega (arith, length_flat ps) in
      rw (eq-eqb (length (piece_records ps) % 4) 0 l, ends_back, ← e) (ends_rise 0 ps)

  pub layout_count : piece_count (piece_records ps) ≡ length ps
  unfolding piece_count
  layout_count = rw length-piece_records (mul-div_right (length ps) (omega arith))

  pub layout_back : (n : ℕ) → n < length ps → piece_at (piece_bytes ps) (piece_records ps) n ≡ get_or ps n []
  unfolding piece_bytes
  layout_back n h =
      let k : parts (piece_bytes ps) 0 (ends_from 0 ps) ≡ ps = rw append-nil at (parts_back [] ps []) in
      rw (piece_at_lem (piece_bytes ps) (piece_records ps) n (rw layout_count h), ends_back) (ap (λ (l : List (List ℕ)). get_or l n []) k)

  -- and the reader gives start and length of each
  pub layout_found : (n : ℕ) → n < length ps → length ps ≤ 16777216
      → look_up (piece_bytes ps) (piece_records ps) n ≡ says 0 (piece_start (piece_records ps) n ∷ piece_length (piece_records ps) n ∷ [])
  unfolding look_up
  layout_found n h k = rw (layout_shape, layout_count, le-ltb 16777216 (length ps) k, lt-leb (length ps) n h)

-- THE PIECES OF A SUCCESS are read back from the fronts of the two rooms
pub pieces_back : (t : Task) (r : Rooms) → 64 ≤ length r.answer → (verdict t r).number ≡ 0 → (n : ℕ) → n < length (all_pieces t)
    → piece_at (take (length (piece_bytes (all_pieces t))) (train_outcome t r).rooms.pieces) (take (4 * length (all_pieces t)) (train_outcome t r).rooms.piece_ends) n
    ≡ get_or (all_pieces t) n []
pieces_back t r long z n h =
    let w = writes_answer t r long z in
    let e = w.piece_ends.front in
    rw (w.pieces.front, ← length-piece_records (all_pieces t), e) (layout_back (all_pieces t) (fits t r (accepts t r z).0.output).small n h)

-- the first piece starts at 0
pub start_first : (ends : List ℕ) (n : ℕ) → n ≡ 0 → 0 ≡ piece_start ends n
unfolding piece_start
start_first ends n e = rw e
