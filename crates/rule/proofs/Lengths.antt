-- Lengths of what is written, and the zeros behind it.
use mathlib.Core.Path.{◌≡◌, refl, sym, ap}
use mathlib.Core.List.{List, [], ◌∷◌, ◌++◌, append_assoc, append-nil, map, flat_map}
use Prim.Native.Nat.{ℕ, suc, ◌+◌, ◌-◌, ◌*◌, ◌≤◌}
use native.Mathlib.Nat.{mul-suc, mul-zero}
use native.Mathlib.Omega.{arith}
use lib.ListN.{length, drop, length-append, length-map}
use lib.Seq.{drop-append_seam}
use Rattle.runs.specs.Parts.{zeros}
use Rattle.numbers.specs.Little.{spell}
use Rattle.rule.specs.Shapes.{spell_all, parts, ends_from, filled}
use Rattle.rule.specs.Table.{total}
use Rattle.rule.specs.Training.{Merge}
use Rattle.rule.specs.Layout.{piece_bytes, piece_records, merge_bytes, saving_bytes}
use Rattle.rule.specs.Rewriting.{Report}
use Rattle.rule.specs.Outcome.{told, wiped, report_bytes}
use Rattle.runs.proofs.Parts.{length-zeros}
use Rattle.numbers.proofs.Little.{length-spell}

pub length-spell_all : (w : ℕ) (ns : List ℕ) → length (spell_all w ns) ≡ w * length ns
unfolding spell_all flat_map
length-spell_all w [] = simp mul-zero
length-spell_all w (n ∷ ns) =
    let h = length-spell_all w ns in
    simp (length-append, length-spell, mul-suc) (omega arith)

-- numbers end to end with one more
pub spell_all_last : (w : ℕ) (ns : List ℕ) (n : ℕ) → spell_all w (ns ++ (n ∷ [])) ≡ spell_all w ns ++ spell w n
unfolding spell_all flat_map
spell_all_last w [] n = append-nil (spell w n)
spell_all_last w (m ∷ ns) n = rw (spell_all_last w ns n) (sym (append_assoc (spell w m) (spell_all w ns) (spell w n)))

pub length_flat : {A : Type 0} (ps : List (List A)) → length (flat_map (λ p. p) ps) ≡ total (map length ps)
unfolding flat_map total
length_flat [] = refl
length_flat (p ∷ ps) =
    let h = length_flat ps in
    simp length-append (omega arith)

-- as many parts as ends, and as many ends as parts
pub length-parts : (run : List ℕ) (from : ℕ) (es : List ℕ) → length (parts run from es) ≡ length es
unfolding parts
length-parts run from [] = refl
length-parts run from (e ∷ es) = ap suc (length-parts run e es)

pub length_ends : (from : ℕ) (ps : List (List ℕ)) → length (ends_from from ps) ≡ length ps
unfolding ends_from
length_ends from [] = refl
length_ends from (p ∷ ps) = ap suc (length_ends (from + length p) ps)

-- a run that is set to 0, and one that holds an answer, is as long as before; and behind the answer stand zeros
pub length-wiped : (run : List ℕ) → length (wiped run) ≡ length run
unfolding wiped
length-wiped run = length-zeros (length run)

pub length-filled : (run new : List ℕ) → length new ≤ length run → length (filled run new) ≡ length run
unfolding filled
length-filled run new h = simp (length-append, length-zeros) (omega arith)

pub filled-rest : (run new : List ℕ) → drop (length new) (filled run new) ≡ zeros (length run - length new)
unfolding filled
filled-rest run new = drop-append_seam new (zeros (length run - length new))

-- the answer run is as long as before: up to three numbers fit
pub length-told : (answer ns : List ℕ) → 64 ≤ length answer → length ns ≤ 3 → length (told answer ns) ≡ length answer
unfolding told
length-told answer ns long few = length-filled answer (spell_all 8 ns) (omega (arith, length-spell_all 8 ns))

-- what the trainer writes
pub length-piece_bytes : (ps : List (List ℕ)) → length (piece_bytes ps) ≡ total (map length ps)
unfolding piece_bytes
length-piece_bytes ps = length_flat ps

pub length-piece_records : (ps : List (List ℕ)) → length (piece_records ps) ≡ 4 * length ps
unfolding piece_records
length-piece_records ps = rw (length-spell_all, length_ends)

pub length-merge_bytes : (ms : List Merge) → length (merge_bytes ms) ≡ 8 * length ms
unfolding merge_bytes flat_map
length-merge_bytes [] = refl
length-merge_bytes (m ∷ ms) =
    let h = length-merge_bytes ms in
    simp (length-append, length-spell) (omega arith)

pub length-saving_bytes : (ms : List Merge) → length (saving_bytes ms) ≡ 8 * length ms
unfolding saving_bytes
length-saving_bytes ms = rw (length-spell_all, length-map)

-- what merging writes
pub length-reports : (qs : List Report) → length (flat_map report_bytes qs) ≡ 16 * length qs
unfolding flat_map report_bytes
length-reports [] = refl
length-reports (q ∷ qs) =
    let h = length-reports qs in
    simp (length-append, length-spell) (omega arith)
