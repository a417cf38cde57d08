-- What each function returns, and what is in every lent run when it has.
use Rattle.std.specs.Prelude.{Bool, cond, ◌&&◌, ◌||◌, not, ℕ, ◌-◌, ◌*◌, ◌^◌, eqb, ltb, leb, length}
use mathlib.Core.List.{List, [], ◌∷◌, ◌++◌, flat_map}
use Rattle.runs.specs.Parts.{laid, zeros}
use Rattle.numbers.specs.Little.{spell, numbers}
use Rattle.rule.specs.Shapes.{spell_all, wholes, filled}
use Rattle.rule.specs.Table.{Task, Rooms}
use Rattle.rule.specs.Training.{trained, all_pieces}
use Rattle.rule.specs.Layout.{piece_bytes, piece_records, piece_shape, piece_count, piece_start, piece_length, merge_bytes, saving_bytes}
use Rattle.rule.specs.Rewriting.{Report, rewrite, rewrites, reports}
use Rattle.rule.specs.Refusals.{Verdict, says, verdict}

-- "one more lent run of at least 64 bytes": "A shorter one is BadShape and stays as it was"
abbrev pub short : List ℕ → Bool
short answer = ltb (length answer) 64

-- "the numbers given", "8 bytes each, the rest 0"
unfoldable pub told : List ℕ → List ℕ → List ℕ
told answer ns = filled answer (spell_all 8 ns)

-- a run set to 0
unfoldable pub wiped : List ℕ → List ℕ
wiped run = zeros (length run)

-- TRAINING: what is returned, and all lent runs
pub record Outcome : Type 0 where
  pub returned : ℕ
  pub rooms : Rooms

-- success: "Bytes of the output rooms beyond the answer are 0, and the work room is all 0"
unfoldable pub written : Task → Rooms → List ℕ → Rooms
written t r ns = record {
  work = wiped r.work;
  pieces = filled r.pieces (piece_bytes (all_pieces t));
  piece_ends = filled r.piece_ends (piece_records (all_pieces t));
  merges = filled r.merges (merge_bytes (trained t));
  savings = filled r.savings (saving_bytes (trained t));
  answer = told r.answer ns;
}

-- a refusal does one thing to all output rooms and the work room
unfoldable pub refused_with : (List ℕ → List ℕ) → Rooms → List ℕ → Rooms
refused_with f r ns = record {
  work = f r.work;
  pieces = f r.pieces;
  piece_ends = f r.piece_ends;
  merges = f r.merges;
  savings = f r.savings;
  answer = told r.answer ns;
}

-- "Numbers 8 to 10 set all output rooms and the work room to 0"
unfoldable pub cleared : Rooms → List ℕ → Rooms
cleared r ns = refused_with wiped r ns

-- which numbers do so
abbrev pub clears : ℕ → Bool
clears n = leb 8 n && leb n 10

-- "Numbers 1 to 7, 11 and 12 write nothing"
unfoldable pub untouched : Rooms → List ℕ → Rooms
untouched r ns = refused_with (λ run. run) r ns

-- the rooms after a verdict: by its number
unfoldable pub rooms_after : Task → Rooms → Verdict → Rooms
rooms_after t r v = cond (eqb v.number 0) (written t r v.gives) (cond (clears v.number) (cleared r v.gives) (untouched r v.gives))

-- the outcome: the verdict's; with a short answer run 1, and all "stays as it was"
unfoldable pub train_outcome : Task → Rooms → Outcome
train_outcome t r =
    let done : Outcome = record { returned = (verdict t r).number; rooms = rooms_after t r (verdict t r) } in
    cond (short r.answer) (record { returned = 1; rooms = r }) done

-- READING A PIECE: "The reader uses 1 for ends that fail the same shape rules or are over 16,777,216"; 11: "a number at or past the piece count"; success gives "start and length"
unfoldable pub look_up : List ℕ → List ℕ → ℕ → Verdict
look_up pieces ends n =
    cond (not (piece_shape pieces ends) || ltb 16777216 (piece_count ends)) (says 1 [])
    (cond (leb (piece_count ends) n) (says 11 []) (says 0 (piece_start ends n ∷ piece_length ends n ∷ [])))

-- what is returned, and the one run that is lent to be written
pub record Read : Type 0 where
  pub returned : ℕ
  pub answer : List ℕ

-- in the same way
unfoldable pub piece_outcome : List ℕ → List ℕ → ℕ → List ℕ → Read
piece_outcome pieces ends n answer =
    let v = look_up pieces ends n in
    cond (short answer) (record { returned = 1; answer = answer }) (record { returned = v.number; answer = told answer v.gives })

-- MERGING: "symbols of 4 bytes and reports of 16 (left, right, then 1 or -1 in 8 bytes)"
abbrev pub signed : Bool → ℕ
signed raises = cond raises 1 (2 ^ 64 - 1)

-- a report in its 16 bytes
unfoldable pub report_bytes : Report → List ℕ
report_bytes q = spell 4 q.left ++ spell 4 q.right ++ spell 8 (signed q.up)

-- "other lengths are BadShape"; 12: "more reports than the lent list has places for"; success gives "rewrites, symbols kept and reports"
unfoldable pub merge_verdict : List ℕ → ℕ → ℕ → ℕ → List ℕ → Verdict
merge_verdict symbols a b x changes =
    let w = numbers 4 symbols in
    let qs = reports a b x w in
    cond (not (wholes 4 symbols) || not (wholes 16 changes)) (says 1 [])
    (cond (ltb (length changes) (16 * length qs)) (says 12 []) (says 0 (rewrites a b w ∷ length (rewrite a b x w) ∷ length qs ∷ [])))

-- what is returned, and the three runs that are lent to be written
pub record Merged : Type 0 where
  pub returned : ℕ
  pub symbols : List ℕ
  pub changes : List ℕ
  pub answer : List ℕ

-- "positions past the kept ones, and the change list past the reports, stay as they were"
unfoldable pub merge_outcome : List ℕ → ℕ → ℕ → ℕ → List ℕ → List ℕ → Merged
merge_outcome symbols a b x changes answer =
    let v = merge_verdict symbols a b x changes in
    let refused : Merged = record { returned = v.number; symbols = symbols; changes = changes; answer = told answer v.gives } in
    let done : Merged = record {
      returned = 0;
      symbols = laid symbols 0 (spell_all 4 (rewrite a b x (numbers 4 symbols)));
      changes = laid changes 0 (flat_map report_bytes (reports a b x (numbers 4 symbols)));
      answer = told answer v.gives;
    } in
    cond (short answer) (record { returned = 1; symbols = symbols; changes = changes; answer = answer }) (cond (eqb v.number 0) done refused)
