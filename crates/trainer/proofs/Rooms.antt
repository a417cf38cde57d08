-- What is in the rooms after an answer: front and zeros, or zeros. Assumes nothing.
use mathlib.Core.Path.{◌≡◌, refl, sym, ap, ◌∙◌}
use mathlib.Core.Bool.{true, false}
use mathlib.Core.List.{List, [], ◌∷◌}
use Prim.Native.Nat.{ℕ, ◌+◌, ◌-◌, ◌≤◌}
use native.Mathlib.Omega.{arith}
use lib.Dec.{eqb}
use lib.ListN.{length, drop}
use lib.Seq.{drop_at}
use Rattle.runs.specs.Parts.{laid, zeros}
use Rattle.runs.proofs.Parts.{length-zeros, zeros-append, laid_all}
use Rattle.rule.specs.Shapes.{filled}
use Rattle.rule.specs.Table.{Task, Rooms}
use Rattle.rule.specs.Training.{trained, all_pieces}
use Rattle.rule.specs.Layout.{piece_bytes, piece_records, merge_bytes, saving_bytes}
use Rattle.rule.specs.Refusals.{Verdict, says, judge, seed_room, output_room}
use Rattle.rule.specs.Outcome.{wiped, written, cleared, untouched, refused_with, clears, rooms_after}
use Rattle.rule.proofs.Lengths.{length-wiped}
use Rattle.error.specs.Answers.{train_verdict}
use Rattle.error.specs.declared.TrainError.{TrainError}
use Rattle.error.specs.declared.TrainError.TheVariants as why
use Rattle.table.specs.Answers.{later_rows}
use Rattle.trainer.specs.Train.{answered, TableDone, Left, RoomsDone}
use Rattle.std.specs.Prelude.{Result, Ok, Err, is_err}
use Rattle.trainer.specs.declared.Trained.{Trained}

-- what is written over the front of a run set to 0
pub laid-filled : (run new : List ℕ) → length new ≤ length run → laid (zeros (length run)) 0 new ≡ filled run new
unfolding laid filled
laid-filled run new h =
    let m : length run ≡ length new + (length run - length new) = omega arith in
    let z : 0 + length new ≡ length new = omega arith in
    let d : drop (length new) (zeros (length run)) ≡ zeros (length run - length new) =
    ap (λ (n : ℕ). drop (length new) (zeros n)) m
    ∙ ap (λ (l : List ℕ). drop (length new) l) (sym (zeros-append (length new) (length run - length new)))
    ∙ drop_at (zeros (length new)) (zeros (length run - length new)) (length new) (length-zeros (length new)) in
    rw (z, d)

pub wiped_is : (run out : List ℕ) → out ≡ laid run 0 (zeros (length run)) → out ≡ wiped run
unfolding wiped
wiped_is run out e = e ∙ laid_all run

-- it is the length alone that counts
pub wiped-length : (run out : List ℕ) → length run ≡ length out → wiped run ≡ wiped out
unfolding wiped
wiped-length run out e = rw e

-- rows 8 to 10 ask for the lengths of the output rooms alone
later_lengths : (t : Task) (r q : Rooms) → length r.pieces ≡ length q.pieces → length r.piece_ends ≡ length q.piece_ends → length r.merges ≡ length q.merges
    → length r.savings ≡ length q.savings → judge later_rows t r ≡ judge later_rows t q
unfolding judge seed_room output_room
later_lengths t r q a b c d = rw (a, b, c, d)

-- no refusal has the number 0
pub refused_some : (e : TrainError) → eqb (train_verdict e).number 0 ≡ false
unfolding train_verdict
refused_some why.BadShape = refl
refused_some why.TooMany = refl
refused_some why.EmptyCorpus = refl
refused_some (why.ZeroFrequency i) = refl
refused_some (why.OutOfOrder i) = refl
refused_some why.TooHeavy = refl
refused_some (why.WorkRoom i) = refl
refused_some why.SeedRoom = refl
refused_some (why.VocabTooSmall i j) = refl
refused_some why.OutputRoom = refl

-- WHAT EACH KIND OF VERDICT LEAVES

pub left_written : (t : Task) (was now : Rooms) (ns : List ℕ) → now.work ≡ wiped was.work → now.pieces ≡ filled was.pieces (piece_bytes (all_pieces t))
    → now.piece_ends ≡ filled was.piece_ends (piece_records (all_pieces t)) → now.merges ≡ filled was.merges (merge_bytes (trained t))
    → now.savings ≡ filled was.savings (saving_bytes (trained t)) → Left t (says 0 ns) was now
unfolding rooms_after written
left_written t was now ns a b c d e = record { work = a; pieces = b; ends = c; merges = d; savings = e }

pub left_cleared : (t : Task) (was now : Rooms) (v : Verdict) → clears v.number ≡ true → eqb v.number 0 ≡ false → now.work ≡ wiped was.work → now.pieces ≡ wiped was.pieces
    → now.piece_ends ≡ wiped was.piece_ends → now.merges ≡ wiped was.merges → now.savings ≡ wiped was.savings → Left t v was now
unfolding rooms_after cleared refused_with
left_cleared t was now v h z a b c d e = record { work = rw (z, h) a; pieces = rw (z, h) b; ends = rw (z, h) c; merges = rw (z, h) d; savings = rw (z, h) e }

pub left_untouched : (t : Task) (was : Rooms) (v : Verdict) → clears v.number ≡ false → eqb v.number 0 ≡ false → Left t v was was
unfolding rooms_after untouched refused_with
left_untouched t was v h z = record { work = rw (z, h); pieces = rw (z, h); ends = rw (z, h); merges = rw (z, h); savings = rw (z, h) }

-- a run that was set to 0 and then written at its front
front_filled : (run new mid end : List ℕ) → mid ≡ wiped run → end ≡ laid mid 0 new → length new ≤ length mid → end ≡ filled run new
unfolding wiped
front_filled run new mid end a b c = b ∙ ap (λ (l : List ℕ). laid l 0 new) a ∙ laid-filled run new (omega (arith, ap length a, length-zeros (length run)))

-- THE ROOMS OF TRAINING. The output rooms were set to 0 first (`mid`), then written (`end`), and the work room is set to 0 last
module _ (t : Task) (was mid end : Rooms)
    (ep : mid.pieces ≡ wiped was.pieces) (ee : mid.piece_ends ≡ wiped was.piece_ends) (em : mid.merges ≡ wiped was.merges) (es : mid.savings ≡ wiped was.savings) where
  same : judge later_rows t mid ≡ judge later_rows t was
  same =
      later_lengths t mid was (ap length ep ∙ length-wiped was.pieces) (ap length ee ∙ length-wiped was.piece_ends) (ap length em ∙ length-wiped was.merges)
      (ap length es ∙ length-wiped was.savings)

  module _ (r : Result Trained TrainError) (d : TableDone r t mid end) (work : List ℕ) (ew : work ≡ wiped was.work) where
    -- the answer stands, in rooms that are left as they are
    pub rooms_done : (q : is_err r ≡ false) → RoomsDone r t was (record end { work = work })
    unfolding TableDone answered
    rooms_done q = go r d q
      where
        go : (x : Result Trained TrainError) → TableDone x t mid end → is_err x ≡ false → RoomsDone x t was (record end { work = work })
        go (Ok y) h z =
            let v = h.0 ∙ same in
            let f = h.1 in
            record {
              answer = v;
              rooms = rw (← v)
                  (left_written t was (record end { work = work }) (y.pieces ∷ y.alphabet ∷ y.merges ∷ []) ew
                  (front_filled was.pieces (piece_bytes (all_pieces t)) mid.pieces end.pieces ep f.pieces f.bytes_fit)
                  (front_filled was.piece_ends (piece_records (all_pieces t)) mid.piece_ends end.piece_ends ee f.ends f.ends_fit)
                  (front_filled was.merges (merge_bytes (trained t)) mid.merges end.merges em f.merges f.merges_fit)
                  (front_filled was.savings (saving_bytes (trained t)) mid.savings end.savings es f.savings f.savings_fit));
            }
        go (Err e) h z = absurd (cc)

    -- a refusal, in output rooms that are set to 0 again
    pub rooms-out : (q : is_err r ≡ true) (now : Rooms) → now.work ≡ work → now.pieces ≡ wiped was.pieces
        → now.piece_ends ≡ wiped was.piece_ends → now.merges ≡ wiped was.merges → now.savings ≡ wiped was.savings → RoomsDone r t was now
    unfolding TableDone answered
    rooms-out q now e0 e1 e2 e3 e4 = go r d q
      where
        go : (x : Result Trained TrainError) → TableDone x t mid end → is_err x ≡ true → RoomsDone x t was now
        go (Ok y) h z = absurd (cc)
        go (Err e) h z =
            let v = h.0 ∙ same in
            record { answer = v; rooms = rw (← v) (left_cleared t was now (train_verdict e) h.1 (refused_some e) (e0 ∙ ew) e1 e2 e3 e4) }
