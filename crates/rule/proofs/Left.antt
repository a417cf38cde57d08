-- What training leaves in the lent runs, for every input.
use mathlib.Core.Path.{◌≡◌, refl, ap}
use mathlib.Core.Bool.{Bool, true, false}
use mathlib.Core.List.{List}
use mathlib.Core.Logic.{◌≢◌}
use Prim.Native.Nat.{ℕ, ◌-◌, ◌≤◌, ◌<◌}
use native.Mathlib.Omega.{arith}
use lib.Dec.{eqb, leb}
use lib.ListN.{length, take, drop}
use lib.Seq.{take-append_seam}
use borrow.Author.Tests.{ltb-false, leb-true, eq-eqb, le-leb, lt-leb, lt-ltb, le-ltb, ne_eqb, eqb-true, eqb-false}
use Rattle.runs.specs.Parts.{zeros}
use Rattle.rule.specs.Shapes.{spell_all, filled}
use Rattle.rule.specs.Table.{Task, Rooms}
use Rattle.rule.specs.Training.{trained, all_pieces}
use Rattle.rule.specs.Layout.{piece_bytes, piece_records, merge_bytes, saving_bytes}
use Rattle.rule.specs.Refusals.{verdict, output_room, OutputRoom}
use Rattle.rule.specs.Outcome.{clears, told, wiped, Outcome, train_outcome, rooms_after, written, refused_with, cleared, untouched}
use Rattle.runs.proofs.Parts.{below_or_not}
use Rattle.rule.proofs.Places.{none}
use Rattle.rule.proofs.Lengths.{length-wiped, length-filled, filled-rest, length-told}
use Rattle.rule.proofs.Judged.{few, accepts}

-- every run but the answer is as it was
pub record AsBefore (r o : Rooms) : Type 0 where
  pub work : o.work ≡ r.work
  pub pieces : o.pieces ≡ r.pieces
  pub piece_ends : o.piece_ends ≡ r.piece_ends
  pub merges : o.merges ≡ r.merges
  pub savings : o.savings ≡ r.savings

-- every run but the answer is 0
pub record AllZero (r o : Rooms) : Type 0 where
  pub work : o.work ≡ zeros (length r.work)
  pub pieces : o.pieces ≡ zeros (length r.pieces)
  pub piece_ends : o.piece_ends ≡ zeros (length r.piece_ends)
  pub merges : o.merges ≡ zeros (length r.merges)
  pub savings : o.savings ≡ zeros (length r.savings)

-- a run that was as long as `run` begins with some bytes, and behind them it is 0
pub record Holds (run new now : List ℕ) : Type 0 where
  pub front : take (length new) now ≡ new
  pub rest : drop (length new) now ≡ zeros (length run - length new)

-- the full answer stands in the output rooms, with zeros behind it, and the work room is 0
pub record FullAnswer (t : Task) (r o : Rooms) : Type 0 where
  pub work : o.work ≡ zeros (length r.work)
  pub pieces : Holds r.pieces (piece_bytes (all_pieces t)) o.pieces
  pub piece_ends : Holds r.piece_ends (piece_records (all_pieces t)) o.piece_ends
  pub merges : Holds r.merges (merge_bytes (trained t)) o.merges
  pub savings : Holds r.savings (saving_bytes (trained t)) o.savings

-- all runs are as long as before
pub record SameLengths (r o : Rooms) : Type 0 where
  pub work : length o.work ≡ length r.work
  pub pieces : length o.pieces ≡ length r.pieces
  pub piece_ends : length o.piece_ends ≡ length r.piece_ends
  pub merges : length o.merges ≡ length r.merges
  pub savings : length o.savings ≡ length r.savings
  pub answer : length o.answer ≡ length r.answer

pub filled-holds : (run new : List ℕ) → Holds run new (filled run new)
unfolding filled
filled-holds run new = record { front = take-append_seam new (zeros (length run - length new)); rest = filled-rest run new }

module _ (t : Task) (r : Rooms) where
  -- A SHORT ANSWER RUN: 1, and all is as it was
  pub short_answer : length r.answer < 64 → train_outcome t r ≡ record { returned = 1; rooms = r }
  unfolding train_outcome
  short_answer h = rw (lt-ltb (length r.answer) 64 h)

  module _ (long : 64 ≤ length r.answer) where
    outcome_long : train_outcome t r ≡ record { returned = (verdict t r).number; rooms = rooms_after t r (verdict t r) }
    unfolding train_outcome
    outcome_long = rw (le-ltb (length r.answer) 64 long)

    -- WHAT IS RETURNED is the verdict's number
    pub returns : (train_outcome t r).returned ≡ (verdict t r).number
    returns = ap (λ (o : Outcome). o.returned) outcome_long

    -- the rooms, by the verdict's number
    pub rooms-cleared : 8 ≤ (verdict t r).number → (verdict t r).number ≤ 10 → (train_outcome t r).rooms ≡ cleared r (verdict t r).gives
    unfolding rooms_after
    rooms-cleared a b =
        rw (outcome_long, ne_eqb (verdict t r).number 0 (omega arith), le-leb 8 (verdict t r).number a, le-leb (verdict t r).number 10 b)

    rooms_untouched : (verdict t r).number ≢ 0 → clears (verdict t r).number ≡ false → (train_outcome t r).rooms ≡ untouched r (verdict t r).gives
    unfolding rooms_after
    rooms_untouched a b = rw (outcome_long, ne_eqb (verdict t r).number 0 a, b)

    pub rooms-kept : 1 ≤ (verdict t r).number → (verdict t r).number ≤ 7 → (train_outcome t r).rooms ≡ untouched r (verdict t r).gives
    rooms-kept a b = rooms_untouched (omega arith) (rw (lt-leb 8 (verdict t r).number (omega arith)))

    pub rooms-written : (verdict t r).number ≡ 0 → (train_outcome t r).rooms ≡ written t r (verdict t r).gives
    unfolding rooms_after
    rooms-written z = rw (outcome_long, eq-eqb (verdict t r).number 0 z)

    -- 1 TO 7 WRITE NOTHING
    pub writes_nothing : 1 ≤ (verdict t r).number → (verdict t r).number ≤ 7 → AsBefore r (train_outcome t r).rooms
    unfolding untouched refused_with
    writes_nothing a b = rw (rooms-kept a b) (record { work = refl; pieces = refl; piece_ends = refl; merges = refl; savings = refl })

    -- 8 TO 10 LEAVE ZEROS
    pub sets_to_zero : 8 ≤ (verdict t r).number → (verdict t r).number ≤ 10 → AllZero r (train_outcome t r).rooms
    unfolding cleared refused_with wiped
    sets_to_zero a b = rw (rooms-cleared a b) (record { work = refl; pieces = refl; piece_ends = refl; merges = refl; savings = refl })

    -- SUCCESS LEAVES THE FULL ANSWER, and zeros everywhere else
    pub writes_answer : (verdict t r).number ≡ 0 → FullAnswer t r (train_outcome t r).rooms
    unfolding written wiped
    writes_answer z = rw (rooms-written z) (record {
      work = refl;
      pieces = filled-holds _ _;
      piece_ends = filled-holds _ _;
      merges = filled-holds _ _;
      savings = filled-holds _ _;
    })

  -- the answer fits where 10 does not hold
  pub record Fits : Type 0 where
    pub ends : length (piece_records (all_pieces t)) ≤ length r.piece_ends
    pub bytes : length (piece_bytes (all_pieces t)) ≤ length r.pieces
    pub merges : length (merge_bytes (trained t)) ≤ length r.merges
    pub savings : length (saving_bytes (trained t)) ≤ length r.savings
    pub small : length (piece_bytes (all_pieces t)) ≤ 4294967295

  pub fits : OutputRoom.holds t r ≡ false → Fits
  unfolding output_room
  fits e =
      let n = none _ e in
      record {
        ends = ltb-false _ _ n.0;
        bytes = ltb-false _ _ n.1.0;
        merges = ltb-false _ _ n.1.1.0;
        savings = ltb-false _ _ n.1.1.1.0;
        small = ltb-false _ _ n.1.1.1.1.0;
      }

  module _ (long : 64 ≤ length r.answer) (ns : List ℕ) (h : length ns ≤ 3) where
    untouched_lengths : SameLengths r (untouched r ns)
    unfolding untouched refused_with
    untouched_lengths = record { work = refl; pieces = refl; piece_ends = refl; merges = refl; savings = refl; answer = length-told r.answer ns long h }

    cleared_lengths : SameLengths r (cleared r ns)
    unfolding cleared refused_with
    cleared_lengths = record {
      work = length-wiped _;
      pieces = length-wiped _;
      piece_ends = length-wiped _;
      merges = length-wiped _;
      savings = length-wiped _;
      answer = length-told r.answer ns long h;
    }

    written_lengths : Fits → SameLengths r (written t r ns)
    unfolding written
    written_lengths f = record {
      work = length-wiped _;
      pieces = length-filled _ _ f.bytes;
      piece_ends = length-filled _ _ f.ends;
      merges = length-filled _ _ f.merges;
      savings = length-filled _ _ f.savings;
      answer = length-told r.answer ns long h;
    }

  -- which case it is: a short answer run, success, 8 to 10, or another refusal
  pub data Case : Type 0 where
    is_short : length r.answer < 64 → Case
    succeeds : 64 ≤ length r.answer → (verdict t r).number ≡ 0 → Case
    clearing : 64 ≤ length r.answer → (train_outcome t r).rooms ≡ cleared r (verdict t r).gives → Case
    keeping : 64 ≤ length r.answer → (train_outcome t r).rooms ≡ untouched r (verdict t r).gives → Case

  pub case : Case
  case =
      below_or_not (length r.answer) 64 is_short
      (λ long. by long (eqb (verdict t r).number 0) (leb 8 (verdict t r).number) (leb (verdict t r).number 10) refl refl refl)
    where
      by : (long : 64 ≤ length r.answer) (a b c : Bool) → eqb (verdict t r).number 0 ≡ a → leb 8 (verdict t r).number ≡ b → leb (verdict t r).number 10 ≡ c → Case
      by long true b c p q s = succeeds long (eqb-true _ _ p)
      by long false true true p q s = clearing long (rooms-cleared long (leb-true _ _ q) (leb-true _ _ s))
      by long false true false p q s = keeping long (rooms_untouched long (eqb-false _ _ p) (rw (q, s)))
      by long false false c p q s = keeping long (rooms_untouched long (eqb-false _ _ p) (rw q))

  -- EVERY RUN KEEPS ITS LENGTH, whatever came in
  pub lengths_stay : SameLengths r (train_outcome t r).rooms
  lengths_stay = go case
    where
      go : Case → SameLengths r (train_outcome t r).rooms
      go (is_short h) = rw (short_answer h) (record { work = refl; pieces = refl; piece_ends = refl; merges = refl; savings = refl; answer = refl })
      go (succeeds long z) = rw (rooms-written long z) (written_lengths long _ (few t r) (fits (accepts t r z).0.output))
      go (clearing long e) = rw e (cleared_lengths long _ (few t r))
      go (keeping long e) = rw e (untouched_lengths long _ (few t r))

  -- THE ANSWER RUN holds the numbers given, 8 bytes each, and behind them 0
  pub answer_told : 64 ≤ length r.answer → Holds r.answer (spell_all 8 (verdict t r).gives) (train_outcome t r).rooms.answer
  unfolding told written cleared untouched refused_with
  answer_told long = go case
    where
      told_holds : {o : Rooms} → (train_outcome t r).rooms ≡ o → o.answer ≡ filled r.answer (spell_all 8 (verdict t r).gives)
          → Holds r.answer (spell_all 8 (verdict t r).gives) (train_outcome t r).rooms.answer
      told_holds e f = rw (e, f) (filled-holds r.answer (spell_all 8 (verdict t r).gives))

      go : Case → Holds r.answer (spell_all 8 (verdict t r).gives) (train_outcome t r).rooms.answer
      go (is_short h) = absurd (omega arith)
      go (succeeds l z) = told_holds (rooms-written l z) refl
      go (clearing l e) = told_holds e refl
      go (keeping l e) = told_holds e refl
