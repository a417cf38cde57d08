-- All rows: what the table's judgement leaves to training, and the contract of training. Assumes nothing.
use mathlib.Core.Path.{◌≡◌, refl, sym, ◌∙◌}
use mathlib.Core.Bool.{Bool, true, false, cond}
use mathlib.Core.List.{List}
use Prim.Native.Nat.{ℕ, ◌/◌}
use native.Mathlib.Omega.{arith}
use lib.ListN.{length}
use Rattle.rule.specs.Shapes.{first}
use Rattle.rule.specs.Table.{Rooms, room_for, Task}
use Rattle.rule.specs.Refusals.{bad_shape, too_many, empty_corpus, no_frequency, zero_frequency, misplaced, out_of_order, too_heavy, work_room}
use Rattle.rule.specs.Outcome.{clears}
use Rattle.error.specs.Answers.{train_verdict}
use Rattle.error.specs.declared.TrainError.{TrainError}
use Rattle.error.specs.declared.TrainError.TheVariants as why
use Rattle.table.specs.Weighing.{unit_count}
use Rattle.table.specs.Answers.{words_answer, table_answer, task_answer}
use Rattle.table.proofs.Answers.{refused_verdict, fine_verdict}
use Rattle.table.proofs.Passed.{task_answer_lem, Passed, fine_when, passed_sound, passed_limits, passed_light, passed_frequency, passed_few, passed_room}
use Rattle.trainer.specs.Train.{task_of, rooms_of, answered, CanTrain, RoomsDone, TrainDone}
use Rattle.std.specs.Prelude.{Result, Ok, Err}
use Rattle.trainer.specs.declared.Trained.{Trained}
use Rattle.trainer.proofs.Rooms.{refused_some, left_untouched}

-- the rows before the eighth leave the rooms alone
unfoldable Early : Result ℕ TrainError → Type 0
Early (Ok u) = Unit {0}
Early (Err e) = clears (train_verdict e).number ≡ false

seven : (a b c d e f g : Bool) (i j k u : ℕ)
    → Early (cond a (Err why.BadShape) (cond b (Err why.TooMany) (cond c (Err why.EmptyCorpus) (cond d (Err (why.ZeroFrequency i))
    (cond e (Err (why.OutOfOrder j)) (cond f (Err why.TooHeavy) (cond g (Err (why.WorkRoom k)) (Ok u))))))))
unfolding Early train_verdict
seven true b c d e f g i j k u = refl
seven false true c d e f g i j k u = refl
seven false false true d e f g i j k u = refl
seven false false false true e f g i j k u = refl
seven false false false false true f g i j k u = refl
seven false false false false false true g i j k u = refl
seven false false false false false false true i j k u = refl
seven false false false false false false false i j k u = tt

early : (ws es fs al ae pre suf : List ℕ) (seeding size room : ℕ) → Early (table_answer ws es fs al ae pre suf seeding size room)
unfolding table_answer words_answer
early ws es fs al ae pre suf seeding size room =
    seven (bad_shape ws es fs al ae seeding) (too_many (length es / 4) size (length ws) (length ae / 4) (length al) (length pre) (length suf)) (empty_corpus (length es / 4)) (zero_frequency fs)
    (out_of_order ws es) (too_heavy ws es fs seeding) (work_room room (room_for (unit_count seeding ws es) (length ae / 4))) (first (no_frequency fs)) (first (misplaced ws es))
    (room_for (unit_count seeding ws es) (length ae / 4)) (unit_count seeding ws es)

module _ (ws es fs al ae p s : List ℕ) (seeding size least limit : ℕ) (work xs ys ms ss : List ℕ) (j : Result ℕ TrainError) (n : ℕ) (e : n ≡ length work)
    (a : j ≡ table_answer ws es fs al ae p s seeding size n) where
  abbrev t : Task
  t = task_of ws es fs al ae p s seeding size least limit

  abbrev was : Rooms
  was = rooms_of work xs ys ms ss

  told : task_answer t was ≡ j
  told = task_answer_lem t was ∙ sym (rw e at a)

  -- REFUSED by one of the first seven rows
  pub train_refused : (r : TrainError) → j ≡ Err r
      → TrainDone (Err r) t was was
  unfolding answered Early
  train_refused r q =
      let v = refused_verdict t was r (told ∙ q) in
      let k = go (table_answer ws es fs al ae p s seeding size n) (sym a ∙ q) (early ws es fs al ae p s seeding size n) in
      record {
        answer = sym v;
        rooms = rw v (left_untouched t was (train_verdict r) k (refused_some r));
      }
    where
      go : (x : Result ℕ TrainError) → x ≡ Err r → Early x → clears (train_verdict r).number ≡ false
      go x i h = rw i at h

  -- PASSED
  module _ (u : ℕ) (q : j ≡ Ok u) where
    passed : Passed t was u
    passed = fine_when t was u (told ∙ q)

    pub train_can : CanTrain t u work
    unfolding room_for
    train_can =
        let so = passed_sound t was u passed in
        let li = passed_limits t was u passed in
        record {
          seeds = record {
            words-shaped = so.words-shaped;
            symbols_shaped = so.symbols_shaped;
            counts = so.counts;
            bytes_few = li.bytes_few;
            symbols_few = li.symbols_few;
            symbol_bytes_few = li.symbol_bytes_few;
            prefix_short = li.prefix_short;
            suffix_short = li.suffix_short;
            units_are = passed.units_are;
            units_few = omega (arith, passed_few t was u passed, li.bytes_few);
            room = passed_room t was u passed;
          };
          size = li.size_low;
          light = passed_light t was u passed;
          frequent = passed_frequency t was u passed;
        }

    pub train_done : (r : Result Trained TrainError) (now : Rooms) → RoomsDone r t was now
        → TrainDone r t was now
    train_done r now d =
        let v = fine_verdict t was u (told ∙ q) in
        record { answer = d.answer ∙ sym v; rooms = rw v d.rooms }
