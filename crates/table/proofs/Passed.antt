-- A fine answer: exactly when none of the seven rows holds; and what the later stages take from it. Assumes nothing.
use mathlib.Core.Path.{◌≡◌, refl}
use mathlib.Core.Bool.{Bool, true, false, cond}
use mathlib.Core.List.{List, [], ◌∷◌, map}
use Prim.Native.Nat.{ℕ, ◌+◌, ◌-◌, ◌*◌, ◌^◌, ◌≤◌, ◌<◌}
use native.Mathlib.Omega.{arith}
use lib.ListN.{length}
use borrow.Author.Tests.{ltb-false, leb-false, eqb-true}
use Rattle.runs.specs.Parts.{part}
use Rattle.runs.proofs.Parts.{part-short}
use Rattle.numbers.specs.Little.{numbers}
use Rattle.rfc3629.proofs.Texts.{seeded_few}
use Rattle.rule.specs.Shapes.{rise_to, parts, parts_by, first}
use Rattle.rule.specs.Table.{Task, Rooms, word_count, frequencies, A, U, chars, units, units_of, word_units, total, weighed, room_for, work_needed}
use Rattle.rule.specs.Refusals as row
use Rattle.rule.specs.Refusals.{no_frequency, zero_frequency, misplaced, too_heavy, work_room}
use Rattle.error.specs.declared.TrainError.{TrainError}
use Rattle.error.specs.declared.TrainError.TheVariants.{BadShape, TooMany, EmptyCorpus, ZeroFrequency, OutOfOrder, TooHeavy, WorkRoom}
use Rattle.vocab.specs.Places.{numbers_from}
use Rattle.vocab.proofs.Shaped.{risen_cons}
use Rattle.std.specs.Prelude.{Result, Ok, Err}
use Rattle.table.specs.Weighing.{unit_count}
use Rattle.table.specs.Answers.{words_answer, table_answer, task_answer}
use Rattle.table.proofs.Rows.{Sound, sound, Limits, limits}
use Rattle.table.proofs.Order.{shaped-first}

-- SEVEN TESTS IN TURN come to `Ok` exactly when none holds

not_refused : (e : TrainError) (u : ℕ) → Err e ≡ Ok u → ⊥
not_refused e u h = let z : ◌≡◌ {A = ℕ} 0 1 = cc in omega arith

-- a row that was passed, and the answer after it
skip : (b : Bool) (e : TrainError) (y : Result ℕ TrainError) (u : ℕ) → cond b (Err e) y ≡ Ok u → (b ≡ false) × (y ≡ Ok u)
skip true e y u h = absurd (not_refused e u h)
skip false e y u h = (refl, h)

same-units : (m u : ℕ) → ◌≡◌ {A = Result ℕ TrainError} (Ok m) (Ok u) → u ≡ m
same-units m u h = cc

-- UNITS ARE NO MORE THAN BYTES

units_bound : (seeding : ℕ) (ws : List ℕ) (n from : ℕ) (es : List ℕ) → rise_to n from es ≡ true → total (map length (map (units seeding) (parts ws from es))) + from ≤ n
unfolding parts total rise_to units
units_bound seeding ws n from [] h = omega (arith, eqb-true from n h)
units_bound seeding ws n from (e ∷ es) h =
    let k = risen_cons n from e es h in
    omega (arith, k.0, units_bound seeding ws n e es k.1, seeded_few (chars seeding) (part from (e - from) ws), part-short from (e - from) ws)

module _ (t : Task) (r : Rooms) where
  -- a task's answer is that of its runs and settings
  pub task_answer_lem : task_answer t r
      ≡ table_answer t.word_bytes t.word_ends t.frequency_bytes t.alphabet_bytes t.alphabet_ends t.prefix t.suffix t.seeding t.vocab_size (length r.work)
  unfolding task_answer
  task_answer_lem = refl

  -- none of the seven rows holds, and u is U
  pub record Passed (u : ℕ) : Type 0 where
    pub shape : (row.BadShape).holds t r ≡ false
    pub many : (row.TooMany).holds t r ≡ false
    pub corpus : (row.EmptyCorpus).holds t r ≡ false
    pub frequency : (row.ZeroFrequency).holds t r ≡ false
    pub order : (row.OutOfOrder).holds t r ≡ false
    pub weight : (row.TooHeavy).holds t r ≡ false
    pub work : (row.WorkRoom).holds t r ≡ false
    pub units_are : u ≡ U t

  pub fine_when : (u : ℕ) → task_answer t r ≡ Ok u → Passed u
  unfolding task_answer table_answer words_answer word_count A work_needed U word_units unit_count
  fine_when u h =
      let h₁ = skip ((row.BadShape).holds t r) BadShape _ u h in
      let h₂ = skip ((row.TooMany).holds t r) TooMany _ u h₁.1 in
      let h₃ = skip ((row.EmptyCorpus).holds t r) EmptyCorpus _ u h₂.1 in
      let h₄ = skip ((row.ZeroFrequency).holds t r) (ZeroFrequency (first (no_frequency t.frequency_bytes))) _ u h₃.1 in
      let h₅ = skip ((row.OutOfOrder).holds t r) (OutOfOrder (first (misplaced t.word_bytes t.word_ends))) _ u h₄.1 in
      let h₆ = skip ((row.TooHeavy).holds t r) TooHeavy _ u h₅.1 in
      let h₇ = skip ((row.WorkRoom).holds t r) (WorkRoom (work_needed t)) _ u h₆.1 in
      record {
        shape = h₁.0;
        many = h₂.0;
        corpus = h₃.0;
        frequency = h₄.0;
        order = h₅.0;
        weight = h₆.0;
        work = h₇.0;
        units_are = same-units (U t) u h₇.1;
      }

  pub fine_only : (u : ℕ) → Passed u → task_answer t r ≡ Ok u
  unfolding task_answer table_answer words_answer word_count A work_needed U word_units unit_count
  fine_only u p = rw (p.shape, p.many, p.corpus, p.frequency, p.order, p.weight, p.work, p.units_are)

  -- WHAT A TABLE THAT PASSED HAS
  module _ (u : ℕ) (p : Passed u) where
    pub passed_sound : Sound t.word_bytes t.word_ends t.frequency_bytes t.alphabet_bytes t.alphabet_ends t.seeding
    passed_sound = sound _ _ _ _ _ _ _ refl p.shape

    pub passed_limits : Limits (word_count t) t.vocab_size (length t.word_bytes) (A t) (length t.alphabet_bytes) (length t.prefix) (length t.suffix)
    passed_limits = limits _ _ _ _ _ _ _ _ refl p.many

    pub passed_frequency : zero_frequency t.frequency_bytes ≡ false
    passed_frequency = p.frequency

    pub passed_light : weighed (frequencies t) (word_units t) < 2 ^ 53
    unfolding too_heavy frequencies word_units
    passed_light = leb-false _ _ p.weight

    -- the units are no more than the word bytes
    pub passed_few : u ≤ length t.word_bytes
    unfolding U word_units units_of parts_by numbers_from
    passed_few = omega (arith, p.units_are, units_bound t.seeding t.word_bytes (length t.word_bytes) 0 (numbers 4 t.word_ends) (shaped-first t.word_bytes t.word_ends passed_sound.words-shaped))

    -- the work room has 512 bytes for each unit and symbol, and 32,768 more
    pub passed_room : 512 * (u + A t) + 32768 ≤ length r.work
    unfolding work_room work_needed room_for
    passed_room = omega (arith, p.units_are, ltb-false (length r.work) (work_needed t) p.work)
