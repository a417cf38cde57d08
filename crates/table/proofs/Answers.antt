-- The answer of the first seven rows: each by the tests that lead to it, and that it is the verdict of the rule. Assumes nothing.
use mathlib.Core.Path.{◌≡◌, refl, sym, ap, ◌∙◌}
use mathlib.Core.Bool.{Bool, true, false, cond}
use mathlib.Core.List.{List, [], ◌∷◌, ◌++◌}
use Prim.Native.Nat.{ℕ, ◌/◌, ◌^◌, ◌≤◌, ◌<◌}
use native.Mathlib.Omega.{arith}
use lib.Dec.{leb}
use lib.ListN.{length}
use borrow.Author.Tests.{lt-ltb, le-ltb, le-leb, lt-leb, eq-eqb, ne_eqb}
use Rattle.std.specs.Prelude.{Some, None, Result, Ok, Err}
use Rattle.runs.proofs.Parts.{below_or_not}
use Rattle.numbers.specs.Little.{numbers}
use Rattle.rule.specs.Shapes.{first, some?}
use Rattle.rule.specs.Table.{Task, Rooms, word_count, A, U, word_units, units_of, weighed, room_for, work_needed}
use Rattle.rule.specs.Refusals as row
use Rattle.rule.specs.Refusals.{Refusal, Verdict, says, success, judge, verdict, bad_shape, too_many, empty_corpus, no_frequency, zero_frequency, not_above, misplaced, out_of_order, too_heavy, work_room}
use Rattle.error.specs.declared.TrainError.{TrainError}
use Rattle.error.specs.declared.TrainError.TheVariants.{BadShape, TooMany, EmptyCorpus, ZeroFrequency, OutOfOrder, TooHeavy, WorkRoom, SeedRoom, VocabTooSmall, OutputRoom}
use Rattle.error.specs.Answers.{train_verdict}
use Rattle.error.proofs.Answers.{train_one_to_one}
use Rattle.table.specs.Weighing.{unit_count, capped, IsWeighed}
use Rattle.table.specs.Answers.{first_place, words_answer, table_answer, task_answer, first_rows, later_rows, answer_verdict}
use Rattle.table.proofs.Weighing.{capped_low, capped_high}

-- A PLACE that is found is the first, of tests of which one holds

place_found : (bs : List Bool) (z : ℕ) → Some z ≡ first_place bs → (some? bs ≡ true) × (z ≡ first bs)
unfolding first_place
place_found bs z = go (some? bs)
  where
    go : (t : Bool) → Some z ≡ cond t (Some (first bs)) None → (t ≡ true) × (z ≡ first bs)
    go true e = (refl, cc)
    go false e = cc

place_absent : (bs : List Bool) → None ≡ first_place bs → some? bs ≡ false
unfolding first_place
place_absent bs = go (some? bs)
  where
    go : (t : Bool) → None ≡ cond t (Some (first bs)) None → t ≡ false
    go true e = cc
    go false e = refl

-- ROW 6 HOLDS where the weight that the code finds is not below a number

heavy_holds : (ws es fs : List ℕ) (seeding w : ℕ) → w ≡ capped (weighed (numbers 8 fs) (units_of seeding ws es)) → too_heavy ws es fs seeding ≡ leb (2 ^ 53) w
unfolding too_heavy
heavy_holds ws es fs seeding w = go (weighed (numbers 8 fs) (units_of seeding ws es))
  where
    go : (n : ℕ) → w ≡ capped n → leb (2 ^ 53) n ≡ leb (2 ^ 53) w
    go n q = below_or_not n (2 ^ 53)
        (λ h. ap (leb (2 ^ 53)) (sym (q ∙ capped_low n (omega arith))))
        (λ h. let k = q ∙ capped_high n h in le-leb (2 ^ 53) n h ∙ sym (le-leb (2 ^ 53) w (omega arith)))

-- THE ANSWER OF ROWS 3 TO 7, by what the code found

pub words_none : (ws es fs : List ℕ) (seeding symbols room : ℕ) → length es / 4 ≡ 0 → Err EmptyCorpus ≡ words_answer ws es fs seeding symbols room
unfolding words_answer empty_corpus
words_none ws es fs seeding symbols room h = rw (eq-eqb (length es / 4) 0 h)

module _ (ws es fs : List ℕ) (seeding symbols room : ℕ) (some : length es / 4 ≡ 0 → ⊥) where
  e₃ : empty_corpus (length es / 4) ≡ false
  unfolding empty_corpus
  e₃ = ne_eqb (length es / 4) 0 some

  pub words_zero : (z : ℕ) → Some z ≡ first_place (no_frequency fs) → Err (ZeroFrequency z) ≡ words_answer ws es fs seeding symbols room
  unfolding words_answer zero_frequency
  words_zero z e = let p = place_found (no_frequency fs) z e in rw (e₃, p.0, p.1)

  module _ (nz : None ≡ first_place (no_frequency fs)) where
    e₄ : zero_frequency fs ≡ false
    unfolding zero_frequency
    e₄ = place_absent (no_frequency fs) nz

    pub words_low : (k : ℕ) → Some k ≡ first_place (misplaced ws es) → Err (OutOfOrder k) ≡ words_answer ws es fs seeding symbols room
    unfolding words_answer out_of_order
    words_low k e = let p = place_found (misplaced ws es) k e in rw (e₃, e₄, p.0, p.1)

    module _ (nk : None ≡ first_place (misplaced ws es)) (w u : ℕ) (m : IsWeighed seeding ws es fs w u) where
      e₅ : out_of_order ws es ≡ false
      unfolding out_of_order
      e₅ = place_absent (misplaced ws es) nk

      pub words_heavy : 2 ^ 53 ≤ w → Err TooHeavy ≡ words_answer ws es fs seeding symbols room
      unfolding words_answer
      words_heavy h = rw (e₃, e₄, e₅, heavy_holds ws es fs seeding w m.weight_is ∙ le-leb (2 ^ 53) w h)

      module _ (nw : w < 2 ^ 53) (need : ℕ) (en : need ≡ room_for u symbols) where
        e₆ : too_heavy ws es fs seeding ≡ false
        e₆ = heavy_holds ws es fs seeding w m.weight_is ∙ lt-leb (2 ^ 53) w nw

        need_is : room_for (unit_count seeding ws es) symbols ≡ need
        need_is = rw (en, m.units_is)

        pub words_room : room < need → Err (WorkRoom need) ≡ words_answer ws es fs seeding symbols room
        unfolding words_answer work_room
        words_room h = rw (e₃, e₄, e₅, e₆, need_is, lt-ltb room need h)

        pub words_fine : need ≤ room → Ok u ≡ words_answer ws es fs seeding symbols room
        unfolding words_answer work_room
        words_fine h = rw (e₃, e₄, e₅, e₆, need_is, le-ltb room need h, m.units_is)

-- THE ANSWER OF ALL SEVEN

module _ (ws es fs al ae pre suf : List ℕ) (seeding size room : ℕ) (b : Bool) (eb : b ≡ bad_shape ws es fs al ae seeding) where
  pub table_shape : b ≡ true → Err BadShape ≡ table_answer ws es fs al ae pre suf seeding size room
  unfolding table_answer
  table_shape h = rw (sym eb ∙ h)

  module _ (nb : b ≡ false) (d : Bool) (ed : d ≡ too_many (length es / 4) size (length ws) (length ae / 4) (length al) (length pre) (length suf)) where
    pub table-many : d ≡ true → Err TooMany ≡ table_answer ws es fs al ae pre suf seeding size room
    unfolding table_answer
    table-many h = rw (sym eb ∙ nb, sym ed ∙ h)

    pub table-words : (j : Result ℕ TrainError) → d ≡ false → j ≡ words_answer ws es fs seeding (length ae / 4) room → j ≡ table_answer ws es fs al ae pre suf seeding size room
    unfolding table_answer
    table-words j nd e = rw (sym eb ∙ nb, sym ed ∙ nd) e

-- THE ANSWER IS THE VERDICT OF THE RULE

-- a refusal has a number, and success has none
numbered : (e : TrainError) → 0 < (train_verdict e).number
unfolding train_verdict
numbered BadShape = omega arith
numbered TooMany = omega arith
numbered EmptyCorpus = omega arith
numbered (ZeroFrequency word) = omega arith
numbered (OutOfOrder word) = omega arith
numbered TooHeavy = omega arith
numbered (WorkRoom needed) = omega arith
numbered SeedRoom = omega arith
numbered (VocabTooSmall requested alphabet) = omega arith
numbered OutputRoom = omega arith

-- seven tests in turn, as the rule judges them and as the answer has them
in_turn : (l : Verdict) (word place needed units : ℕ) (b₁ b₂ b₃ b₄ b₅ b₆ b₇ : Bool)
    → cond b₁ (says 1 []) (cond b₂ (says 2 []) (cond b₃ (says 3 []) (cond b₄ (says 4 (word ∷ [])) (cond b₅ (says 5 (place ∷ [])) (cond b₆ (says 6 []) (cond b₇ (says 7 (needed ∷ [])) l))))))
    ≡ answer_verdict
    (cond b₁ (Err BadShape) (cond b₂ (Err TooMany) (cond b₃ (Err EmptyCorpus) (cond b₄ (Err (ZeroFrequency word)) (cond b₅ (Err (OutOfOrder place)) (cond b₆ (Err TooHeavy)
    (cond b₇ (Err (WorkRoom needed)) (Ok units)))))))) l
unfolding answer_verdict train_verdict
in_turn l w k n u true b₂ b₃ b₄ b₅ b₆ b₇ = refl
in_turn l w k n u false true b₃ b₄ b₅ b₆ b₇ = refl
in_turn l w k n u false false true b₄ b₅ b₆ b₇ = refl
in_turn l w k n u false false false true b₅ b₆ b₇ = refl
in_turn l w k n u false false false false true b₆ b₇ = refl
in_turn l w k n u false false false false false true b₇ = refl
in_turn l w k n u false false false false false false true = refl
in_turn l w k n u false false false false false false false = refl

module _ (t : Task) (r : Rooms) where
  -- whatever rows come after the seventh
  seven_judged : (rows : List Refusal) → judge (first_rows ++ rows) t r ≡ answer_verdict (task_answer t r) (judge rows t r)
  unfolding judge task_answer table_answer words_answer word_count A work_needed U word_units unit_count
  seven_judged rows =
      in_turn (judge rows t r) (first (no_frequency t.frequency_bytes)) (first (misplaced t.word_bytes t.word_ends)) (work_needed t) (U t)
      ((row.BadShape).holds t r) ((row.TooMany).holds t r) ((row.EmptyCorpus).holds t r) ((row.ZeroFrequency).holds t r)
      ((row.OutOfOrder).holds t r) ((row.TooHeavy).holds t r) ((row.WorkRoom).holds t r)

  -- the verdict is the answer's, and where that is fine the judgement of rows 8 to 10
  pub answer_verdict_lem : verdict t r ≡ answer_verdict (task_answer t r) (judge later_rows t r)
  unfolding verdict
  answer_verdict_lem = seven_judged later_rows

  -- of the first seven rows alone
  pub answer_first : judge first_rows t r ≡ answer_verdict (task_answer t r) (success t)
  unfolding judge
  answer_first = seven_judged []

  pub refused_verdict : (e : TrainError) → task_answer t r ≡ Err e → verdict t r ≡ train_verdict e
  unfolding answer_verdict
  refused_verdict e h = answer_verdict_lem ∙ ap (λ (j : Result ℕ TrainError). answer_verdict j (judge later_rows t r)) h

  pub fine_verdict : (u : ℕ) → task_answer t r ≡ Ok u → verdict t r ≡ judge later_rows t r
  unfolding answer_verdict
  fine_verdict u h = answer_verdict_lem ∙ ap (λ (j : Result ℕ TrainError). answer_verdict j (judge later_rows t r)) h

  -- `Err e` exactly when the verdict of the first seven rows is that of e
  pub refused_when : (e : TrainError) → task_answer t r ≡ Err e → judge first_rows t r ≡ train_verdict e
  unfolding answer_verdict
  refused_when e h = answer_first ∙ ap (λ (j : Result ℕ TrainError). answer_verdict j (success t)) h

  pub refused_only : (e : TrainError) → judge first_rows t r ≡ train_verdict e → task_answer t r ≡ Err e
  unfolding answer_verdict success
  refused_only e h = go (task_answer t r) (sym answer_first ∙ h)
    where
      go : (j : Result ℕ TrainError) → answer_verdict j (success t) ≡ train_verdict e → j ≡ Err e
      go (Ok u) q = absurd (omega (arith, numbered e, ap (λ (v : Verdict). v.number) q))
      go (Err f) q = ap Err (train_one_to_one f e q)
