-- No two answers say the same, and every refusal of the rule is the verdict of an answer.
use mathlib.Core.Path.{◌≡◌, refl, sym, ap, ◌∙◌}
use mathlib.Core.Bool.{Bool, true, false, cond, ◌||◌, not}
use mathlib.Core.List.{List, [], ◌∷◌}
use mathlib.Core.Logic.{◌⊎◌, inl, inr}
use Prim.Native.Nat.{ℕ, ◌-◌, ◌*◌, ◌≤◌}
use native.Mathlib.Omega.{arith}
use lib.Dec.{ltb, leb}
use lib.ListN.{length, get_or}
use borrow.Author.Rules.{rules}
use Rattle.runs.specs.Parts.{nth}
use Rattle.runs.proofs.Parts.{nth_past}
use Rattle.numbers.specs.Little.{numbers}
use Rattle.rule.specs.Shapes.{wholes}
use Rattle.rule.specs.Refusals.{Refusal, refusals, Verdict, says, success, verdict}
use Rattle.rule.specs.Table.{Task, Rooms}
use Rattle.rule.specs.Layout.{piece_shape, piece_count, piece_start, piece_length}
use Rattle.rule.specs.Rewriting.{rewrite, rewrites, reports}
use Rattle.rule.specs.Outcome.{told, look_up, merge_verdict}
use Rattle.rule.proofs.Judged.{All, Judged, accepted, refused, passed, judged}
use Rattle.error.specs.declared.TrainError.{TrainError}
use Rattle.error.specs.declared.TrainError.TheVariants as train
use Rattle.error.specs.declared.PieceError.{PieceError}
use Rattle.error.specs.declared.PieceError.TheVariants as piece
use Rattle.error.specs.declared.MergeError.{MergeError}
use Rattle.error.specs.declared.MergeError.TheVariants as merge
use Rattle.error.specs.Answers.{train_verdict, piece_verdict, merge_error_verdict}
use Rattle.error.proofs.Told.{told_zero, told_three}

-- the answer of a verdict: the rows in their order, with what the verdict gives
answer_of : Verdict → TrainError
answer_of v =
    let g = v.gives in
    get_or (
    train.BadShape
    ∷ train.TooMany
    ∷ train.EmptyCorpus
    ∷ train.ZeroFrequency (nth g 0)
    ∷ train.OutOfOrder (nth g 0)
    ∷ train.TooHeavy
    ∷ train.WorkRoom (nth g 0)
    ∷ train.SeedRoom
    ∷ train.VocabTooSmall (nth g 0) (nth g 1)
    ∷ train.OutputRoom
    ∷ []) (v.number - 1) train.BadShape

answer_back : (e : TrainError) → answer_of (train_verdict e) ≡ e
unfolding answer_of train_verdict nth
answer_back train.BadShape = refl
answer_back train.TooMany = refl
answer_back train.EmptyCorpus = refl
answer_back (train.ZeroFrequency word) = refl
answer_back (train.OutOfOrder word) = refl
answer_back train.TooHeavy = refl
answer_back (train.WorkRoom needed) = refl
answer_back train.SeedRoom = refl
answer_back (train.VocabTooSmall requested alphabet) = refl
answer_back train.OutputRoom = refl

-- ONE TO ONE
pub train_one_to_one : (e f : TrainError) → train_verdict e ≡ train_verdict f → e ≡ f
train_one_to_one e f h = sym (answer_back e) ∙ ap answer_of h ∙ answer_back f

pub piece_one_to_one : (e f : PieceError) → piece_verdict e ≡ piece_verdict f → e ≡ f
unfolding piece_verdict
piece_one_to_one piece.BadShape piece.BadShape h = refl
piece_one_to_one piece.BadShape piece.NoSuchId h = absurd (omega (arith, ap (λ (v : Verdict). v.number) h))
piece_one_to_one piece.NoSuchId piece.BadShape h = absurd (omega (arith, ap (λ (v : Verdict). v.number) h))
piece_one_to_one piece.NoSuchId piece.NoSuchId h = refl

pub merge_one_to_one : (e f : MergeError) → merge_error_verdict e ≡ merge_error_verdict f → e ≡ f
unfolding merge_error_verdict
merge_one_to_one merge.BadShape merge.BadShape h = refl
merge_one_to_one merge.BadShape merge.ChangeRoom h = absurd (omega (arith, ap (λ (v : Verdict). v.number) h))
merge_one_to_one merge.ChangeRoom merge.BadShape h = absurd (omega (arith, ap (λ (v : Verdict). v.number) h))
merge_one_to_one merge.ChangeRoom merge.ChangeRoom h = refl

-- no answer of training gives more than two numbers
pub train_few : (e : TrainError) → length (train_verdict e).gives ≤ 2
unfolding train_verdict
train_few train.BadShape = omega arith
train_few train.TooMany = omega arith
train_few train.EmptyCorpus = omega arith
train_few (train.ZeroFrequency word) = omega arith
train_few (train.OutOfOrder word) = omega arith
train_few train.TooHeavy = omega arith
train_few (train.WorkRoom needed) = omega arith
train_few train.SeedRoom = omega arith
train_few (train.VocabTooSmall requested alphabet) = omega arith
train_few train.OutputRoom = omega arith

-- the answer run told the first and the second is told what the verdict gives
pub train_told : (answer : List ℕ) (e : TrainError) → 64 ≤ length answer
    → told answer (nth (train_verdict e).gives 0 ∷ nth (train_verdict e).gives 1 ∷ []) ≡ told answer (train_verdict e).gives
train_told answer e l =
    let g = (train_verdict e).gives in
    let z : nth g 2 ≡ 0 = nth_past g 2 (train_few e) in
    let h = rw z at (told_three answer g (omega (arith, train_few e)) l) in
    sym (told_zero answer (nth g 0 ∷ nth g 1 ∷ []) (omega arith)) ∙ h

-- EVERY REFUSAL HAS ITS ANSWER
abbrev Answered : Verdict → Type 0
Answered v = v ≡ train_verdict (answer_of v)

module _ (t : Task) (r : Rooms) where
  answered : {fs : List Refusal} {v : Verdict} → All (λ f. Answered (says f.number (f.gives t))) fs → Judged t r fs v → (v ≡ success t) ⊎ Answered v
  answered a accepted = inl refl
  answered a (refused e) = inr a.0
  answered a (passed e j) = answered a.1 j

  rows : All (λ f. Answered (says f.number (f.gives t))) refusals
  unfolding train_verdict answer_of nth
  rows = search rules

  pub train_answered : (verdict t r ≡ success t) ⊎ ((e : TrainError) × (verdict t r ≡ train_verdict e))
  train_answered = go (answered rows (judged t r))
    where
      go : (verdict t r ≡ success t) ⊎ Answered (verdict t r) → (verdict t r ≡ success t) ⊎ ((e : TrainError) × (verdict t r ≡ train_verdict e))
      go (inl e) = inl e
      go (inr e) = inr (answer_of (verdict t r), e)

-- two tests in turn, as reading and merging have them
tested : {E : Type 0} (f : E → Verdict) (x y : E) (p q : Bool) (g : List ℕ)
    → ((cond p (f x) (cond q (f y) (says 0 g))).number ≡ 0) ⊎ ((e : E) × (cond p (f x) (cond q (f y) (says 0 g)) ≡ f e))
tested f x y true q g = inr (x, refl)
tested f x y false true g = inr (y, refl)
tested f x y false false g = inl refl

pub piece_answered : (pieces ends : List ℕ) (n : ℕ) → ((look_up pieces ends n).number ≡ 0) ⊎ ((e : PieceError) × (look_up pieces ends n ≡ piece_verdict e))
unfolding look_up piece_verdict
piece_answered pieces ends n =
    tested piece_verdict piece.BadShape piece.NoSuchId (not (piece_shape pieces ends) || ltb 16777216 (piece_count ends)) (leb (piece_count ends) n)
    (piece_start ends n ∷ piece_length ends n ∷ [])

pub merge_answered : (symbols : List ℕ) (a b x : ℕ) (changes : List ℕ)
    → ((merge_verdict symbols a b x changes).number ≡ 0) ⊎ ((e : MergeError) × (merge_verdict symbols a b x changes ≡ merge_error_verdict e))
unfolding merge_verdict merge_error_verdict
merge_answered symbols a b x changes =
    let w = numbers 4 symbols in
    let qs = reports a b x w in
    tested merge_error_verdict merge.BadShape merge.ChangeRoom (not (wholes 4 symbols) || not (wholes 16 changes)) (ltb (length changes) (16 * length qs))
    (rewrites a b w ∷ length (rewrite a b x w) ∷ length qs ∷ [])
