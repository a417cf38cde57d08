-- Each way through `rindovesh_train` and `rindovesh_piece` is one case of document 01's outcome; and each contract leaves a single one. Assumes nothing.
use mathlib.Core.Path.{◌≡◌, refl, sym, ap, ◌∙◌}
use mathlib.Core.Bool.{Bool, true, false, cond}
use mathlib.Core.List.{List, [], ◌∷◌}
use Prim.Native.Nat.{ℕ, ◌≤◌, ◌<◌}
use native.Mathlib.Omega.{arith}
use lib.Dec.{eqb}
use lib.ListN.{length}
use borrow.Author.Tests.{lt-ltb, le-ltb}
use Rattle.runs.specs.Parts.{nth}
use Rattle.rule.specs.Table.{Task, Rooms}
use Rattle.rule.specs.Refusals.{Verdict, judge, verdict, seed_room, output_room}
use Rattle.rule.specs.Outcome.{told, written, cleared, untouched, refused_with, clears, rooms_after, Outcome, train_outcome, Read, piece_outcome}
use Rattle.error.specs.Answers.{train_verdict, piece_verdict}
use Rattle.error.specs.declared.TrainError.{TrainError}
use Rattle.error.specs.declared.TrainError.TheVariants as why
use Rattle.error.specs.declared.PieceError.{PieceError}
use Rattle.error.specs.declared.PieceError.TheVariants as no
use Rattle.error.proofs.Told.{told_zero, told_three}
use Rattle.error.proofs.Answers.{train_told}
use Rattle.vocab.specs.Reading.{lookup_verdict, Looked}
use Rattle.std.specs.Prelude.{Result, Ok, Err}
use Rattle.vocab.specs.declared.Place.{Place}
use Rattle.trainer.specs.Train.{rooms_of, answered, Left, TrainDone}
use Rattle.trainer.specs.declared.Trained.{Trained}
use Rattle.door.specs.Door.{rooms, trained, read}

-- TRAINING. No row asks for the answer run, and no other run is written by what is told in it
module _ (t : Task) (w x y m s answer : List ℕ) where
  verdict_same : verdict t (rooms w x y m s answer) ≡ verdict t (rooms_of w x y m s)
  unfolding verdict judge seed_room output_room
  verdict_same = refl

  -- the rooms of a verdict, with the answer run or without it
  each : (ns : List ℕ) (a b : Bool)
      → cond a (written t (rooms w x y m s answer) ns) (cond b (cleared (rooms w x y m s answer) ns) (untouched (rooms w x y m s answer) ns))
      ≡ rooms (cond a (written t (rooms_of w x y m s) ns) (cond b (cleared (rooms_of w x y m s) ns) (untouched (rooms_of w x y m s) ns))).work
      (cond a (written t (rooms_of w x y m s) ns) (cond b (cleared (rooms_of w x y m s) ns) (untouched (rooms_of w x y m s) ns))).pieces
      (cond a (written t (rooms_of w x y m s) ns) (cond b (cleared (rooms_of w x y m s) ns) (untouched (rooms_of w x y m s) ns))).piece_ends
      (cond a (written t (rooms_of w x y m s) ns) (cond b (cleared (rooms_of w x y m s) ns) (untouched (rooms_of w x y m s) ns))).merges
      (cond a (written t (rooms_of w x y m s) ns) (cond b (cleared (rooms_of w x y m s) ns) (untouched (rooms_of w x y m s) ns))).savings (told answer ns)
  unfolding written cleared untouched refused_with
  each ns true b = refl
  each ns false true = refl
  each ns false false = refl

  module _ (v : Verdict) (w' x' y' m' s' : List ℕ) (l : Left t v (rooms_of w x y m s) (rooms_of w' x' y' m' s')) where
    rooms_same : rooms w' x' y' m' s' (told answer v.gives) ≡ rooms_after t (rooms w x y m s answer) v
    unfolding rooms_after
    rooms_same = rw (l.work, l.pieces, l.ends, l.merges, l.savings) (sym (each v.gives (eqb v.number 0) (clears v.number)))

  pub train_short : (k : ℕ) → length answer < 64 → k ≡ (train_verdict why.BadShape).number → trained k (rooms w x y m s answer) ≡ train_outcome t (rooms w x y m s answer)
  unfolding train_outcome train_verdict
  train_short k h e = rw (e, lt-ltb (length answer) 64 h)

  module _ (h : 64 ≤ length answer) (r : Result Trained TrainError) (w' x' y' m' s' : List ℕ) (d : TrainDone r t (rooms_of w x y m s) (rooms_of w' x' y' m' s')) where
    whole : (k : ℕ) (new : List ℕ) → k ≡ (answered r).number → new ≡ told answer (answered r).gives
        → trained k (rooms w' x' y' m' s' new) ≡ train_outcome t (rooms w x y m s answer)
    unfolding train_outcome
    whole k new ek en =
        rw (le-ltb (length answer) 64 h, verdict_same, ← d.answer, ek, en)
        (ap (trained (answered r).number) (rooms_same (answered r) w' x' y' m' s' (rw (← d.answer) at d.rooms)))

    pub train_success : (z : Trained) → r ≡ Ok z → (new : List ℕ) → new ≡ told answer (z.pieces ∷ z.alphabet ∷ z.merges ∷ []) → trained 0 (rooms w' x' y' m' s' new) ≡ train_outcome t (rooms w x y m s answer)
    unfolding answered
    train_success z e new f = whole 0 new (rw e) (rw e f)

    pub train_refused : (e : TrainError) → r ≡ Err e → (k i j : ℕ) → k ≡ (train_verdict e).number → i ≡ nth (train_verdict e).gives 0 → j ≡ nth (train_verdict e).gives 1
        → (new : List ℕ) → new ≡ told answer (i ∷ j ∷ 0 ∷ []) → trained k (rooms w' x' y' m' s' new) ≡ train_outcome t (rooms w x y m s answer)
    unfolding answered
    train_refused e q k i j ek ei ej new f =
        whole k new (rw q ek)
        (f ∙ rw (ei, ej, q) (told_zero answer (nth (train_verdict e).gives 0 ∷ nth (train_verdict e).gives 1 ∷ []) (omega arith) ∙ train_told answer e h))

-- two outcomes that the contract allows are equal
pub trained_single : (t : Task) (r : Rooms) (k k' : ℕ) (q q' : Rooms) → trained k q ≡ train_outcome t r → trained k' q' ≡ train_outcome t r → (k ≡ k') × (q ≡ q')
trained_single t r k k' q q' e f =
    let z : trained k q ≡ trained k' q' = e ∙ sym f in
    (ap (λ (o : Outcome). o.returned) z, ap (λ (o : Outcome). o.rooms) z)

-- READING A PIECE
module _ (xs ys : List ℕ) (n : ℕ) (answer : List ℕ) where
  pub piece_short : (k : ℕ) → length answer < 64 → k ≡ (piece_verdict no.BadShape).number → read k answer ≡ piece_outcome xs ys n answer
  unfolding piece_outcome piece_verdict
  piece_short k h e = rw (e, lt-ltb (length answer) 64 h)

  module _ (h : 64 ≤ length answer) (r : Result Place PieceError) (d : Looked xs ys n r) where
    found : (k : ℕ) (new : List ℕ) → k ≡ (lookup_verdict r).number → new ≡ told answer (lookup_verdict r).gives → read k new ≡ piece_outcome xs ys n answer
    unfolding piece_outcome
    found k new ek en = rw (le-ltb (length answer) 64 h, ← d.is, ek, en)

    pub piece_found : (from long : ℕ) → r ≡ Ok (record { start = from; length = long }) → (new : List ℕ) → new ≡ told answer (from ∷ long ∷ 0 ∷ []) → read 0 new ≡ piece_outcome xs ys n answer
    unfolding lookup_verdict
    piece_found from long q new f = found 0 new (rw q) (f ∙ rw q (told_zero answer (from ∷ long ∷ []) (omega arith)))

    none : (e : PieceError) → (piece_verdict e).gives ≡ []
    unfolding piece_verdict
    none no.BadShape = refl
    none no.NoSuchId = refl

    pub piece_refused : (e : PieceError) → r ≡ Err e → (k : ℕ) → k ≡ (piece_verdict e).number → (new : List ℕ) → new ≡ told answer (0 ∷ 0 ∷ 0 ∷ []) → read k new ≡ piece_outcome xs ys n answer
    unfolding lookup_verdict nth
    piece_refused e q k ek new f = found k new (rw q ek) (f ∙ told_three answer [] (omega arith) h ∙ rw (q, none e))

-- two outcomes that the contract allows are equal
pub read_single : (xs ys : List ℕ) (n : ℕ) (answer : List ℕ) (k k' : ℕ) (a a' : List ℕ) → read k a ≡ piece_outcome xs ys n answer → read k' a' ≡ piece_outcome xs ys n answer → (k ≡ k') × (a ≡ a')
read_single xs ys n answer k k' a a' e f =
    let z : read k a ≡ read k' a' = e ∙ sym f in
    (ap (λ (o : Read). o.returned) z, ap (λ (o : Read). o.answer) z)
