-- The conditions of refusals 1 to 7 and 9 in plain terms: what is known of a table of which they do not hold.
use mathlib.Core.Path.{◌≡◌}
use mathlib.Core.Bool.{true, and-eq-true_iff}
use mathlib.Core.List.{List, [], ◌∷◌, map}
use Prim.Native.Nat.{ℕ, zero, suc, ◌/◌, ◌%◌, ◌^◌, ◌≤◌, ◌<◌}
use native.Mathlib.Omega.{arith}
use lib.Dec.{eqb, leb}
use lib.ListN.{length, get_or}
use borrow.Author.Tests.{ltb-false, leb-true, leb-false, eqb-true, eqb-false, not-false}
use Rattle.numbers.specs.Little.{numbers}
use Rattle.rule.specs.Shapes.{wholes, rise_to, shaped}
use Rattle.rule.specs.Table.{Task, Rooms, words, word_count, frequencies, A, word_units, weighed, work_needed}
use Rattle.rule.specs.Seeding.{seeds}
use Rattle.rule.specs.Training.{trained}
use Rattle.rule.specs.Demand.{Demand}
use Rattle.rule.specs.Refusals.{bad_shape, too_many, empty_corpus, no_frequency, zero_frequency, not_above, misplaced, out_of_order, too_heavy, work_room, vocab_too_small}
use Rattle.rule.proofs.Places.{None, none}
use Rattle.rule.proofs.Order.{Lt, below_lt, below_trans, Rising}
use Rattle.rule.proofs.Judged.{Accepted}
use Rattle.rule.proofs.Demand.{demand_holds}

-- ENDS THAT RISE: none is below the one before, and the last is the byte length
pub record Rises (n from : ℕ) (es : List ℕ) : Type 0 where
  pub up : (i : ℕ) → i < length es → get_or (from ∷ es) i 0 ≤ get_or es i 0
  pub last : get_or (from ∷ es) (length es) 0 ≡ n

pub rise_ends : (n from : ℕ) (es : List ℕ) → rise_to n from es ≡ true → Rises n from es
unfolding rise_to
rise_ends n from [] e = record { up = λ i h. absurd (omega arith); last = eqb-true from n e }
rise_ends n from (d ∷ es) e = go ((and-eq-true_iff (leb from d) (rise_to n d es)).0 e) (rise_ends n d es)
  where
    go : (leb from d ≡ true) × (rise_to n d es ≡ true) → (rise_to n d es ≡ true → Rises n d es) → Rises n from (d ∷ es)
    go h f = record { up = each; last = (f h.1).last }
      where
        each : (i : ℕ) → i < suc (length es) → get_or (from ∷ d ∷ es) i 0 ≤ get_or (d ∷ es) i 0
        each zero l = leb-true from d h.0
        each (suc i) l = (f h.1).up i (omega arith)

-- bytes and 4-byte ends in shape
pub record Shape (run ends : List ℕ) : Type 0 where
  pub whole : length ends % 4 ≡ 0
  pub rises : Rises (length run) 0 (numbers 4 ends)

shape : (run ends : List ℕ) → shaped run ends ≡ true → Shape run ends
unfolding shaped
shape run ends e =
    let h = (and-eq-true_iff (wholes 4 ends) (rise_to (length run) 0 (numbers 4 ends))).0 e in
    record { whole = eqb-true _ _ h.0; rises = rise_ends _ _ _ h.1 }

-- 1 does not hold
pub record WellShaped (t : Task) : Type 0 where
  pub seeding : t.seeding ≤ 1
  pub whole : length t.frequency_bytes % 8 ≡ 0
  pub counts : length t.word_ends / 4 ≡ length t.frequency_bytes / 8
  pub table : Shape t.word_bytes t.word_ends
  pub alphabet : Shape t.alphabet_bytes t.alphabet_ends

-- 2 does not hold
pub record Limited (t : Task) : Type 0 where
  pub words : word_count t ≤ 16777216
  pub size : t.vocab_size ≤ 16777216
  pub word_bytes : length t.word_bytes ≤ 268435456
  pub symbols : A t ≤ 65536
  pub alphabet_bytes : length t.alphabet_bytes ≤ 1048576
  pub prefix : length t.prefix ≤ 255
  pub suffix : length t.suffix ≤ 255

some_frequency : (fs : List ℕ) → None (map (eqb 0) fs) → (i : ℕ) → i < length fs → 1 ≤ get_or fs i 0
some_frequency [] h i l = absurd (omega arith)
some_frequency (f ∷ fs) h zero l = let k = eqb-false 0 f h.0 in omega arith
some_frequency (f ∷ fs) h (suc i) l = some_frequency fs h.1 i (omega arith)

rising : (ws : List (List ℕ)) → None (not_above ws) → Rising ws
unfolding not_above
rising [] h = tt
rising (w ∷ []) h = (tt, tt)
rising (v ∷ w ∷ ws) h = go (below_lt v w (not-false _ h.0)) (rising (w ∷ ws) h.1)
  where
    go : Lt v w → Rising (w ∷ ws) → Rising (v ∷ w ∷ ws)
    go l r = ((l, below_trans v w ws l r.0), r)

-- OF AN ACCEPTED TABLE, row by row
module _ (t : Task) (r : Rooms) (a : Accepted t r) where
  pub well_shaped : WellShaped t
  unfolding bad_shape
  well_shaped =
      let n = none _ a.shape in
      record {
        seeding = ltb-false _ _ n.0;
        whole = eqb-true _ _ (not-false _ n.1.0);
        counts = eqb-true _ _ (not-false _ n.1.1.0);
        table = shape _ _ (not-false _ n.1.1.1.0);
        alphabet = shape _ _ (not-false _ n.1.1.1.1.0);
      }

  pub limited : Limited t
  unfolding too_many
  limited =
      let n = none _ a.many in
      record {
        words = ltb-false _ _ n.0;
        size = ltb-false _ _ n.1.0;
        word_bytes = ltb-false _ _ n.1.1.0;
        symbols = ltb-false _ _ n.1.1.1.0;
        alphabet_bytes = ltb-false _ _ n.1.1.1.1.0;
        prefix = ltb-false _ _ n.1.1.1.1.1.0;
        suffix = ltb-false _ _ n.1.1.1.1.1.1.0;
      }

  pub has_words : 1 ≤ word_count t
  unfolding empty_corpus
  has_words = let k = eqb-false (word_count t) 0 a.corpus in omega arith

  pub all_frequent : (i : ℕ) → i < length (frequencies t) → 1 ≤ get_or (frequencies t) i 0
  unfolding zero_frequency no_frequency frequencies
  all_frequent = some_frequency (frequencies t) (none _ a.frequency)

  pub words_rise : Rising (words t)
  unfolding out_of_order misplaced words
  words_rise = rising (words t) (none _ a.order).1

  pub light : weighed (frequencies t) (word_units t) < 2 ^ 53
  unfolding too_heavy frequencies word_units
  light = leb-false _ _ a.weight

  pub work_enough : work_needed t ≤ length r.work
  unfolding work_room
  work_enough = ltb-false _ _ a.work

  pub seeds_fit : length (seeds t) ≤ t.vocab_size
  unfolding vocab_too_small
  seeds_fit = ltb-false _ _ a.vocab

  -- so demand 3 holds of every accepted table
  pub demand_accepted : Demand t (trained t)
  demand_accepted = demand_holds t seeds_fit
