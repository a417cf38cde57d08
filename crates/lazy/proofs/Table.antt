-- The lazy rule of a task: from its seeds and kept words it makes the trained merges, with at most five entries for each unit of the table.
use mathlib.Core.Path.{◌≡◌, ◌∙◌}
use mathlib.Core.List.{List, [], ◌∷◌, map}
use Prim.Native.Nat.{ℕ, ◌+◌, ◌-◌, ◌*◌, ◌≤◌}
use native.Mathlib.Omega.{arith}
use lib.ListN.{length, length-map}
use Rattle.rule.specs.Table.{Task, frequencies, word_units, U}
use Rattle.rule.specs.Table as table
use Rattle.rule.specs.Spelling.{decorate}
use Rattle.rule.specs.Seeding.{Entry, decorated, number_of, keep, kept_with, kept}
use Rattle.rule.specs.Seeding as seeding
use Rattle.rule.specs.Sums.{in_use}
use Rattle.rule.specs.Training.{trained}
use Rattle.rule.proofs.Spelling.{length-decorate}
use Rattle.rule.proofs.Seeding.{kept-below}
use Rattle.lazy.specs.Lazy.{seeds, lazy, lazy_train}
use Rattle.lazy.proofs.Same.{lazy-same, lazy_bound}

-- the kept words have no more symbols than the table has in_use
keep-units : (f : ℕ) (ss : List ℕ) (rest : List Entry) → in_use (keep f ss rest) ≤ length ss + in_use rest
unfolding in_use keep
keep-units f [] rest = omega arith
keep-units f (s ∷ []) rest = omega arith
keep-units f (s ∷ s₁ ∷ ss) rest = omega arith

kept_with-units : (ps : List (List ℕ)) (p s : List ℕ) (fs : List ℕ) (us : List (List (List ℕ)))
    → in_use (kept_with ps fs (map (decorate p s) us)) ≤ table.total (map length us)
unfolding kept_with table.total in_use
kept_with-units ps p s [] us = omega arith
kept_with-units ps p s (f ∷ fs) [] = omega arith
kept_with-units ps p s (f ∷ fs) (u ∷ us) =
    let h = kept_with-units ps p s fs us in
    let l : length (map (number_of ps) (decorate p s u)) ≡ length u = length-map (decorate p s u) (number_of ps) ∙ length-decorate p s u in
    omega (arith, keep-units f (map (number_of ps) (decorate p s u)) (kept_with ps fs (map (decorate p s) us)))

pub kept-units : (t : Task) → in_use (kept t) ≤ U t
unfolding kept decorated U
kept-units t = kept_with-units (seeding.seeds t) t.prefix t.suffix (frequencies t) (word_units t)

module _ (t : Task) where
  -- the merges that the vocabulary size leaves room for
  abbrev pub room : ℕ
  room = t.vocab_size - length (seeding.seeds t)

  -- THE LAZY RULE OF A TASK makes the trained merges
  pub lazy-trained : (lazy_train t room (seeding.seeds t) (kept t)).merges ≡ trained t
  unfolding trained
  lazy-trained = lazy-same t room (seeding.seeds t) (kept t) (kept-below t)

  -- and takes at most 5 · U entries, whatever its fuel
  pub lazy_few : (k : ℕ) → (lazy t k room (seeding.seeds t) (kept t) (seeds (kept t))).taken ≤ 5 * U t
  lazy_few k = omega (arith, lazy_bound t room (seeding.seeds t) (kept t) (kept-below t) k, kept-units t)
