-- A pair gains occurrences only in the merge that makes its newer symbol: a pair of numbers in use never rises, and what it spells stays.
use mathlib.Core.Path.{◌≡◌}
use mathlib.Core.List.{List, [], ◌∷◌}
use Prim.Native.Nat.{ℕ, suc, ◌≤◌, ◌<◌}
use native.Mathlib.Omega.{arith}
use lib.ListN.{length, length-append, get_or-append}
use Rattle.rule.specs.Table.{Task}
use Rattle.rule.specs.Seeding.{Entry}
use Rattle.rule.specs.Training.{count, joined_of, within, Choice}
use Rattle.rule.specs.Sums.{AllUnder}
use Rattle.rule.proofs.Counts.{counts_fall, count_gone, below_all}
use Rattle.lazy.specs.Lazy.{pieces_with, words_with}
use Rattle.lazy.specs.Sums.{words_upon}

module _ (t : Task) (ps : List (List ℕ)) (es : List Entry) (e : Choice) where
  pub length_with : length (pieces_with t ps e) ≡ suc (length ps)
  length_with = simp length-append (omega arith)

  pub sound_with : AllUnder (length ps) es → AllUnder (length (pieces_with t ps e)) (words_with ps es e)
  sound_with h = rw length_with (below_all (length ps) e.left e.right es h)

  -- what old pairs spell stays
  pub within_with : (p q : ℕ) → p < length ps → q < length ps → within t (pieces_with t ps e) p q ≡ within t ps p q
  unfolding within joined_of
  within_with p q hp hq = simp get_or-append

  -- and their counts never rise
  pub old_with : (p q : ℕ) → p < length ps → q < length ps → count p q (words_with ps es e) ≤ count p q es
  old_with p q hp hq = counts_fall p q e.left e.right (length ps) (λ k. omega arith) (λ k. omega arith) es

  -- the merged pair is gone
  pub gone_with : e.left < length ps → e.right < length ps → count e.left e.right (words_with ps es e) ≡ 0
  gone_with ha hb = count_gone e.left e.right (length ps) (λ k. omega arith) (λ k. omega arith) es

-- ONCE BOTH SYMBOLS OF A PAIR ARE THERE, ITS COUNT NEVER RISES, whatever is merged
pub old_falls : (t : Task) (ps : List (List ℕ)) (es : List Entry) (cs : List Choice) (p q : ℕ) → p < length ps → q < length ps
    → count p q (words_upon t ps es cs) ≤ count p q es
unfolding words_upon
old_falls t ps es [] p q hp hq = omega arith
old_falls t ps es (e ∷ cs) p q hp hq =
    let k = length_with t ps es e in
    omega (arith, old_with t ps es e p q hp hq, old_falls t (pieces_with t ps e) (words_with ps es e) cs p q (omega arith) (omega arith))
