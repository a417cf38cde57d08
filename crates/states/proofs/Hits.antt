-- One word changed among others, and one occurrence of a pair rewritten in it: what this makes of every count. Assumes nothing.
use mathlib.Core.Path.{◌≡◌, refl, ap}
use mathlib.Core.List.{List, [], ◌∷◌, ◌++◌}
use Prim.Native.Nat.{ℕ, zero, suc, ◌+◌, ◌*◌, ◌<◌, ◌≤◌}
use native.Mathlib.Omega.{arith}
use lib.ListN.{length}
use Rattle.rule.specs.Rewriting.{bit, is_pair, before, after, link, count_in}
use Rattle.rule.specs.Seeding.{Entry}
use Rattle.rule.specs.Sums.{raised, lowered}
use Rattle.rule.specs.Training.{count}
use Rattle.word.specs.Layout.{entry_at}
use Rattle.merge.specs.Merging.{change_at}
use Rattle.states.specs.Tracking.{last_of, with_word}

-- ONE WORD CHANGED: there are as many as before, and a count differs by that word's
pub length_with : (k : ℕ) (l : List ℕ) (es : List Entry) → length (with_word k l es) ≡ length es
unfolding change_at
length_with k l [] = refl
length_with zero l (e ∷ es) = refl
length_with (suc k) l (e ∷ es) = ap suc (length_with k l es)

module _ (p q : ℕ) where
  pub count_with : (k : ℕ) (l : List ℕ) (es : List Entry) → k < length es
      → count p q (with_word k l es) + (entry_at es k).frequency * count_in p q (entry_at es k).symbols ≡ count p q es + (entry_at es k).frequency * count_in p q l
  unfolding change_at entry_at count
  count_with k l [] h = absurd (omega arith)
  count_with zero l (e ∷ es) h = omega arith
  count_with (suc k) l (e ∷ es) h = let i = count_with k l es (omega arith) in omega arith

  -- a word's share of a count
  pub count_share : (k : ℕ) (es : List Entry) → k < length es → (entry_at es k).frequency * count_in p q (entry_at es k).symbols ≤ count p q es
  unfolding entry_at count
  count_share k [] h = absurd (omega arith)
  count_share zero (e ∷ es) h = omega arith
  count_share (suc k) (e ∷ es) h = let i = count_share k es (omega arith) in omega arith

  -- ONE OCCURRENCE REWRITTEN, behind P and before R: its reports are the change of every count but the pair's own, which falls by one more
  module _ (a b x : ℕ) where
    pub hit_count : (P R : List ℕ)
        → count_in p q (P ++ (a ∷ b ∷ R)) + raised p q (before a x (last_of P) ++ after b x R)
        ≡ count_in p q (P ++ (x ∷ R)) + lowered p q (before a x (last_of P) ++ after b x R) + bit (is_pair p q a b)
    unfolding count_in link before after raised lowered last_of
    hit_count [] [] = omega arith
    hit_count [] (n ∷ R) = omega arith
    hit_count (s ∷ []) [] = omega arith
    hit_count (s ∷ []) (n ∷ R) = omega arith
    hit_count (s ∷ t ∷ P) R = let h = hit_count (t ∷ P) R in omega arith

    -- what they lower the word had, besides the pair
    pub hit_lowered : (P R : List ℕ) → lowered p q (before a x (last_of P) ++ after b x R) + bit (is_pair p q a b) ≤ count_in p q (P ++ (a ∷ b ∷ R))
    unfolding count_in link before after lowered last_of
    hit_lowered [] [] = omega arith
    hit_lowered [] (n ∷ R) = omega arith
    hit_lowered (s ∷ []) [] = omega arith
    hit_lowered (s ∷ []) (n ∷ R) = omega arith
    hit_lowered (s ∷ t ∷ P) R = let h = hit_lowered (t ∷ P) R in omega arith
