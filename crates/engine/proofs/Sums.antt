-- What holds of some words on their own: their symbols, the bounds of these, and that a merged pair is gone. Assumes nothing.
use mathlib.Core.Path.{◌≡◌}
use mathlib.Core.List.{List, [], ◌∷◌}
use mathlib.Core.Logic.{◌≢◌}
use Prim.Native.Nat.{ℕ, zero, suc}
use Rattle.rule.specs.Rewriting.{count_in}
use Rattle.rule.specs.Seeding.{Entry}
use Rattle.rule.specs.Training.{rewrite_all}
use Rattle.rule.proofs.Rewriting.{gone}
use Rattle.word.specs.Layout.{entry_at}
use Rattle.states.proofs.Tracks.{count_none}

-- THE MERGED PAIR stands in no word
pub gone_entry : (a b x : ℕ) → x ≢ a → x ≢ b → (es : List Entry) (k : ℕ) → count_in a b (entry_at (rewrite_all a b x es) k).symbols ≡ 0
unfolding rewrite_all entry_at
gone_entry a b x ha hb [] k = count_none a b
gone_entry a b x ha hb (e ∷ es) zero = gone a b x ha hb e.symbols
gone_entry a b x ha hb (e ∷ es) (suc k) = gone_entry a b x ha hb es k
