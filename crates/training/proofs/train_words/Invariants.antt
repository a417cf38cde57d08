-- `training::train_words` meets its contract: what is made so far, and the merges that are to come, are the rule's.
use mathlib.Core.Path.{◌≡◌}
use Prim.Native.Nat.{◌+◌, max}
use lib.ListN.{length}
use Rattle.cells.specs.Cells.{cells}
use Rattle.word.specs.Layout.{words_in}
use Rattle.training.proofs.Looping.{Looping}
use Rattle.training.proofs.train_words.Given as goal

abbrev pub invariant-loop-k : goal.invariant-loop-k
invariant-loop-k l = (l.now.count ≡ l.fn.filled.count + l.k)
    × (l.enough ≡ max 1 l.fn.settings.min_frequency)
    × (length l.work ≡ length l.initial.work)
    × (length l.pieces ≡ length l.initial.pieces)
    × (length l.ends ≡ length l.initial.ends)
    × (length l.merges ≡ length l.initial.merges)
    × (length l.savings ≡ length l.initial.savings)
    × Looping (words_in l.initial.engine.words (cells l.initial.work)) l.fn.filled.count l.fn.filled.used l.prefix l.fn.settings.vocab_size l.fn.settings.min_frequency
    l.fn.settings.max_piece_length l.initial.pieces l.initial.ends l.initial.merges l.initial.savings (cells l.work) l.pieces l.ends l.merges l.savings
    l.engine l.now.count l.now.used l.k
