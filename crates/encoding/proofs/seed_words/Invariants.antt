-- `encoding::seed_words` meets its contract: the words from the k-th on are still to come.
use mathlib.Core.Path.{◌≡◌}
use mathlib.Core.Bool.{true}
use Prim.Native.Nat.{◌/◌, ◌≤◌}
use lib.ListN.{length}
use Rattle.numbers.specs.Little.{numbers}
use Rattle.rule.specs.Shapes.{rise_to}
use Rattle.vocab.specs.Places.{numbers_from}
use Rattle.encoding.specs.Encoding.{all_decorated}
use Rattle.encoding.proofs.Entering.{Entering}
use Rattle.encoding.proofs.Words.{words_from}
use Rattle.encoding.proofs.seed_words.Given as goal

abbrev pub invariant-loop-k : goal.invariant-loop-k
invariant-loop-k l = (l.many ≡ length l.t.word_ends.now / 4)
    × (length l.t.word_ends.now / 4 ≡ length l.t.frequencies.now / 8)
    × (l.last ≤ length l.t.words.now)
    × (rise_to (length l.t.words.now) l.last (numbers_from 4 l.t.word_ends.now l.k) ≡ true)
    × Entering l.fn.set l.ring.base l.ring.cap l.fn.filled.count l.fn.filled.used (numbers 8 l.t.frequencies.now) (numbers_from 8 l.t.frequencies.now l.k)
    (all_decorated l.t.seeding l.t.prefix.now l.t.suffix.now l.t.words.now l.t.word_ends.now)
    (words_from l.t.seeding l.t.prefix.now l.t.suffix.now l.t.words.now l.t.word_ends.now l.last l.k)
    l.so_far.words l.initial.pieces l.initial.ends l.room l.pieces l.ends l.so_far.filled.count l.so_far.filled.used
