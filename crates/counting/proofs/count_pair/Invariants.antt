-- `counting::count_pair` meets its contract: the sum so far, and the count in the other words, is the count in all.
use mathlib.Core.Path.{◌≡◌}
use Prim.Native.Nat.{◌+◌, ◌^◌, ◌<◌}
use lib.ListN.{drop}
use Rattle.cells.specs.Cells.{cells}
use Rattle.rule.specs.Training.{count}
use Rattle.rule.specs.Sums.{symbols_in}
use Rattle.word.specs.Layout.{Words, words_in}
use Rattle.counting.proofs.count_pair.Given as goal

abbrev pub invariant-loop-k : goal.invariant-loop-k
invariant-loop-k l = Words l.fn.w (cells l.fn.room)
    × (l.sum + symbols_in (drop l.k (words_in l.fn.w (cells l.fn.room))) < 2 ^ 53)
    × (count l.fn.p l.fn.q (words_in l.fn.w (cells l.fn.room)) ≡ l.sum + count l.fn.p l.fn.q (drop l.k (words_in l.fn.w (cells l.fn.room))))
