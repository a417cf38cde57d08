-- `recount::best_word` meets its contract: the best so far, and the positions to come, give the best of the word.
use mathlib.Core.Path.{◌≡◌}
use Prim.Native.Nat.{◌+◌, ◌-◌, ◌≤◌}
use Rattle.cells.specs.Cells.{cells}
use Rattle.rule.specs.Sums.{Under}
use Rattle.rule.specs.Training.{best, candidates_in, limits}
use Rattle.intern.specs.Pieces as rooms
use Rattle.word.specs.Layout.{symbols_at, entry_at, words_in}
use Rattle.recount.specs.Recount.{told, Weighed}
use Rattle.recount.proofs.best_word.Given as goal

abbrev pub invariant-loop-i : goal.invariant-loop-i
invariant-loop-i l = (l.i ≤ l.span.length + 1)
    × Under l.p.filled.count (symbols_at (l.span.start + l.i - 1) (l.span.length + 1 - l.i) (cells l.room))
    × Weighed (words_in l.w (cells l.room)) l.d
    × (best (told l.initial.d) (candidates_in (limits l.prefix l.limit) (rooms.pieces l.p.bytes.now l.p.ends.now l.p.filled.count) (words_in l.w (cells l.room)) (entry_at (words_in l.w (cells l.room)) l.fn.k).symbols)
    ≡ best (told l.d) (candidates_in (limits l.prefix l.limit) (rooms.pieces l.p.bytes.now l.p.ends.now l.p.filled.count) (words_in l.w (cells l.room)) (symbols_at (l.span.start + l.i - 1) (l.span.length + 1 - l.i) (cells l.room))))
