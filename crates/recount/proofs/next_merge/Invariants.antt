-- `recount::next_merge` meets its contract: the best so far, and the words to come, give the choice.
use mathlib.Core.Path.{◌≡◌}
use lib.ListN.{drop}
use Rattle.cells.specs.Cells.{cells}
use Rattle.rule.specs.Training.{best, candidates, choose, limits}
use Rattle.intern.specs.Pieces as rooms
use Rattle.word.specs.Layout.{words_in}
use Rattle.recount.specs.Recount.{told, Weighed}
use Rattle.recount.proofs.next_merge.Given as goal

abbrev pub invariant-loop-k : goal.invariant-loop-k
invariant-loop-k l = Weighed (words_in l.w (cells l.room)) l.d
    × (choose (limits l.prefix l.limit) (rooms.pieces l.p.bytes.now l.p.ends.now l.p.filled.count) (words_in l.w (cells l.room))
    ≡ best (told l.d) (candidates (limits l.prefix l.limit) (rooms.pieces l.p.bytes.now l.p.ends.now l.p.filled.count) (words_in l.w (cells l.room)) (drop l.k (words_in l.w (cells l.room)))))
