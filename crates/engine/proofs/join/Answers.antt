-- `engine::join` meets its contract: marked, rewritten, settled, removed, tidied.
use Rattle.engine.proofs.Merging.{join_finds, join_known, join_has, join_midway, join_settles, join_words, joined}
use Rattle.engine.proofs.join.Goals as goal

pub find-requires : goal.find-requires
find-requires c = join_finds _ _ _ _ _ c.requires _ c.key-key.ensures

pub unwrap-r-requires : goal.unwrap-r-requires
unwrap-r-requires c = join_known _ _ _ _ _ c.requires _ c.key-key.ensures _ c.find.ensures

pub mark-requires : goal.mark-requires
mark-requires c = join_has _ _ _ _ _ c.requires _ c.key-key.ensures _ c.find.ensures _ c.unwrap-r.ensures

pub merge_words-d-requires : goal.merge_words-d-requires
merge_words-d-requires c = join_midway _ _ _ _ _ c.requires _ c.key-key.ensures _ _ c.mark.ensures

pub settle-waiting-requires : goal.settle-waiting-requires
settle-waiting-requires c = join_settles _ _ _ _ _ c.requires _ c.key-key.ensures _ _ c.mark.ensures _ _ c.merge_words-d.ensures

pub tidy-requires : goal.tidy-requires
tidy-requires c = join_words _ _ _ _ _ c.requires _ c.key-key.ensures _ _ c.mark.ensures _ _ c.merge_words-d.ensures _ _ c.settle-waiting.ensures _ c.remove.ensures

pub returns : goal.returns
returns c = joined _ _ _ _ _ c.requires _ c.key-key.ensures _ _ c.mark.ensures _ _ c.merge_words-d.ensures _ _ c.settle-waiting.ensures _ c.remove.ensures
    _ _ c.tidy.ensures
