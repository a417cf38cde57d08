-- What each answer is in the table of refusals. "When an answer is an enum, a definition tells you this paper's number and values for
-- each of its cases": the rows' names are the variants' names.
use Rattle.std.specs.Prelude.{[], ◌∷◌}
use Rattle.rule.specs.Refusals.{Verdict, says}
use Rattle.rule.specs.Refusals as row
use Rattle.error.specs.declared.TrainError.{TrainError}
use Rattle.error.specs.declared.TrainError.TheVariants as train
use Rattle.error.specs.declared.PieceError.{PieceError}
use Rattle.error.specs.declared.PieceError.TheVariants as piece
use Rattle.error.specs.declared.MergeError.{MergeError}
use Rattle.error.specs.declared.MergeError.TheVariants as merge

-- training, rows 1 to 10: the number, and what "gives" says: "first such word" of 4 and 5, "bytes needed" of 7, "both numbers" of 9, else none
unfoldable pub train_verdict : TrainError → Verdict
train_verdict train.BadShape = says (row.BadShape).number []
train_verdict train.TooMany = says (row.TooMany).number []
train_verdict train.EmptyCorpus = says (row.EmptyCorpus).number []
train_verdict (train.ZeroFrequency word) = says (row.ZeroFrequency).number (word ∷ [])
train_verdict (train.OutOfOrder word) = says (row.OutOfOrder).number (word ∷ [])
train_verdict train.TooHeavy = says (row.TooHeavy).number []
train_verdict (train.WorkRoom needed) = says (row.WorkRoom).number (needed ∷ [])
train_verdict train.SeedRoom = says (row.SeedRoom).number []
train_verdict (train.VocabTooSmall requested alphabet) = says (row.VocabTooSmall).number (requested ∷ alphabet ∷ [])
train_verdict train.OutputRoom = says (row.OutputRoom).number []

-- the reader, rows 1 and 11: "reader asked for a number at or past the piece count"
unfoldable pub piece_verdict : PieceError → Verdict
piece_verdict piece.BadShape = says (row.BadShape).number []
piece_verdict piece.NoSuchId = says 11 []

-- merging, rows 1 and 12: "more reports than the lent list has places for"
unfoldable pub merge_error_verdict : MergeError → Verdict
merge_error_verdict merge.BadShape = says (row.BadShape).number []
merge_error_verdict merge.ChangeRoom = says 12 []
