-- `engine::tidy` meets its contract: sparse words are slid together, others stay.
use borrow.Author.Rules.{rules}
use Rattle.word.proofs.Sets.{words_span}
use Rattle.runs.proofs.Frames.{kept_none}
use Rattle.engine.proofs.tidy.Goals as goal

ruleset laws = (words_span, kept_none, rules)

pub is_sparse-requires : goal.is_sparse-requires
is_sparse-requires c = search laws
