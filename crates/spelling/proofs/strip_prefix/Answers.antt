-- `spelling::strip_prefix` meets its contract: it is the library's answer, or the piece.
use Rattle.spelling.proofs.Prefixes.{stripped_std}
use Rattle.spelling.proofs.strip_prefix.Goals as goal

pub returns : goal.returns
returns c = stripped_std (λ b. b.now) _ c.strip_prefix.result c.args.piece _ c.strip_prefix.ensures.cases c.unwrap_or.ensures
