-- `seeding::seed_rest` meets its contract: the alphabet, then the words in an empty set below the table.
use borrow.Author.Rules.{rules}
use Rattle.seeding.proofs.Stages.{alphabet_can, alphabet-out, words_can, words_fit, rest_done}
use Rattle.seeding.proofs.seed_rest.Goals as goal

ruleset laws = (alphabet_can, alphabet-out, words_can, words_fit, rest_done, rules)

pub seed_alphabet-requires-clause-can_seed : goal.seed_alphabet-requires-clause-can_seed
seed_alphabet-requires-clause-can_seed c = search laws

pub returns-in_err-more : goal.returns-in_err-more
returns-in_err-more c = alphabet-out _ _ _ _ _ _ _ _ _ _ _ _ _ _ _ _ c.requires _ _ _ _ c.in_err-more.ensures _ _ _ _ c.from_residual.ensures.0

pub seed_words-requires-clause-can_seed : goal.seed_words-requires-clause-can_seed
seed_words-requires-clause-can_seed c = words_can _ _ _ _ _ _ _ _ _ _ _ _ _ _ _ _ c.requires _ _ _ _ c.in_ok-more.ensures

pub seed_words-requires-clause-fits : goal.seed_words-requires-clause-fits
seed_words-requires-clause-fits c =
    words_fit _ _ _ _ _ _ _ _ _ _ _ _ _ _ _ _ c.requires _ _ _ _ c.in_ok-more.ensures _ _ c.words_at.ensures c.empty-set.ensures

pub returns : goal.returns
returns c =
    rest_done _ _ _ _ _ _ _ _ _ _ _ _ _ _ _ _ c.requires _ _ _ _ c.in_ok-more.ensures _ _ c.words_at.ensures c.empty-set.ensures _ _ _ _ c.seed_words.ensures
