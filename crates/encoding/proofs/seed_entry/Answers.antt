-- `encoding::seed_entry` meets its contract: the word is opened, its units are interned and added, and it is pushed.
use borrow.Author.Rules.{rules}
use mathlib.Core.Path.{refl}
use Rattle.encoding.proofs.Entering.{entry_units, entry_room, entry_can, entry_out, entry_push, entry_done}
use Rattle.encoding.proofs.seed_entry.Goals as goal

ruleset laws = (entry_units, entry_can, entry_out, entry_push, entry_done, rules)

pub seed_word-requires-clause-can_seed : goal.seed_word-requires-clause-can_seed
seed_word-requires-clause-can_seed c = search laws

pub seed_word-requires-clause-words : goal.seed_word-requires-clause-words
seed_word-requires-clause-words c =
    let e = entry_units _ _ c.from_number.ensures _ _ c.whole-whole.ensures in
    (c.«open».ensures.set, entry_room _ _ _ _ e c.requires.words.1)

pub returns-in_err-worded : goal.returns-in_err-worded
returns-in_err-worded c =
    let e = entry_units _ _ c.from_number.ensures _ _ c.whole-whole.ensures in
    entry_out _ _ _ _ _ _ _ _ _ _ e _ _ _ _ c.«open».ensures c.requires.words.1 _ _ _ _ c.in_err-worded.ensures _ c.from_residual.ensures.0

pub push-words-requires-clause-words : goal.push-words-requires-clause-words
push-words-requires-clause-words c =
    let e = entry_units _ _ c.from_number.ensures _ _ c.whole-whole.ensures in
    (entry_push _ _ _ _ _ _ _ _ _ _ e _ _ _ _ c.«open».ensures c.requires.words.1 _ _ _ _ c.in_ok-worded.ensures).0

pub push-words-requires-clause-n_in_bounds : goal.push-words-requires-clause-n_in_bounds
push-words-requires-clause-n_in_bounds c =
    let e = entry_units _ _ c.from_number.ensures _ _ c.whole-whole.ensures in
    (entry_push _ _ _ _ _ _ _ _ _ _ e _ _ _ _ c.«open».ensures c.requires.words.1 _ _ _ _ c.in_ok-worded.ensures).1

pub returns : goal.returns
returns c =
    let e = entry_units _ _ c.from_number.ensures _ _ c.whole-whole.ensures in
    entry_done _ _ _ _ _ _ _ _ _ _ e _ _ _ _ c.«open».ensures c.requires.words.1 _ _ _ _ c.in_ok-worded.ensures c.requires.words.2 _ _ refl c.push-words.ensures
