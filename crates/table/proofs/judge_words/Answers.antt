-- `table::judge_words` meets its contract: each answer by what the code found on the way to it.
use Rattle.table.proofs.Answers.{words_none, words_zero, words_low, words_heavy, words_room, words_fine}
use Rattle.table.proofs.judge_words.Goals as goal

pub returns-then-t-eq0 : goal.returns-then-t-eq0
returns-then-t-eq0 c = words_none _ _ _ _ _ _ c.if-t-eq0.true

pub returns-in-Some : goal.returns-in-Some
returns-in-Some c = words_zero _ _ _ _ _ _ c.if-t-eq0.false c.in-Some.zero c.in-Some.ensures

pub returns-in-Some-first_low : goal.returns-in-Some-first_low
returns-in-Some-first_low c = words_low _ _ _ _ _ _ c.if-t-eq0.false c.in_default.ensures c.in-Some-first_low.low c.in-Some-first_low.ensures

pub returns-then-found-ge-TOO_HEAVY : goal.returns-then-found-ge-TOO_HEAVY
returns-then-found-ge-TOO_HEAVY c =
    words_heavy _ _ _ _ _ _ c.if-t-eq0.false c.in_default.ensures c.in_default-first_low.ensures _ _ c.weigh-found.ensures c.if-found-ge-TOO_HEAVY.true

pub returns-then-room-needed : goal.returns-then-room-needed
returns-then-room-needed c =
    words_room _ _ _ _ _ _ c.if-t-eq0.false c.in_default.ensures c.in_default-first_low.ensures _ _ c.weigh-found.ensures
    c.if-found-ge-TOO_HEAVY.false _ c.room_needed-needed.ensures c.if-room-needed.true

pub returns : goal.returns
returns c =
    words_fine _ _ _ _ _ _ c.if-t-eq0.false c.in_default.ensures c.in_default-first_low.ensures _ _ c.weigh-found.ensures
    c.if-found-ge-TOO_HEAVY.false _ c.room_needed-needed.ensures c.if-room-needed.false
