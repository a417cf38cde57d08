-- `choosing::take_head` meets its contract, a law for each way out.
use borrow.Author.Rules.{rules}
use mathlib.Core.Path.{refl, sym, ◌∙◌}
use Rattle.choosing.proofs.Turns.{headed, head_pairing, head_turns, head_pair, within_asks, head_counts, turn-stale, turn_low, turn-pair, turn_long}
use Rattle.choosing.proofs.take_head.Goals as goal

ruleset laws = (headed, turn_low, rules)

pub live_count-live-requires : goal.live_count-live-requires
live_count-live-requires c = let s = headed c.requires.can_choose c.pop-e.ensures in
    head_pairing s

pub overflow_sub-result : goal.overflow_sub-result
overflow_sub-result c = let s = headed c.requires.can_choose c.pop-e.ensures in
    head_turns s

pub returns-then-live-e : goal.returns-then-live-e
returns-then-live-e c = let s = headed c.requires.can_choose c.pop-e.ensures in
    turn-stale s _ c.live_count-live.ensures _ c.if-live-e.true c.correct-n.ensures refl

pub returns-then-live-least : goal.returns-then-live-least
returns-then-live-least c = search laws

pub left_of-left-requires : goal.left_of-left-requires
left_of-left-requires c = let s = headed c.requires.can_choose c.pop-e.ensures in
    head_pair s

pub right_of-right-requires : goal.right_of-right-requires
right_of-right-requires c = let s = headed c.requires.can_choose c.pop-e.ensures in
    head_pair s

pub is_within-requires : goal.is_within-requires
is_within-requires c = let s = headed c.requires.can_choose c.pop-e.ensures in
    let w = within_asks s c.left_of-left.ensures c.right_of-right.ensures in
    (c.requires.held, w.0, w.1)

pub returns-then-is_within : goal.returns-then-is_within
returns-then-is_within c = let s = headed c.requires.can_choose c.pop-e.ensures in
    turn-pair s _ c.live_count-live.ensures c.if-live-e.false _ c.if-live-least.false _ _ c.left_of-left.ensures c.right_of-right.ensures
    (sym c.if-is_within.true ∙ c.is_within.ensures) refl

pub block-requires : goal.block-requires
block-requires c = let s = headed c.requires.can_choose c.pop-e.ensures in
    head_counts s _ c.live_count-live.ensures _ c.requires.le_least.0 c.if-live-least.false

pub overflow_sub-result-2 : goal.overflow_sub-result-2
overflow_sub-result-2 c = let s = headed c.requires.can_choose c.pop-e.ensures in
    head_turns s

pub returns : goal.returns
returns c = let s = headed c.requires.can_choose c.pop-e.ensures in
    turn_long s _ c.live_count-live.ensures c.if-live-e.false _ c.if-live-least.false _ _ c.left_of-left.ensures c.right_of-right.ensures
    (sym c.if-is_within.false ∙ c.is_within.ensures) c.block.ensures refl
