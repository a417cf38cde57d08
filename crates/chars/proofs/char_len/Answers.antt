-- `chars::char_len` meets its contract: each row is the definition's, by the range of the first octet.
use native.Mathlib.Omega.{arith}
use Rattle.chars.proofs.Places.{char_end, char_row, len_absent, len_one}
use Rattle.rfc3629.proofs.Rows.{lead_1, lead_2, lead_E0, lead_E1, lead_ED, lead_EE, lead_F0, lead_F1, lead_F4, lead_low, lead_high}
use Rattle.chars.proofs.char_len.Goals as goal

pub returns-then-word-at : goal.returns-then-word-at
returns-then-word-at c = char_end _ _ (omega arith)

pub returns-in-224 : goal.returns-in-224
returns-in-224 c = char_row _ _ _ _ (omega arith) (lead_E0 _ _ (omega arith) (omega arith)) c.followed.ensures

pub returns-in-237 : goal.returns-in-237
returns-in-237 c = char_row _ _ _ _ (omega arith) (lead_ED _ _ (omega arith) (omega arith)) c.followed-in-237.ensures

pub returns-in-240 : goal.returns-in-240
returns-in-240 c = char_row _ _ _ _ (omega arith) (lead_F0 _ _ (omega arith) (omega arith)) c.followed-in-240.ensures

pub returns-in-244 : goal.returns-in-244
returns-in-244 c = char_row _ _ _ _ (omega arith) (lead_F4 _ _ (omega arith) (omega arith)) c.followed-in-244.ensures

pub returns-in-0-to-127 : goal.returns-in-0-to-127
returns-in-0-to-127 c = char_row _ _ _ _ (omega arith) (lead_1 _ _ (omega arith)) len_one

pub returns-in-194-to-223 : goal.returns-in-194-to-223
returns-in-194-to-223 c = char_row _ _ _ _ (omega arith) (lead_2 _ _ (omega arith) (omega arith)) c.followed-in-194-to-223.ensures

pub returns-in-225-to-236 : goal.returns-in-225-to-236
returns-in-225-to-236 c = char_row _ _ _ _ (omega arith) (lead_E1 _ _ (omega arith) (omega arith)) c.followed-in-225-to-236.ensures

pub returns-in-238-to-239 : goal.returns-in-238-to-239
returns-in-238-to-239 c = char_row _ _ _ _ (omega arith) (lead_EE _ _ (omega arith) (omega arith)) c.followed-in-238-to-239.ensures

pub returns-in-241-to-243 : goal.returns-in-241-to-243
returns-in-241-to-243 c = char_row _ _ _ _ (omega arith) (lead_F1 _ _ (omega arith) (omega arith)) c.followed-in-241-to-243.ensures

pub returns-in_default : goal.returns-in_default
returns-in_default c = char_row _ _ _ _ (omega arith) (lead_low _ _ (omega arith) (omega arith)) len_absent

pub returns-in_default-2 : goal.returns-in_default-2
returns-in_default-2 c = char_row _ _ _ _ (omega arith) (lead_high _ _ (omega arith)) len_absent
