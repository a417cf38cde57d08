-- `alphabet::seed_bytes` meets its contract: each byte value in turn, the last of which is 255.
use mathlib.Core.Path.{refl}
use Prim.Native.Nat.{◌+◌}
use native.Mathlib.Omega.{arith}
use borrow.Author.Rules.{rules}
use Rattle.alphabet.proofs.Going.{going_start, going_can, byte_next, byte_out, byte_end}
use Rattle.alphabet.proofs.seed_bytes.Goals as goal

ruleset laws = (going_start, going_can, byte_next, byte_out, byte_end, rules)

pub intern_plain-requires : goal.intern_plain-requires
intern_plain-requires c = search laws

pub returns-in_err-filled : goal.returns-in_err-filled
returns-in_err-filled c = search laws

pub loop-b-preserved : goal.loop-b-preserved
loop-b-preserved c =
    let l = c.loop-b in
    byte_next _ _ _ _ _ _ _ _ _ _ _ l.filled 256 l.b l.invariant (omega arith) _ _ _ _ c.in_ok-filled.ensures

pub returns-in_ok-filled : goal.returns-in_ok-filled
returns-in_ok-filled c =
    let l = c.loop-b in
    byte_end _ _ _ _ _ _ _ _ _ _ _ c.in_ok-filled.filled 256 (l.b + 1)
    (byte_next _ _ _ _ _ _ _ _ _ _ _ l.filled 256 l.b l.invariant (omega arith) _ _ _ _ c.in_ok-filled.ensures)
    refl (omega arith)
