-- The laws of the answers: each by the tests that lead to it, and that a contract leaves one outcome. Assumes nothing.
use mathlib.Core.Path.{◌≡◌, refl, sym, ap, ◌∙◌}
use mathlib.Core.Bool.{Bool, true, false, ◌||◌}
use mathlib.Core.List.{List}
use Prim.Native.Nat.{ℕ, ◌+◌, ◌≤◌}
use lib.Dec.{ltb}
use lib.ListN.{length}
use borrow.Author.Tests.{lt-ltb, le-ltb, ltb-false}
use Rattle.lines.specs.declared.Parsed.{Parsed}
use Rattle.std.specs.Prelude.{Result, Option, Some, None, Err}
use Rattle.lines.specs.declared.ParseError.{ParseError}
use Rattle.lines.specs.declared.ParseError.TheVariants.{NoRoom, TooLong, BadLine}
use Rattle.lines.specs.Lines.{lines, too_long, first_bad}
use Rattle.lines.specs.Table.{word_bytes, end_bytes, frequency_bytes, no_room, table, parsed, leaves, Read, Filled}
use Rattle.lines.specs.Places.{Sought, Going}
use Rattle.lines.proofs.Writing.{going_first}
use Rattle.rule.proofs.Places.{either_false}

-- ROOM

pub has_room : (words ends frequencies : ℕ) → no_room words ends frequencies ≡ false → (1024 ≤ words) × (256 ≤ ends) × (512 ≤ frequencies)
unfolding no_room
has_room words ends frequencies e =
    let a = either_false (ltb words 1024) (ltb ends 256 || ltb frequencies 512) e in
    let b = either_false (ltb ends 256) (ltb frequencies 512) a.1 in
    (ltb-false words 1024 a.0, ltb-false ends 256 b.0, ltb-false frequencies 512 b.1)

-- LENGTH

pub not_long : (text : List ℕ) → too_long text ≡ false → (length text ≤ 1024) × (length (lines text) ≤ 64)
unfolding too_long
not_long text e =
    let a = either_false (ltb 1024 (length text)) (ltb 64 (length (lines text))) e in
    (ltb-false 1024 (length text) a.0, ltb-false 64 (length (lines text)) a.1)

-- THE ANSWERS

module _ (text w e f : List ℕ) (a : Bool) (p : a ≡ no_room (length w) (length e) (length f)) where
  pub read_roomless : a ≡ true → Read text (Err NoRoom) w e f w e f
  unfolding parsed leaves
  read_roomless t = record { is = rw (← p, t); words = refl; ends = refl; frequencies = refl }

  module _ (t : a ≡ false) (b : Bool) (q : b ≡ too_long text) where
    pub read_long : b ≡ true → Read text (Err TooLong) w e f w e f
    unfolding parsed leaves
    read_long u = record { is = rw (← p, t, ← q, u); words = refl; ends = refl; frequencies = refl }

    module _ (u : b ≡ false) (bad : Option ℕ) (d : Sought bad (first_bad text) (length (lines text))) where
      pub read_bad : (n : ℕ) → bad ≡ Some n → Read text (Err (BadLine (n + 1))) w e f w e f
      unfolding parsed leaves Sought
      read_bad n s =
          let k = rw s at d in
          record { is = rw (← p, t, ← q, u, ← k.0, lt-ltb n (length (lines text)) k.1); words = refl; ends = refl; frequencies = refl }

      good_lines : bad ≡ None → length (lines text) ≤ first_bad text
      unfolding Sought
      good_lines s = rw s at d

      pub read_can : bad ≡ None → Going (lines text) (lines text) w e f 0 0 w e f
      read_can s =
          let r = has_room (length w) (length e) (length f) (sym p ∙ t) in
          let l = not_long text (sym q ∙ u) in
          going_first text w e f l.0 l.1 (good_lines s) r.0 r.1 r.2

      pub read-table : (count bytes : ℕ) (w' e' f' : List ℕ) → bad ≡ None → count ≡ length (lines text) → Filled (lines text) bytes w e f w' e' f'
          → Read text (table count bytes) w e f w' e' f'
      unfolding parsed leaves
      read-table count bytes w' e' f' s c k = record {
        is = rw (← p, t, ← q, u, le-ltb (first_bad text) (length (lines text)) (good_lines s), ← c, ← k.is);
        words = k.words;
        ends = k.ends;
        frequencies = k.frequencies;
      }

-- ONE OUTCOME: of two that the contract of `parse` allows for the same text and runs, all is equal
pub read_single : {text : List ℕ} {r q : Result Parsed ParseError} {w e f w' e' f' w'' e'' f'' : List ℕ} → Read text r w e f w' e' f' → Read text q w e f w'' e'' f''
    → (r ≡ q) × (w' ≡ w'') × (e' ≡ e'') × (f' ≡ f'')
read_single {text} {r} {q} {w} {e} {f} a b =
    let s = a.is ∙ sym b.is in (
      s,
      a.words ∙ ap (λ (x : Result Parsed ParseError). leaves x w (word_bytes (lines text))) s ∙ sym b.words,
      a.ends ∙ ap (λ (x : Result Parsed ParseError). leaves x e (end_bytes 0 (lines text))) s ∙ sym b.ends,
      a.frequencies ∙ ap (λ (x : Result Parsed ParseError). leaves x f (frequency_bytes (lines text))) s ∙ sym b.frequencies,
    )
