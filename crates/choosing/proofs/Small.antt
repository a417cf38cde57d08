-- What the small functions go by: the symbols of a pair, its record, a stale entry corrected, a pair blocked. Assumes nothing.
use mathlib.Core.Path.{◌≡◌, refl, sym, ap, ◌∙◌}
use mathlib.Core.Bool.{true}
use mathlib.Core.List.{List}
use Prim.Native.Nat.{ℕ, ◌+◌, ◌-◌, ◌/◌, ◌%◌}
use native.Mathlib.Omega.{arith}
use Rattle.std.specs.Prelude.{Option, Some, MatchOption, IsSome}
use Rattle.std.proofs.lemmas.Bool.{some_since}
use Rattle.std.proofs.lemmas.Option.{MatchOption-at_some}
use Rattle.marks.specs.Marks.{blocked, marking}
use Rattle.states.specs.State.{State, left_of, right_of, Change}
use Rattle.pairs.specs.View.{record_of, state}
use Rattle.pairs.specs.Pairs.{Has, Updated}
use Rattle.pairs.specs.declared.Pairs.{Pairs}
use Rattle.pairs.proofs.Moves.{state_none}
use Rattle.pairs.proofs.Clients.{has_tied, counted_has}
use Rattle.choosing.specs.Turns.{Counts, Blocked, barred}

-- THE SYMBOLS OF A PAIR
pub left_is : (c : ℕ) → (c - 1) / 4294967296 ≡ left_of c
unfolding left_of
left_is c = refl

pub right_is : (c : ℕ) → (c - 1) % 4294967296 ≡ right_of c
unfolding right_of
right_is c = refl

-- THE RECORD OF A PAIR, where it has one
pub uncounted : (p : Pairs) (k : ℕ) (cs : List ℕ) → record_of p cs k ≡ 0 → 0 ≡ (state p cs k).count
uncounted p k cs z = ap (λ (s : State). s.count) (sym (state_none p cs k z))

module _ (p : Pairs) (k : ℕ) (cs : List ℕ) (c : Counts p k cs) (o : Option ℕ) (f : MatchOption o (record_of p cs k ≡ 0) (λ r. record_of p cs k ≡ r + 1)) where
  pub counts_found : IsSome o
  counts_found =
      some_since o (record_of p cs k ≡ 0) (λ r. record_of p cs k ≡ r + 1) f
      (λ z. absurd (omega (arith, z, counted_has c.ok c.pos c.some)))

  pub counts_has : (r : ℕ) → o ≡ Some r → Has p k r cs
  counts_has r i = has_tied c.ok c.pos (MatchOption-at_some (record_of p cs k ≡ 0) (λ r. record_of p cs k ≡ r + 1) r i f)

-- A PAIR BLOCKED
pub blocked-set : (p : Pairs) (k r v w : ℕ) (was is : List ℕ) → v ≡ (state p was k).marks → w ≡ marking blocked true v
    → Updated p k r (record { count = (state p was k).count; marks = w; words = (state p was k).words }) was is
    → Blocked p k was is
blocked-set p k r v w was is e f u = record {
  ok = u.has.ok;
  change = go w (f ∙ ap (marking blocked true) e) u.change;
  kept = u.kept;
  same = u.same;
}
  where
    go : (m : ℕ) → m ≡ marking blocked true (state p was k).marks
        → Change k (record { count = (state p was k).count; marks = m; words = (state p was k).words }) (state p was) (state p is)
        → Change k (barred (state p was k)) (state p was) (state p is)
    go m z h = rw z at h
