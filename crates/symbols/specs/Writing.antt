-- A list that is written over the front of a run, part by part; and reports written at a place.
use Rattle.std.specs.Prelude.{◌≡◌, ℕ, ◌+◌, ◌*◌, ◌≤◌, length, take, drop}
use mathlib.Core.List.{List, flat_map}
use Rattle.runs.specs.Parts.{laid}
use Rattle.rule.specs.Rewriting.{Report}
use Rattle.rule.specs.Outcome.{report_bytes}

-- the first k of `new` are written over `old`, and `rest` is still to come
pub record Writes (new old now : List ℕ) (k : ℕ) (rest : List ℕ) : Type 0 where
  pub is : now ≡ laid old 0 (take k new)
  pub todo : drop k new ≡ rest
  pub inside : k ≤ length new
  pub fits : length new ≤ length old

-- the reports qs are written at a place, and the next place is behind them
pub record Wrote (qs : List Report) (at : ℕ) (was is-now : List ℕ) (next : ℕ) : Type 0 where
  pub is : is-now ≡ laid was at (flat_map report_bytes qs)
  pub after : next ≡ at + 16 * length qs
  pub long : length is-now ≡ length was
