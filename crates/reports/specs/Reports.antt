-- What a report does to the states of the pairs, and the list of the pairs that a merge touched: their records, one a cell, behind the pair states.
use Rattle.std.specs.Prelude.{◌≡◌, Bool, true, cond, List, [], ◌∷◌, map, ℕ, ◌+◌, ◌*◌, ◌^◌, ◌<◌, ◌≤◌, length}
use Rattle.runs.specs.Parts.{nth, part, Kept}
use Rattle.rule.specs.Rewriting.{Report, less, more}
use Rattle.rule.specs.Sums.{raised, lowered}
use Rattle.marks.specs.Marks.{touched, gained, marking}
use Rattle.states.specs.State.{State, most, key, raise, lower, Change}
use Rattle.states.specs.Tracking.{Reported, Small, Touching}
use Rattle.pairs.specs.View.{behind, record_of, key_in, state, made}
use Rattle.pairs.specs.Pairs.{Pairing, Has}
use Rattle.pairs.specs.declared.Pairs.{Pairs}

-- what lies behind the list of the touched
abbrev pub beyond : Pairs → ℕ
beyond p = behind p + 2 * p.most

-- the keys of the first n on the list
unfoldable pub keys_of : Pairs → ℕ → List ℕ → List ℕ
keys_of p n cs = map (key_in p cs) (part (behind p) n cs)

-- THE LIST: each of its n records is its key's, and the keys are those that a merge touched; e is the pair that is merged
pub record Listing (p : Pairs) (e n : ℕ) (cs : List ℕ) : Type 0 where
  pub room : beyond p ≤ length cs
  pub few : n ≤ 2 * p.most
  pub link : (j : ℕ) → j < n → record_of p cs (nth (keys_of p n cs) j) ≡ nth cs (behind p + j) + 1
  pub touching : Touching (state p cs) e (keys_of p n cs)

-- a record stays a key's record
abbrev pub Staying : Pairs → List ℕ → List ℕ → Type 0
Staying p was is = (q v : ℕ) → 0 < q → record_of p was q ≡ v + 1 → record_of p is q ≡ v + 1

-- A TOUCH, with a gain or without
unfoldable pub touch : Bool → State → State
touch gain s = record { count = s.count; marks = cond gain (marking gained true (marking touched true s.marks)) (marking touched true s.marks); words = s.words }

pub record CanTouch (p : Pairs) (k r n : ℕ) (cs : List ℕ) : Type 0 where
  pub has : Has p k r cs
  pub room : beyond p ≤ length cs
  pub few : n < 2 * p.most

pub record TouchDone (p : Pairs) (k r n : ℕ) (gain : Bool) (was is : List ℕ) (n' : ℕ) : Type 0 where
  pub has : Has p k r is
  pub change : Change k (touch gain (state p was k)) (state p was) (state p is)
  pub listing : (e : ℕ) → (gain ≡ true → k ≡ e → ⊥) → Listing p e n was → Listing p e n' is
  pub records : (q : ℕ) → 0 < q → record_of p is q ≡ record_of p was q
  pub same : made p is ≡ made p was
  pub least : n ≤ n'
  pub most : n' ≤ n + 1
  pub kept : Kept p.base (beyond p) was is

-- +1, f times, of the pair (a,b) in the word w
pub record CanRaise (p : Pairs) (n a b f : ℕ) (cs : List ℕ) : Type 0 where
  pub ok : Pairing p cs
  pub left : a < most
  pub right : b < most
  pub space : made p cs < p.most
  pub room : beyond p ≤ length cs
  pub few : n < 2 * p.most
  pub fits : (state p cs (key a b)).count + f < 2 ^ 64

pub record RaiseDone (p : Pairs) (n a b f w : ℕ) (was is : List ℕ) (n' : ℕ) : Type 0 where
  pub ok : Pairing p is
  pub change : Change (key a b) (raise f w (state p was (key a b))) (state p was) (state p is)
  pub listing : (e : ℕ) → (key a b ≡ e → ⊥) → Listing p e n was → Listing p e n' is
  pub records : Staying p was is
  pub more : made p is ≡ made p was + 1
  pub least : n ≤ n'
  pub most : n' ≤ n + 1
  pub kept : Kept p.base (beyond p) was is

-- -1, f times
pub record CanLower (p : Pairs) (n a b f : ℕ) (cs : List ℕ) : Type 0 where
  pub ok : Pairing p cs
  pub left : a < most
  pub right : b < most
  pub room : beyond p ≤ length cs
  pub few : n < 2 * p.most
  pub some : 1 ≤ (state p cs (key a b)).count
  pub enough : f ≤ (state p cs (key a b)).count

pub record LowerDone (p : Pairs) (n a b f : ℕ) (was is : List ℕ) (n' : ℕ) : Type 0 where
  pub ok : Pairing p is
  pub change : Change (key a b) (lower f (state p was (key a b))) (state p was) (state p is)
  pub listing : (e : ℕ) → Listing p e n was → Listing p e n' is
  pub records : Staying p was is
  pub same : made p is ≡ made p was
  pub least : n ≤ n'
  pub most : n' ≤ n + 1
  pub kept : Kept p.base (beyond p) was is

-- THE REPORTS OF ONE SIDE OF A STEP where a symbol stands there: (a,b) -1 and (c,d) +1
abbrev pub swapped : ℕ → ℕ → ℕ → ℕ → List Report
swapped a b c d = less a b ∷ more c d ∷ []

pub record CanSide (p : Pairs) (n : ℕ) (rs : List Report) (f : ℕ) (cs : List ℕ) : Type 0 where
  pub ok : Pairing p cs
  pub small : Small rs
  pub some : 1 ≤ f
  pub space : made p cs < p.most
  pub room : beyond p ≤ length cs
  pub few : n + 2 ≤ 2 * p.most
  pub enough : (a b : ℕ) → a < most → b < most → f * lowered a b rs ≤ (state p cs (key a b)).count
  pub fits : (a b : ℕ) → a < most → b < most → 1 ≤ raised a b rs → (state p cs (key a b)).count + f < 2 ^ 64

pub record SideDone (p : Pairs) (n : ℕ) (rs : List Report) (f w : ℕ) (was is : List ℕ) (n' : ℕ) : Type 0 where
  pub ok : Pairing p is
  pub reported : Reported f w rs (state p was) (state p is)
  pub listing : (e : ℕ) → ((a b : ℕ) → a < most → b < most → e ≡ key a b → raised a b rs ≡ 0) → Listing p e n was → Listing p e n' is
  pub records : Staying p was is
  pub least : made p was ≤ made p is
  pub more : made p is ≤ made p was + 1
  pub most : n' ≤ n + 2
  pub kept : Kept p.base (beyond p) was is

-- ALL REPORTS OF A STEP
pub record CanReport (p : Pairs) (n : ℕ) (rs : List Report) (f : ℕ) (cs : List ℕ) : Type 0 where
  pub ok : Pairing p cs
  pub small : Small rs
  pub some : 1 ≤ f
  pub space : made p cs + 2 ≤ p.most
  pub room : beyond p ≤ length cs
  pub few : n + 4 ≤ 2 * p.most
  pub enough : (a b : ℕ) → a < most → b < most → f * lowered a b rs ≤ (state p cs (key a b)).count
  pub fits : (a b : ℕ) → a < most → b < most → 1 ≤ raised a b rs → (state p cs (key a b)).count + 2 * f < 2 ^ 64

pub record ReportDone (p : Pairs) (n : ℕ) (rs : List Report) (f w : ℕ) (was is : List ℕ) (n' : ℕ) : Type 0 where
  pub ok : Pairing p is
  pub reported : Reported f w rs (state p was) (state p is)
  pub listing : (e : ℕ) → ((a b : ℕ) → a < most → b < most → e ≡ key a b → raised a b rs ≡ 0) → Listing p e n was → Listing p e n' is
  pub records : Staying p was is
  pub least : made p was ≤ made p is
  pub more : made p is ≤ made p was + 2
  pub most : n' ≤ n + 4
  pub kept : Kept p.base (beyond p) was is
