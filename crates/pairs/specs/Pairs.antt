-- The invariant of the pair states, and what each function does to the view.
use Rattle.std.specs.Prelude.{◌≡◌, List, ◌⊎◌, ℕ, ◌+◌, ◌*◌, ◌<◌, ◌≤◌, length}
use Rattle.runs.specs.Parts.{Kept}
use Rattle.index.specs.Index.{Index, vacant, idle}
use Rattle.records.specs.Records.{Arena, taken, free}
use Rattle.states.specs.State.{State, blank, Change}
use Rattle.pairs.specs.View.{arena_at, behind, record_of, key_in, many, place, capacity, state, top, made, spent}
use Rattle.pairs.specs.declared.Pairs.{Pairs}

-- a key's record has that key: so no two keys have one record
pub record Tied (p : Pairs) (k r : ℕ) (cs : List ℕ) : Type 0 where
  pub low : r < p.most
  pub key : key_in p cs r ≡ k

-- a long list of words lies in its run, and the run below the top
pub record Run (p : Pairs) (cs : List ℕ) (r : ℕ) : Type 0 where
  pub fits : many p cs r ≤ capacity p cs r
  pub below : place p cs r + capacity p cs r ≤ top p cs

-- a live record with a long list
pub record Long (p : Pairs) (cs : List ℕ) (r : ℕ) : Type 0 where
  pub low : r < p.most
  pub live : 0 < key_in p cs r
  pub long : 4 < many p cs r

-- THE INVARIANT: a key that is found has its record, and index, records and lists take no more than was asked for (`even`, `few`, `slots`, `cells`)
pub record Pairing (p : Pairs) (cs : List ℕ) : Type 0 where
  pub ix : Index p.base p.cap cs
  pub ar : Arena (arena_at p) p.most cs
  pub room : behind p ≤ length cs
  pub tied : (k r : ℕ) → 0 < k → record_of p cs k ≡ r + 1 → Tied p k r cs
  pub even : idle p.base p.cap cs + taken (arena_at p) cs ≡ p.cap + free (arena_at p) cs
  pub few : taken (arena_at p) cs ≤ made p cs
  pub slots : p.cap ≤ vacant p.base p.cap cs + made p cs
  pub cells : spent p cs ≤ 4 * made p cs
  pub bound : made p cs ≤ p.most
  pub wide : p.most < p.cap
  pub runs : (r : ℕ) → Long p cs r → Run p cs r
  pub apart : (r s : ℕ) → (r ≡ s → ⊥) → Long p cs r → Long p cs s
      → (place p cs r + capacity p cs r ≤ place p cs s) ⊎ (place p cs s + capacity p cs s ≤ place p cs r)

-- the pair with key k has the record r
pub record Has (p : Pairs) (k r : ℕ) (cs : List ℕ) : Type 0 where
  pub ok : Pairing p cs
  pub pos : 0 < k
  pub at : record_of p cs k ≡ r + 1
  pub low : r < p.most

pub record CanEnter (p : Pairs) (k : ℕ) (cs : List ℕ) : Type 0 where
  pub ok : Pairing p cs
  pub pos : 0 < k
  pub space : made p cs < p.most

-- k has the record r now, and no state has changed
pub record Entered (p : Pairs) (k r : ℕ) (was is : List ℕ) : Type 0 where
  pub has : Has p k r is
  pub states : (q : ℕ) → 0 < q → state p is q ≡ state p was q
  pub records : (q : ℕ) → 0 < q → (q ≡ k → ⊥) → record_of p is q ≡ record_of p was q
  pub old : (v : ℕ) → record_of p was k ≡ v + 1 → r ≡ v
  pub kept : Kept p.base (behind p) was is
  pub more : made p is ≡ made p was + 1
  pub less : spent p is ≤ spent p was

-- k has no record now, and no other state has changed
pub record Removed (p : Pairs) (k : ℕ) (was is : List ℕ) : Type 0 where
  pub ok : Pairing p is
  pub gone : record_of p is k ≡ 0
  pub change : Change k blank (state p was) (state p is)
  pub records : (q : ℕ) → 0 < q → (q ≡ k → ⊥) → record_of p is q ≡ record_of p was q
  pub kept : Kept p.base (behind p) was is
  pub same : made p is ≡ made p was
  pub less : spent p is ≤ spent p was

-- the state of k is s now, and no other has changed
pub record Updated (p : Pairs) (k r : ℕ) (s : State) (was is : List ℕ) : Type 0 where
  pub has : Has p k r is
  pub change : Change k s (state p was) (state p is)
  pub records : (q : ℕ) → 0 < q → record_of p is q ≡ record_of p was q
  pub kept : Kept p.base (behind p) was is
  pub same : made p is ≡ made p was
  pub less : spent p is ≤ spent p was

-- the pair states are as they were
pub record SamePairs (p : Pairs) (was is : List ℕ) : Type 0 where
  pub ok : Pairing p is
  pub states : (q : ℕ) → 0 < q → state p is q ≡ state p was q
  pub records : (q : ℕ) → 0 < q → record_of p is q ≡ record_of p was q
  pub same : made p is ≡ made p was
  pub less : spent p is ≡ spent p was

-- pair states of which there are none yet
pub record Empty (p : Pairs) (cs : List ℕ) : Type 0 where
  pub ok : Pairing p cs
  pub states : (q : ℕ) → 0 < q → state p cs q ≡ blank
  pub none : made p cs ≡ 0

-- THE PARTS OF AN ENTRY: it is counted, and nothing else has changed
pub record Asked (p : Pairs) (was is : List ℕ) : Type 0 where
  pub ok : Pairing p is
  pub states : (q : ℕ) → 0 < q → state p is q ≡ state p was q
  pub records : (q : ℕ) → 0 < q → record_of p is q ≡ record_of p was q
  pub kept : Kept p.base (behind p) was is
  pub more : made p is ≡ made p was + 1
  pub less : spent p is ≡ spent p was
  pub slots : p.cap < vacant p.base p.cap is + made p is
  pub few : taken (arena_at p) is < made p is

-- and a record made, for which there is place
pub record CanMake (p : Pairs) (k : ℕ) (cs : List ℕ) : Type 0 where
  pub ok : Pairing p cs
  pub pos : 0 < k
  pub none : record_of p cs k ≡ 0
  pub slots : p.cap < vacant p.base p.cap cs + made p cs
  pub few : taken (arena_at p) cs < made p cs

pub record Made (p : Pairs) (k r : ℕ) (was is : List ℕ) : Type 0 where
  pub has : Has p k r is
  pub states : (q : ℕ) → 0 < q → state p is q ≡ state p was q
  pub records : (q : ℕ) → 0 < q → (q ≡ k → ⊥) → record_of p is q ≡ record_of p was q
  pub kept : Kept p.base (behind p) was is
  pub same : made p is ≡ made p was
  pub less : spent p is ≤ spent p was
