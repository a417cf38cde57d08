-- The end of a merge: the touched pairs are settled one by one.
use Rattle.std.specs.Prelude.{◌≡◌, false, cond, List, [], ◌∷◌, ◌++◌, ℕ, ◌+◌, ◌*◌, ◌<◌, ◌≤◌, eqb, length}
use Rattle.runs.specs.Parts.{nth, part, Kept}
use Rattle.queue.specs.declared.Candidate.{Candidate}
use Rattle.queue.specs.Heap.{Heap}
use Rattle.queue.specs.Holding.{Holds}
use Rattle.marks.specs.Marks.{touched, gained, marked, marking}
use Rattle.states.specs.State.{State, blank, Change}
use Rattle.states.specs.Tracking.{Settled}
use Rattle.pairs.specs.View.{behind, record_of, key_in, state, made}
use Rattle.pairs.specs.Pairs.{Pairing, Has}
use Rattle.pairs.specs.declared.Pairs.{Pairs}
use Rattle.reports.specs.Reports.{beyond, keys_of, Listing}
use Rattle.waiting.specs.Waiting.{gainers}

-- n pairs are on the list, and the queue of m candidates from the cell q on has place for those of them that have gained
pub record CanSettle (p : Pairs) (q m n : ℕ) (cs : List ℕ) : Type 0 where
  pub ok : Pairing p cs
  pub e : ℕ
  pub listing : Listing p e n cs
  pub apart : beyond p ≤ q
  pub heap : Heap q m cs
  pub room : q + 2 * (m + length (gainers (state p cs) (keys_of p n cs))) ≤ length cs

-- WHAT SETTLING DOES: the marks are gone, pairs without a count have no record, and those that gained wait in the queue
pub record SettleDone (p : Pairs) (q m n : ℕ) (was is : List ℕ) (m' : ℕ) : Type 0 where
  pub ok : Pairing p is
  pub settled : (e : ℕ) → Listing p e n was → Settled e (state p was) (state p is)
  pub heap : (es : List Candidate) → Holds es q m was → Holds (es ++ gainers (state p was) (keys_of p n was)) q m' is
  pub merged : (e : ℕ) → Listing p e n was → 0 < e → record_of p is e ≡ record_of p was e
  pub same : made p is ≡ made p was
  pub count : m' ≡ m + length (gainers (state p was) (keys_of p n was))
  pub kept : Kept p.base (q + 2 * m') was is

-- ONE PAIR: marks without touched and gained
unfoldable pub cleared : ℕ → ℕ
cleared v = marking gained false (marking touched false v)

-- its state when it is settled
unfoldable pub settled : State → State
settled s = cond (eqb s.count 0) blank (record { count = s.count; marks = cleared s.marks; words = s.words })

-- the j-th on the list is its key's record, and there is place for its candidate if it has gained
pub record CanSettleOne (p : Pairs) (q m j : ℕ) (cs : List ℕ) : Type 0 where
  pub has : Has p (key_in p cs (nth cs (behind p + j))) (nth cs (behind p + j)) cs
  pub low : behind p + j < beyond p
  pub apart : beyond p ≤ q
  pub heap : Heap q m cs
  pub room : q + 2 * (m + length (gainers (state p cs) (key_in p cs (nth cs (behind p + j)) ∷ []))) ≤ length cs

-- the pair with the key k is settled: no other has changed, and the list of the touched stays
pub record OneSettled (p : Pairs) (q m k : ℕ) (was is : List ℕ) (m' : ℕ) : Type 0 where
  pub ok : Pairing p is
  pub change : Change k (settled (state p was k)) (state p was) (state p is)
  pub records : (c : ℕ) → 0 < c → (c ≡ k → ⊥) → record_of p is c ≡ record_of p was c
  pub list : (i : ℕ) → behind p ≤ i → i < beyond p → nth is i ≡ nth was i
  pub heap : Heap q m' is
  pub holds : (es : List Candidate) → Holds es q m was → Holds (es ++ gainers (state p was) (k ∷ [])) q m' is
  pub same : made p is ≡ made p was
  pub count : m' ≡ m + length (gainers (state p was) (k ∷ []))
  pub kept : Kept p.base (q + 2 * m') was is

-- the candidate of a pair with some marks, where it has gained
unfoldable pub gainer : ℕ → Candidate → List Candidate
gainer v c = cond (marked gained v) (c ∷ []) []

-- it waits in the queue, where there is place for it
pub record CanWait (q m : ℕ) (fs : List Candidate) (cs : List ℕ) : Type 0 where
  pub heap : Heap q m cs
  pub room : q + 2 * (m + length fs) ≤ length cs

pub record Waits (q m : ℕ) (fs : List Candidate) (was is : List ℕ) (m' : ℕ) : Type 0 where
  pub heap : Heap q m' is
  pub holds : (es : List Candidate) → Holds es q m was → Holds (es ++ fs) q m' is
  pub count : m' ≡ m + length fs
  pub kept : Kept q (q + 2 * m') was is

-- THE FIRST j ON THE LIST ARE SETTLED, the others and all else are as they were; w candidates wait
pub record Settling (p : Pairs) (q m n j : ℕ) (was is : List ℕ) (w : ℕ) : Type 0 where
  pub ok : Pairing p is
  pub done : (i : ℕ) → i < j → state p is (nth (keys_of p n was) i) ≡ settled (state p was (nth (keys_of p n was) i))
  pub rest : (c : ℕ) → 0 < c → ((i : ℕ) → i < j → nth (keys_of p n was) i ≡ c → ⊥) → state p is c ≡ state p was c
  pub records : (c : ℕ) → 0 < c → ((i : ℕ) → i < j → nth (keys_of p n was) i ≡ c → ⊥) → record_of p is c ≡ record_of p was c
  pub list : (i : ℕ) → behind p ≤ i → i < beyond p → nth is i ≡ nth was i
  pub heap : Heap q w is
  pub holds : (es : List Candidate) → Holds es q m was → Holds (es ++ gainers (state p was) (part 0 j (keys_of p n was))) q w is
  pub same : made p is ≡ made p was
  pub count : w ≡ m + length (gainers (state p was) (part 0 j (keys_of p n was)))
  pub kept : Kept p.base (q + 2 * w) was is
