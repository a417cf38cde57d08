-- How the states of all pairs track some words, and what a list of reports makes of them. A family of states is a function from keys.
use Rattle.std.specs.Prelude.{◌≡◌, true, false, List, [], ◌∷◌, ◌⊎◌, ℕ, zero, suc, ◌+◌, ◌*◌, ◌<◌, ◌≤◌, length}
use Rattle.std.proofs.Math.Option.{Option, none, some}
use Rattle.runs.specs.Parts.{nth}
use Rattle.rule.specs.Rewriting.{Report, count_in, more}
use Rattle.rule.specs.Seeding.{Entry}
use Rattle.rule.specs.Sums.{raised, lowered}
use Rattle.rule.specs.Training.{count}
use Rattle.word.specs.Layout.{entry_at}
use Rattle.merge.specs.Merging.{change_at}
use Rattle.marks.specs.Marks.{touched, gained, marked}
use Rattle.states.specs.State.{State, most, key, left_of, right_of, OfPair, Among}

-- THE STATES TRACK THE WORDS: a pair's count is the one that a recount finds, and its list has every word that holds it (others may stand in it too).
-- Of the pair with the key e, which is being merged, the count is no less; where no pair is, e is 0
pub record Tracks (σ : ℕ → State) (e : ℕ) (es : List Entry) : Type 0 where
  pub exact : (p q : ℕ) → p < most → q < most → (key p q ≡ e → ⊥) → (σ (key p q)).count ≡ count p q es
  pub least : (p q : ℕ) → p < most → q < most → count p q es ≤ (σ (key p q)).count
  pub covers : (p q k : ℕ) → p < most → q < most → 1 ≤ count_in p q (entry_at es k).symbols → Among k (σ (key p q)).words
  pub inside : (c k : ℕ) → 0 < c → Among k (σ c).words → k < length es

-- some reports raise the pair with the key c
pub record Raises (c : ℕ) (rs : List Report) : Type 0 where
  pub pair : OfPair c
  pub some : 1 ≤ raised (left_of c) (right_of c) rs

-- SOME REPORTS of the word k, each f times, are applied
pub record Reported (f k : ℕ) (rs : List Report) (was is : ℕ → State) : Type 0 where
  pub counts : (p q : ℕ) → p < most → q < most → (is (key p q)).count + f * lowered p q rs ≡ (was (key p q)).count + f * raised p q rs
  pub grown : (c j : ℕ) → 0 < c → Among j (was c).words → Among j (is c).words
  pub known : (c j : ℕ) → 0 < c → (j ≡ k → ⊥) → Among j (is c).words → Among j (was c).words
  pub noted : (p q : ℕ) → p < most → q < most → 1 ≤ raised p q rs → Among k (is (key p q)).words
  pub still : (p q : ℕ) → p < most → q < most → raised p q rs ≡ 0 → (is (key p q)).words ≡ (was (key p q)).words
  pub gains : (p q : ℕ) → p < most → q < most → 1 ≤ raised p q rs → marked gained (is (key p q)).marks ≡ true
  pub keeps : (c : ℕ) → 0 < c → marked gained (was c).marks ≡ true → marked gained (is c).marks ≡ true
  pub only : (c : ℕ) → 0 < c → marked gained (is c).marks ≡ true → (marked gained (was c).marks ≡ true) ⊎ Raises c rs

-- every number of a report is small
unfoldable pub Small : List Report → Type 0
Small [] = Unit {0}
Small (r ∷ rs) = (r.left < most) × (r.right < most) × Small rs

-- the reports that a word adds when it is first counted: +1 for each adjacent position
unfoldable pub mores : List ℕ → List Report
mores [] = []
mores (a ∷ []) = []
mores (a ∷ b ∷ r) = more a b ∷ mores (b ∷ r)

-- the words from k on as if they had no symbols yet
unfoldable pub up_to : ℕ → List Entry → List Entry
up_to k [] = []
up_to zero (e ∷ es) = record { frequency = e.frequency; symbols = [] } ∷ up_to zero es
up_to (suc k) (e ∷ es) = e ∷ up_to k es

-- word k has the symbols l
abbrev pub with_word : ℕ → List ℕ → List Entry → List Entry
with_word k l es = change_at (λ _. l) k es

-- A MERGE THAT MAKES x: the pairs that have gained hold x, and a pair that holds x and counts has gained
pub record Gaining (σ : ℕ → State) (x : ℕ) : Type 0 where
  pub left : (q : ℕ) → q < most → 1 ≤ (σ (key x q)).count → marked gained (σ (key x q)).marks ≡ true
  pub right : (p : ℕ) → p < most → 1 ≤ (σ (key p x)).count → marked gained (σ (key p x)).marks ≡ true
  pub holds : (c : ℕ) → 0 < c → marked gained (σ c).marks ≡ true → OfPair c × ((left_of c ≡ x) ⊎ (right_of c ≡ x))

-- A FIRST COUNT: a pair that counts has gained, and what has gained is a pair
pub record AllGained (σ : ℕ → State) : Type 0 where
  pub counts : (p q : ℕ) → p < most → q < most → 1 ≤ (σ (key p q)).count → marked gained (σ (key p q)).marks ≡ true
  pub pairs : (c : ℕ) → 0 < c → marked gained (σ c).marks ≡ true → OfPair c

-- no pair is touched, none has gained
pub record Calm (σ : ℕ → State) : Type 0 where
  pub untouched : (c : ℕ) → 0 < c → marked touched (σ c).marks ≡ false
  pub ungained : (c : ℕ) → 0 < c → marked gained (σ c).marks ≡ false

-- THE TOUCHED PAIRS of a merge, each once, but for e; what has gained is touched
pub record Touching (σ : ℕ → State) (e : ℕ) (ks : List ℕ) : Type 0 where
  pub once : (i j : ℕ) → i < j → j < length ks → nth ks i ≡ nth ks j → ⊥
  pub touches : (j : ℕ) → j < length ks → marked touched (σ (nth ks j)).marks ≡ true
  pub other : (j : ℕ) → j < length ks → nth ks j ≡ e → ⊥
  pub some : (j : ℕ) → j < length ks → 0 < nth ks j
  pub listed : (c : ℕ) → 0 < c → (c ≡ e → ⊥) → marked touched (σ c).marks ≡ true → Among c ks
  pub gains : (c : ℕ) → 0 < c → marked gained (σ c).marks ≡ true → marked touched (σ c).marks ≡ true
  pub merging : 0 < e → marked touched (σ e).marks ≡ true
  pub ungained : 0 < e → marked gained (σ e).marks ≡ false

-- the last symbol of some, where there is one
unfoldable pub last_of : List ℕ → Option ℕ
last_of [] = none
last_of (s ∷ []) = some s
last_of (s ∷ t ∷ r) = last_of (t ∷ r)

-- every frequency is at least 1
abbrev pub Weighed : List Entry → Type 0
Weighed es = (k : ℕ) → k < length es → 1 ≤ (entry_at es k).frequency

-- THE TOUCHED PAIRS ARE DONE WITH: no marks are left but on e; a pair without a count may have lost its words
pub record Settled (e : ℕ) (was is : ℕ → State) : Type 0 where
  pub counts : (c : ℕ) → 0 < c → (is c).count ≡ (was c).count
  pub words : (c : ℕ) → 0 < c → 1 ≤ (was c).count → (is c).words ≡ (was c).words
  pub inside : (c j : ℕ) → 0 < c → Among j (is c).words → Among j (was c).words
  pub untouched : (c : ℕ) → 0 < c → (c ≡ e → ⊥) → marked touched (is c).marks ≡ false
  pub ungained : (c : ℕ) → 0 < c → (c ≡ e → ⊥) → marked gained (is c).marks ≡ false
  pub merged : 0 < e → is e ≡ was e
