-- What holds of the queue between two turns.
use Rattle.std.specs.Prelude.{◌≡◌, true, List, [], ◌∷◌, ℕ, ◌≤◌, ◌<◌, length}
use Rattle.rule.specs.Table.{Task}
use Rattle.rule.specs.Seeding.{Entry}
use Rattle.rule.specs.Training.{count, within, Choice}
use Rattle.rule.specs.Sums.{AllUnder}
use Rattle.lazy.specs.Lazy.{insert, entries}

-- e stands before f in the order of choice, or is f. A record of ≤, so that arithmetic reads it whole
pub record First (e f : Choice) : Type 0 where
  pub counts : f.times ≤ e.times
  pub lefts : f.times ≡ e.times → e.left ≤ f.left
  pub rights : f.times ≡ e.times → e.left ≡ f.left → e.right ≤ f.right

-- what holds of every entry
abbrev pub Every : (Choice → Type 0) → List Choice → Type 0
Every P [] = Unit {0}
Every P (e ∷ qu) = P e × Every P qu

-- in the order of choice
abbrev pub Sorted : List Choice → Type 0
Sorted [] = Unit {0}
Sorted (e ∷ qu) = Every (First e) qu × Sorted qu

-- THE QUEUE OF ANY LIST OF ENTRIES, such as a heap's
unfoldable pub ordered : List Choice → List Choice
ordered [] = []
ordered (e ∷ l) = insert e (ordered l)

-- an entry that promises no less than its pair has, of numbers in use
pub record Fair (ps : List (List ℕ)) (es : List Entry) (f : Choice) : Type 0 where
  pub promise : count f.left f.right es ≤ f.times
  pub left_known : f.left < length ps
  pub right_known : f.right < length ps

-- THE INVARIANT: the queue is in order, with one entry at most for a pair and one for each pair within the limit that occurs (an over-long one may be
-- gone for good); an entry may be stale, but then it promises too much
pub record Inv (t : Task) (ps : List (List ℕ)) (es : List Entry) (qu : List Choice) : Type 0 where
  pub sound : AllUnder (length ps) es
  pub sorted : Sorted qu
  pub unique : (p q : ℕ) → entries p q qu ≤ 1
  pub present : (p q : ℕ) → within t ps p q ≡ true → 1 ≤ count p q es → 1 ≤ entries p q qu
  pub fair : Every (Fair ps es) qu
