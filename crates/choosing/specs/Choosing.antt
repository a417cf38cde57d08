-- The next merge by the queue: entries are taken until one tells the truth, counts enough and is within the limit; or there is none.
use Rattle.std.specs.Prelude.{◌≡◌, Option, Some, None, List, [], ◌∷◌, ℕ, ◌<◌, ◌≤◌, max, length}
use Rattle.rule.specs.Table.{Task}
use Rattle.rule.specs.Training.{Choice, count}
use Rattle.rule.specs.Demand.{Open, Chosen}
use Rattle.engine.specs.Engine.{Engaged, Limits, Waiting}
use Rattle.word.specs.Layout.{words_in}
use Rattle.engine.specs.declared.Engine.{Engine}
use Rattle.choosing.specs.declared.Next.{Next}

-- what is asked: the states track the words, and the queue waits
pub record CanChoose (g : Engine) (x : ℕ) (prefix : List ℕ) (limit : ℕ) (ps : List (List ℕ)) (cs : List ℕ) : Type 0 where
  pub engaged : Engaged g.words g.pairs g.queue x cs
  pub numbers : length ps ≡ x
  pub waiting : Waiting g.queue g.waiting g.turns g.pairs.most prefix limit ps (words_in g.words cs) [] cs

-- (a,b) is the pair of demand 3, with its count; its entry is taken out of the queue
pub record Picked (g : Engine) (x : ℕ) (prefix : List ℕ) (limit least : ℕ) (ps : List (List ℕ)) (cs ds : List ℕ) (h : Engine) (a b times : ℕ) : Type 0 where
  pub engaged : Engaged h.words h.pairs h.queue x ds
  pub view : words_in h.words ds ≡ words_in g.words cs
  pub long : length ds ≡ length cs
  pub times_is : times ≡ count a b (words_in g.words cs)
  pub enough : least ≤ times
  pub left : a < x
  pub right : b < x
  pub chosen : (t : Task) → Limits t prefix limit → max 1 t.min_frequency ≡ least → Chosen t ps (words_in g.words cs) a b
  pub entry : Choice
  pub left_is : entry.left ≡ a
  pub right_is : entry.right ≡ b
  pub waiting : Waiting h.queue h.waiting h.turns h.pairs.most prefix limit ps (words_in g.words cs) (entry ∷ []) ds

-- WHAT IS TOLD: the pair that demand 3 names, or that none may be merged
unfoldable pub NextDone : Option Next → Engine → ℕ → List ℕ → ℕ → ℕ → List (List ℕ) → List ℕ → List ℕ → Type 0
NextDone (Some n) g x prefix limit least ps cs ds = Picked g x prefix limit least ps cs ds n.engine n.left n.right n.count
NextDone None g x prefix limit least ps cs ds =
    (t : Task) → Limits t prefix limit → max 1 t.min_frequency ≡ least → (a b : ℕ) → Open t ps (words_in g.words cs) a b → ⊥
