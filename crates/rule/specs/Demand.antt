-- Demand 3: "Before each merge, recount the words as the earlier merges left them: the chosen pair has the greatest weighted count among
-- pairs whose joined piece is within the length limit, among equals the lowest pair; the count is at least 1 and at least the minimum.
-- Training stops only at the vocabulary size or when no such pair is left." Said place by place, with no word on how a list is found.
use Rattle.std.specs.Prelude.{◌≡◌, true, List, [], ◌++◌, map, ◌⊎◌, ℕ, zero, suc, ◌+◌, ◌≤◌, ◌<◌, length, take, get_or}
use Rattle.rule.specs.Table.{Task}
use Rattle.rule.specs.Seeding.{Entry, seeds, kept}
use Rattle.rule.specs.Training.{count, rewrite_all, saving, joined_of, within, Merge}

-- the merge at a place, and past the end one that says nothing
abbrev pub merge_at : List Merge → ℕ → Merge
merge_at ms k = get_or ms k (record { left = 0; right = 0; saved = 0; spelled = [] })

-- the pieces when the first k merges are made: the seeds, then a piece for each merge
unfoldable pub pieces_after : Task → List Merge → ℕ → List (List ℕ)
pieces_after t ms k = seeds t ++ map (λ m. m.spelled) (take k ms)

-- "recount the words as the earlier merges left them": the kept words when the first k merges are made. Merge k makes the number alphabet length + k
unfoldable pub words_after : Task → List Merge → ℕ → List Entry
words_after t ms zero = kept t
words_after t ms (suc k) = rewrite_all (merge_at ms k).left (merge_at ms k).right (length (seeds t) + k) (words_after t ms k)

-- "Pairs are compared by left number, then right": (a,b) is the lower
abbrev pub Lower : ℕ → ℕ → ℕ → ℕ → Type 0
Lower a b p q = (a < p) ⊎ ((a ≡ p) × (b < q))

module _ (t : Task) (ps : List (List ℕ)) (es : List Entry) where
  -- a pair that may be merged: "within the length limit", "the count is at least 1 and at least the minimum"
  pub record Open (a b : ℕ) : Type 0 where
    pub in_limit : within t ps a b ≡ true
    pub occurs : 1 ≤ count a b es
    pub frequent : t.min_frequency ≤ count a b es

  -- "the greatest weighted count among pairs whose joined piece is within the length limit, among equals the lowest pair"
  pub record Chosen (a b : ℕ) : Type 0 where
    pub is_open : Open a b
    pub ahead : (p q : ℕ) → within t ps p q ≡ true → ((p ≡ a) × (q ≡ b) → ⊥)
        → (count p q es < count a b es) ⊎ ((count p q es ≡ count a b es) × Lower a b p q)

  -- a merge as it must be: the chosen pair, its saving, the joined spelling
  pub record Made (m : Merge) : Type 0 where
    pub chosen : Chosen m.left m.right
    pub saving_is : m.saved ≡ saving m.left m.right es
    pub spelling_is : m.spelled ≡ joined_of t ps m.left m.right

-- DEMAND 3 of a task's merges
pub record Demand (t : Task) (ms : List Merge) : Type 0 where
  -- each is as it must be, in the pieces and words as the earlier merges left them
  pub made : (k : ℕ) → k < length ms → Made t (pieces_after t ms k) (words_after t ms k) (merge_at ms k)
  -- the vocabulary size is not passed
  pub fits : length (seeds t) + length ms ≤ t.vocab_size
  -- "Training stops only at the vocabulary size or when no such pair is left"
  pub ends : (length (seeds t) + length ms ≡ t.vocab_size)
      ⊎ ((p q : ℕ) → Open t (pieces_after t ms (length ms)) (words_after t ms (length ms)) p q → ⊥)
