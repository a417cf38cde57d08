-- Sums that the laws of the lazy rule speak of. No outcome is made of them.
use Rattle.std.specs.Prelude.{cond, List, [], ◌∷◌, ◌++◌, ℕ, ◌+◌, ◌*◌, ◌≤◌, eqb, length}
use Rattle.rule.specs.Table.{Task}
use Rattle.rule.specs.Seeding.{Entry}
use Rattle.rule.specs.Rewriting.{Report, rewrites, reports}
use Rattle.rule.specs.Sums.{in_use}
use Rattle.rule.specs.Training.{count, Choice, Merge}
use Rattle.lazy.specs.Lazy.{total, pieces_with, words_with}

-- the reports of a merge, of all words
unfoldable pub all_reports : ℕ → ℕ → ℕ → List Entry → List Report
all_reports a b x [] = []
all_reports a b x (e ∷ es) = reports a b x e.symbols ++ all_reports a b x es

-- how many of some reports lower a count
unfoldable pub downs : List Report → ℕ
downs [] = 0
downs (r ∷ rs) = cond r.up 0 1 + downs rs

-- the rewrites in all words, each word once
unfoldable pub all_rewrites : ℕ → ℕ → List Entry → ℕ
all_rewrites a b [] = 0
all_rewrites a b (e ∷ es) = rewrites a b e.symbols + all_rewrites a b es

-- 1 for an entry that is stale
unfoldable pub stale : List Entry → Choice → ℕ
stale es f = cond (eqb (count f.left f.right es) f.times) 0 1

-- THE POTENTIAL, of which each entry taken costs 1: a stale entry is taken twice, and a rewrite can make two stale and enter two
unfoldable pub potential : List Entry → List Choice → ℕ
potential es qu = length qu + total (stale es) qu + 4 * in_use es

-- the words after some merges, one after the other
unfoldable pub words_upon : Task → List (List ℕ) → List Entry → List Choice → List Entry
words_upon t ps es [] = es
words_upon t ps es (e ∷ cs) = words_upon t (pieces_with t ps e) (words_with ps es e) cs

-- savings that are at most c, and never rise
unfoldable pub FallsFrom : ℕ → List Merge → Type 0
FallsFrom c [] = Unit {0}
FallsFrom c (m ∷ ms) = (m.saved ≤ c) × FallsFrom m.saved ms
