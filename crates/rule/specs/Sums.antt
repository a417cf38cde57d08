-- Sums that the laws of rewriting speak of. No outcome is made of them.
use Rattle.std.specs.Prelude.{cond, List, [], ◌∷◌, ℕ, ◌+◌, ◌*◌, ◌<◌, eqb, length}
use Rattle.rule.specs.Rewriting.{bit, is_pair, Report, rewrites, reports}
use Rattle.rule.specs.Seeding.{Entry}

-- "the signed reports for each pair": how often some reports raise (p,q)
unfoldable pub raised : ℕ → ℕ → List Report → ℕ
raised p q [] = 0
raised p q (r ∷ rs) = cond r.up (bit (is_pair p q r.left r.right)) 0 + raised p q rs

-- and how often they lower it
unfoldable pub lowered : ℕ → ℕ → List Report → ℕ
lowered p q [] = 0
lowered p q (r ∷ rs) = cond r.up 0 (bit (is_pair p q r.left r.right)) + lowered p q rs

-- how often a symbol stands in a word
unfoldable pub occurs : ℕ → List ℕ → ℕ
occurs x [] = 0
occurs x (s ∷ l) = bit (eqb s x) + occurs x l

-- every symbol of a word is below n
unfoldable pub Under : ℕ → List ℕ → Type 0
Under n [] = Unit {0}
Under n (s ∷ l) = (s < n) × Under n l

-- and of all kept words
unfoldable pub AllUnder : ℕ → List Entry → Type 0
AllUnder n [] = Unit {0}
AllUnder n (e ∷ es) = Under n e.symbols × AllUnder n es

-- over all kept words, each times its frequency: the symbols
unfoldable pub symbols_in : List Entry → ℕ
symbols_in [] = 0
symbols_in (e ∷ es) = e.frequency * length e.symbols + symbols_in es

-- and each word once: how many symbols they have
unfoldable pub in_use : List Entry → ℕ
in_use [] = 0
in_use (e ∷ es) = length e.symbols + in_use es

-- each times its frequency again: the rewrites of (a,b)
unfoldable pub rewrites_in : ℕ → ℕ → List Entry → ℕ
rewrites_in a b [] = 0
rewrites_in a b (e ∷ es) = e.frequency * rewrites a b e.symbols + rewrites_in a b es

-- what the reports raise (p,q) by
unfoldable pub gains : ℕ → ℕ → ℕ → ℕ → ℕ → List Entry → ℕ
gains p q a b x [] = 0
gains p q a b x (e ∷ es) = e.frequency * raised p q (reports a b x e.symbols) + gains p q a b x es

-- and lower it by
unfoldable pub losses : ℕ → ℕ → ℕ → ℕ → ℕ → List Entry → ℕ
losses p q a b x [] = 0
losses p q a b x (e ∷ es) = e.frequency * lowered p q (reports a b x e.symbols) + losses p q a b x es
