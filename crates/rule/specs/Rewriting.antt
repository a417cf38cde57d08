-- Rewriting a pair in a word: what `merge_symbols` has to do.
-- A word is cut from left to right, once, into spans: a symbol that stays, or an occurrence of the pair. All else is read off the spans.
use Rattle.std.specs.Prelude.{Bool, true, false, cond, ◌&&◌, List, [], ◌∷◌, ◌++◌, ℕ, suc, ◌+◌, eqb}
use Rattle.std.proofs.Math.Option.{Option, none, some}

-- 1 where a test holds
abbrev pub bit : Bool → ℕ
bit c = cond c 1 0

-- (s,t) is the pair (a,b)
abbrev pub is_pair : ℕ → ℕ → ℕ → ℕ → Bool
is_pair a b s t = eqb s a && eqb t b

-- one symbol that stays, or the pair
pub data Span : Type 0 where
  one : ℕ → Span
  hit : Span

-- "goes left to right without overlap"
unfoldable pub cut : ℕ → ℕ → List ℕ → List Span
cut a b [] = []
cut a b (s ∷ []) = one s ∷ []
cut a b (s ∷ t ∷ r) = cond (is_pair a b s t) (hit ∷ cut a b r) (one s ∷ cut a b (t ∷ r))

-- what the spans were
unfoldable pub src : ℕ → ℕ → List Span → List ℕ
src a b [] = []
src a b (one s ∷ ps) = s ∷ src a b ps
src a b (hit ∷ ps) = a ∷ b ∷ src a b ps

-- what they become
unfoldable pub out : ℕ → List Span → List ℕ
out x [] = []
out x (one s ∷ ps) = s ∷ out x ps
out x (hit ∷ ps) = x ∷ out x ps

-- "occurrences rewritten"
unfoldable pub hits : List Span → ℕ
hits [] = 0
hits (one s ∷ ps) = hits ps
hits (hit ∷ ps) = suc (hits ps)

-- a report: (left,right) +1 or -1
pub record Report : Type 0 where
  pub left : ℕ
  pub right : ℕ
  pub up : Bool

-- -1 and +1
abbrev pub less : ℕ → ℕ → Report
less p q = record { left = p; right = q; up = false }

abbrev pub more : ℕ → ℕ → Report
more p q = record { left = p; right = q; up = true }

-- "if a symbol stands before it in the rewritten word: (previous,a) -1 and (previous,X) +1"
unfoldable pub before : ℕ → ℕ → Option ℕ → List Report
before a x none = []
before a x (some p) = less p a ∷ more p x ∷ []

-- "if a symbol follows: (b,next) -1 and (X,next) +1"
unfoldable pub after : ℕ → ℕ → List ℕ → List Report
after b x [] = []
after b x (n ∷ r) = less b n ∷ more x n ∷ []

-- "For each rewrite in turn"
unfoldable pub reports_from : ℕ → ℕ → ℕ → Option ℕ → List Span → List Report
reports_from a b x p [] = []
reports_from a b x p (one s ∷ ps) = reports_from a b x (some s) ps
reports_from a b x p (hit ∷ ps) = before a x p ++ after b x (src a b ps) ++ reports_from a b x (some x) ps

-- "Rewriting (a,b) to X": the word that it gives
unfoldable pub rewrite : ℕ → ℕ → ℕ → List ℕ → List ℕ
rewrite a b x w = out x (cut a b w)

-- how often it rewrites
unfoldable pub rewrites : ℕ → ℕ → List ℕ → ℕ
rewrites a b w = hits (cut a b w)

-- what it reports
unfoldable pub reports : ℕ → ℕ → ℕ → List ℕ → List Report
reports a b x w = reports_from a b x none (cut a b w)

-- whether s and what follows it hold the pair
unfoldable pub link : ℕ → ℕ → ℕ → List ℕ → ℕ
link a b s [] = 0
link a b s (t ∷ r) = bit (is_pair a b s t)

-- "adjacent positions holding the pair. Overlaps count: `a a a` holds (a,a) twice"
unfoldable pub count_in : ℕ → ℕ → List ℕ → ℕ
count_in a b [] = 0
count_in a b (s ∷ r) = link a b s r + count_in a b r
