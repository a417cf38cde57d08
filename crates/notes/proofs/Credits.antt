-- The cells that a list has brought and not used: why its next run fits. Assumes nothing.
use mathlib.Core.Path.{◌≡◌, refl, ap}
use mathlib.Core.List.{List}
use Prim.Native.Nat.{ℕ, zero, suc, ◌+◌, ◌-◌, ◌*◌, ◌<◌, ◌≤◌}
use native.Mathlib.Omega.{arith}
use borrow.Author.Tests.{lt-ltb, le-ltb, ne_eqb}
use Rattle.runs.proofs.Parts.{same_or_not}
use Rattle.pairs.specs.View.{key_in, many, capacity, top, sum, credit, spent}
use Rattle.pairs.specs.Pairs.{Pairing}
use Rattle.pairs.specs.declared.Pairs.{Pairs}

-- one term of a sum is no more than all
sum_least : (n : ℕ) (f : ℕ → ℕ) (r : ℕ) → r < n → f r ≤ sum n f
unfolding sum
sum_least zero f r h = absurd (omega arith)
sum_least (suc n) f r h =
    same_or_not r n (λ e. omega (arith, ap f e)) (λ e. let i = sum_least n f r (omega arith) in omega (arith, i))

module _ (p : Pairs) (cs : List ℕ) (r : ℕ) (live : 0 < key_in p cs r) where
  pub credit-short : many p cs r ≤ 4 → credit p cs r ≡ 4 * many p cs r
  unfolding credit
  credit-short h = rw (ne_eqb (key_in p cs r) 0 (omega arith), le-ltb 4 (many p cs r) h) (omega arith)

  pub credit_long : 4 < many p cs r → credit p cs r ≡ 4 * many p cs r - 2 * capacity p cs r
  unfolding credit
  credit_long h = rw (ne_eqb (key_in p cs r) 0 (omega arith), lt-ltb 4 (many p cs r) h) refl

-- there is space for as many cells as one list has left
pub credit_space : (p : Pairs) (cs : List ℕ) (r : ℕ) → Pairing p cs → r < p.most → top p cs + credit p cs r ≤ 4 * p.most
unfolding spent
credit_space p cs r ok low = omega (arith, ok.cells, ok.bound, sum_least p.most (credit p cs) r low)
