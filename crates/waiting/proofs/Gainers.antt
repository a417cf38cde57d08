-- The candidates of one list of touched pairs after another. Assumes nothing.
use mathlib.Core.Path.{◌≡◌, refl, ap, ◌∙◌}
use mathlib.Core.Bool.{Bool, true, false, cond, ◌&&◌}
use mathlib.Core.List.{List, [], ◌∷◌, ◌++◌}
use Prim.Native.Nat.{ℕ}
use lib.Dec.{ltb}
use Rattle.queue.specs.declared.Candidate.{Candidate}
use Rattle.marks.specs.Marks.{gained, marked}
use Rattle.states.specs.State.{State}
use Rattle.waiting.specs.Waiting.{gainers}

cond_append : (b : Bool) (e : Candidate) (es fs : List Candidate) → cond b (e ∷ (es ++ fs)) (es ++ fs) ≡ cond b (e ∷ es) es ++ fs
cond_append true e es fs = refl
cond_append false e es fs = refl

pub gainers-append : (σ : ℕ → State) (ks ls : List ℕ) → gainers σ (ks ++ ls) ≡ gainers σ ks ++ gainers σ ls
unfolding gainers
gainers-append σ [] ls = refl
gainers-append σ (c ∷ ks) ls =
    ap (λ (l : List Candidate). cond (marked gained (σ c).marks && ltb 0 (σ c).count) (record { count = (σ c).count; key = c } ∷ l) l) (gainers-append σ ks ls)
    ∙ cond_append (marked gained (σ c).marks && ltb 0 (σ c).count) (record { count = (σ c).count; key = c }) (gainers σ ks) (gainers σ ls)
