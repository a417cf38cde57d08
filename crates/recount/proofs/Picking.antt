-- The laws of the better of two, and of a pair that is known. Assumes nothing.
use mathlib.Core.Path.{◌≡◌, refl, sym, ◌∙◌}
use mathlib.Core.Bool.{Bool, true, false, cond, ◌&&◌, ◌||◌, false≢true}
use mathlib.Core.List.{[], ◌∷◌}
use Prim.Native.Nat.{ℕ, ◌<◌, ◌≤◌}
use native.Mathlib.Omega.{arith}
use lib.Dec.{eqb, ltb}
use borrow.Author.Tests.{ltb-true, eqb-true, lt-ltb, le-ltb}
use Rattle.std.specs.Prelude.{Option, Some, None}
use Rattle.rule.specs.Training.{nothing, best, better}
use Rattle.rule.specs.Training as rule
use Rattle.recount.specs.Recount.{ruled, told, pick, known}
use Rattle.recount.specs.declared.Choice.{Choice}

-- THE BETTER OF TWO
pub better_none : (d : Choice) → better (ruled d) nothing ≡ ltb 0 d.times
unfolding ruled
better_none d = rw (le-ltb d.left 0 (omega arith), le-ltb d.right 0 (omega arith)) (go (ltb 0 d.times) (eqb d.times 0) (eqb d.left 0))
  where
    go : (x y z : Bool) → (x || (y && (false || (z && false)))) ≡ x
    go true y z = refl
    go false true true = refl
    go false true false = refl
    go false false z = refl

-- test by test
module _ (d : Choice) where
  pub pick_better : (c : Choice) (b : Bool) → b ≡ better (ruled d) (ruled c) → b ≡ true → Some d ≡ pick (Some c) d
  unfolding pick told
  pick_better c b e h = rw (← e, h)

  pub pick_kept : (c : Choice) (b : Bool) → b ≡ better (ruled d) (ruled c) → b ≡ false → Some c ≡ pick (Some c) d
  unfolding pick told
  pick_kept c b e h = rw (← e, h)

  pub pick_some : 0 < d.times → Some d ≡ pick None d
  unfolding pick told
  pick_some h = rw (better_none d, lt-ltb 0 d.times h)

  pub pick_none : d.times ≤ 0 → None ≡ pick None d
  unfolding pick told
  pick_none h = rw (better_none d, le-ltb 0 d.times (omega arith))

pub ruleset picks = (pick_better, pick_kept, pick_some, pick_none)

-- it is the rule's best of the two
pub pick-best : (c : Option Choice) (d : Choice) → told (pick c d) ≡ best (told c) (ruled d ∷ [])
unfolding pick best told
pick-best c d = go (better (ruled d) (told c))
  where
    go : (b : Bool) → told (cond b (Some d) c) ≡ cond b (ruled d) (told c)
    go true = refl
    go false = refl

-- what is better has a count, where what it is better than has one, or is none
pub better_some : (d : Choice) (c : Option Choice) → ((e : Choice) → c ≡ Some e → 0 < e.times) → better (ruled d) (told c) ≡ true → 0 < d.times
unfolding told ruled
better_some d None h e = ltb-true 0 d.times (sym (better_none d) ∙ e)
better_some d (Some c) h e = go (ltb c.times d.times) (eqb d.times c.times) refl refl e
  where
    go : (x y : Bool) → ltb c.times d.times ≡ x → eqb d.times c.times ≡ y → (x || (y && rule.lower_pair (ruled d) (ruled c))) ≡ true → 0 < d.times
    go true y ex ey k = let z = ltb-true c.times d.times ex in omega arith
    go false true ex ey k = let z = eqb-true d.times c.times ey in let u = h c refl in omega arith
    go false false ex ey k = absurd (false≢true k)

-- A PAIR THAT IS KNOWN
module _ (s t : ℕ) where
  -- what a caller is told
  pub record Same (c : Choice) : Type 0 where
    pub left : c.left ≡ s
    pub right : c.right ≡ t

  pub known-same : (c : Option Choice) → known c s t ≡ true → (P : Type 0) → ((d : Choice) → c ≡ Some d → Same d → P) → P
  unfolding known
  known-same None h P f = absurd (false≢true h)
  known-same (Some c) h P f = go (eqb c.left s) (eqb c.right t) refl refl h
    where
      go : (y z : Bool) → eqb c.left s ≡ y → eqb c.right t ≡ z → (y && z) ≡ true → P
      go true true ey ez k = f c refl (record { left = eqb-true c.left s ey; right = eqb-true c.right t ez })
      go true false ey ez k = absurd (false≢true k)
      go false z ey ez k = absurd (false≢true k)
