-- The decorated units of a word, unit by unit from the front (`rule`'s `decorate_at` has them by place). Assumes nothing.
use mathlib.Core.Path.{◌≡◌, refl, ap}
use mathlib.Core.Bool.{Bool, true, false, cond}
use mathlib.Core.List.{List, [], ◌∷◌, ◌++◌, map, append_assoc, append-nil}
use Prim.Native.Nat.{ℕ}
use lib.Dec.{eqb, eqb-zero-suc}
use lib.ListN.{length}
use Rattle.rule.specs.Spelling.{prefixed, suffixed, decorate}
use Rattle.spelling.specs.Units.{dressed, dressed_from}

module _ (p s : List ℕ) where
  -- ONE UNIT, of the two parts that are put to it
  pub dressed_of : (a b u : List ℕ) (isFirst is_last : Bool) → a ≡ cond isFirst [] p → b ≡ cond is_last s [] → a ++ (u ++ b) ≡ dressed p s isFirst is_last u
  unfolding dressed
  dressed_of a b u isFirst is_last e f = rw (e, f)

  -- FROM THE FRONT: a unit, then those behind it, of which none is the first
  pub dressed_none : (isFirst : Bool) → dressed_from p s isFirst [] ≡ []
  unfolding dressed_from
  dressed_none isFirst = refl

  -- a unit is the last if none stands behind it
  pub dressed_next : (isFirst : Bool) (u : List ℕ) (us : List (List ℕ))
      → dressed_from p s isFirst (u ∷ us) ≡ dressed p s isFirst (eqb 0 (length us)) u ∷ dressed_from p s false us
  unfolding dressed_from
  dressed_next isFirst u [] = refl
  dressed_next isFirst u (v ∷ us) = rw (eqb-zero-suc (length us))

  -- THE RULE'S `decorate` is the word's units dressed
  suffixed_dressed : (us : List (List ℕ)) → suffixed s (map (λ v. p ++ v) us) ≡ dressed_from p s false us
  unfolding suffixed dressed dressed_from
  suffixed_dressed [] = refl
  suffixed_dressed (u ∷ []) = rw (append_assoc p u s)
  suffixed_dressed (u ∷ v ∷ us) = rw (append-nil u) (ap (λ (l : List (List ℕ)). (p ++ u) ∷ l) (suffixed_dressed (v ∷ us)))

  pub decorate-dressed : (us : List (List ℕ)) → decorate p s us ≡ dressed_from p s true us
  unfolding decorate prefixed suffixed dressed dressed_from
  decorate-dressed [] = refl
  decorate-dressed (u ∷ []) = refl
  decorate-dressed (u ∷ v ∷ us) = rw (append-nil u) (ap (λ (l : List (List ℕ)). u ∷ l) (suffixed_dressed (v ∷ us)))
