-- The numbers of a run one by one, and the parts between them. Assumes nothing.
use mathlib.Core.Path.{◌≡◌, refl, sym, ap, ◌∙◌}
use mathlib.Core.List.{List, [], ◌∷◌}
use Prim.Native.Nat.{ℕ, ◌+◌, ◌-◌, ◌*◌, ◌/◌, ◌≤◌, ◌<◌}
use native.Mathlib.Numerals.{add-one}
use lib.ListN.{length, drop_of_length-le}
use lib.Seq.{drop-cons}
use Rattle.runs.specs.Parts.{nth, part}
use Rattle.numbers.specs.Little.{load, numbers}
use Rattle.numbers.proofs.Little.{length-numbers, nth-numbers}
use Rattle.rule.specs.Shapes.{parts, parts_by}
use Rattle.vocab.specs.Places.{numbers_from}

-- THE NUMBERS FROM A PLACE ON: the start, a step, the end

module _ (w : ℕ) (xs : List ℕ) where
  pub numbers_start : numbers w xs ≡ numbers_from w xs 0
  unfolding numbers_from
  numbers_start = refl

  pub numbers_step : (i : ℕ) → i < length xs / w → numbers_from w xs i ≡ nth (numbers w xs) i ∷ numbers_from w xs (i + 1)
  unfolding numbers_from nth
  numbers_step i h = rw (add-one i) (drop-cons (numbers w xs) i 0 (rw (length-numbers w xs) h))

  pub numbers_end : (i : ℕ) → length xs / w ≤ i → numbers_from w xs i ≡ []
  unfolding numbers_from
  numbers_end i h = let l : length (numbers w xs) ≤ i = rw (length-numbers w xs) h in drop_of_length-le (numbers w xs) l

  -- a number of the run is a load
  pub number_load : (i n : ℕ) → i < length xs / w → n ≡ load w xs (i * w) → n ≡ nth (numbers w xs) i
  number_load i n h e = e ∙ sym (nth-numbers w xs i h)

-- THE PARTS BETWEEN ENDS, from a place on, where the end before it is `last`

module _ (run ends : List ℕ) where
  pub parts_start : parts_by run ends ≡ parts run 0 (numbers_from 4 ends 0)
  unfolding parts_by
  parts_start = ap (λ (es : List ℕ). parts run 0 es) (numbers_start 4 ends)

  pub parts_step : (i last e : ℕ) → i < length ends / 4 → e ≡ nth (numbers 4 ends) i
      → parts run last (numbers_from 4 ends i) ≡ part last (e - last) run ∷ parts run e (numbers_from 4 ends (i + 1))
  unfolding parts
  parts_step i last e h q = rw (numbers_step 4 ends i h, q)

  pub parts_end : (i last : ℕ) → length ends / 4 ≤ i → parts run last (numbers_from 4 ends i) ≡ []
  unfolding parts
  parts_end i last h = rw (numbers_end 4 ends i h)
