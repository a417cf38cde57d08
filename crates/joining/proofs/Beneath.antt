-- The laws of the cells below a place, seen alone. Assumes nothing.
use mathlib.Core.Path.{◌≡◌, refl, sym, ◌∙◌}
use mathlib.Core.List.{List}
use Prim.Native.Nat.{ℕ, ◌+◌, ◌<◌, ◌≤◌}
use native.Mathlib.Omega.{arith}
use lib.ListN.{length}
use Rattle.runs.specs.Parts.{nth, put, part}
use Rattle.runs.proofs.Parts.{same_or_not, below_or_not, length-put, nth-put, nth-put_other, nth_ext, length-part, nth-part, part_ext, length-laid, nth-laid, nth-laid-after}
use Rattle.joining.specs.Running.{beneath}

module _ (base : ℕ) (cs ds : List ℕ) (long : length ds ≡ length cs) (h : base ≤ length cs) where
  taken : length (part 0 base ds) ≡ base
  taken = length-part 0 base ds (omega arith)

  pub beneath-length : length (beneath base cs ds) ≡ length cs
  unfolding beneath
  beneath-length = length-laid cs 0 (part 0 base ds) (omega (arith, taken))

  pub beneath_in : (j : ℕ) → j < base → nth (beneath base cs ds) j ≡ nth ds j
  unfolding beneath
  beneath_in j l =
      let z : 0 + j ≡ j = omega arith in
      rw z at (nth-laid cs 0 (part 0 base ds) (omega (arith, taken)) j (omega (arith, taken)) ∙ nth-part 0 base ds j l)

  pub beneath-out : (j : ℕ) → base ≤ j → nth (beneath base cs ds) j ≡ nth cs j
  unfolding beneath
  beneath-out j l = nth-laid-after cs 0 (part 0 base ds) (omega (arith, taken)) j (omega (arith, taken))

  pub beneath-part : (at n : ℕ) → at + n ≤ base → part at n (beneath base cs ds) ≡ part at n ds
  beneath-part at n l =
      part_ext at n (beneath base cs ds) ds (omega (arith, beneath-length)) (beneath-length ∙ sym long) (λ j k. beneath_in (at + j) (omega arith))

  -- a list is so seen where it has these cells
  pub beneath_is : (es : List ℕ) → length es ≡ length cs → ((j : ℕ) → j < base → nth es j ≡ nth ds j) → ((j : ℕ) → base ≤ j → nth es j ≡ nth cs j)
      → beneath base cs ds ≡ es
  beneath_is es e f g =
      nth_ext (beneath base cs ds) es (beneath-length ∙ sym e)
      (λ j _. below_or_not j base (λ l. beneath_in j l ∙ sym (f j l)) (λ l. beneath-out j l ∙ sym (g j l)))

module _ (base : ℕ) (cs ds : List ℕ) (long : length ds ≡ length cs) (h : base ≤ length cs) where
  -- a put below the place
  pub beneath-put : (i v : ℕ) → i < base → beneath base cs (put ds i v) ≡ put (beneath base cs ds) i v
  beneath-put i v l =
      beneath_is base cs (put ds i v) (length-put ds i v ∙ long) h (put (beneath base cs ds) i v)
      (length-put (beneath base cs ds) i v ∙ beneath-length base cs ds long h)
      (λ j b. same_or_not j i
      (λ e. rw e (nth-put (beneath base cs ds) i v (omega (arith, beneath-length base cs ds long h)) ∙ sym (nth-put ds i v (omega arith))))
      (λ n. nth-put_other (beneath base cs ds) i v j n ∙ beneath_in base cs ds long h j b ∙ sym (nth-put_other ds i v j n)))
      (λ j b. nth-put_other (beneath base cs ds) i v j (omega arith) ∙ beneath-out base cs ds long h j b)

  -- a change from the place on is not seen
  pub beneath-same : (es : List ℕ) → length es ≡ length ds → ((j : ℕ) → j < base → nth es j ≡ nth ds j) → beneath base cs es ≡ beneath base cs ds
  beneath-same es e f =
      beneath_is base cs es (e ∙ long) h (beneath base cs ds) (beneath-length base cs ds long h)
      (λ j b. beneath_in base cs ds long h j b ∙ sym (f j b))
      (λ j b. beneath-out base cs ds long h j b)

pub beneath_none : (base : ℕ) (cs : List ℕ) → base ≤ length cs → beneath base cs cs ≡ cs
beneath_none base cs h = beneath_is base cs cs refl h cs refl (λ j b. refl) (λ j b. refl)
