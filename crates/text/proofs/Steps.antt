-- For a caller that goes over the units of a word with `whole` and `next_unit`: the start, a step, the end; and that each contract leaves
-- one answer. Assumes nothing.
use mathlib.Core.Path.{◌≡◌, refl, sym, ap, ◌∙◌}
use mathlib.Core.Bool.{Bool, ◌&&◌}
use mathlib.Core.List.{List, [], ◌∷◌, ◌++◌}
use Prim.Native.Nat.{ℕ, ◌+◌, ◌-◌, ◌≤◌, ◌<◌}
use native.Mathlib.Omega.{arith}
use lib.ListN.{length, take, drop}
use lib.Seq.{take_at, drop_at}
use Rattle.runs.specs.Parts.{part}
use Rattle.runs.proofs.Parts.{length-part, part_split, part_none}
use Rattle.rfc3629.specs.Cut.{well_formed, unit_len, units_by, seeded}
use Rattle.rfc3629.proofs.Units.{units_nil, units_next}
use Rattle.rule.specs.Table.{chars, units}
use Rattle.text.specs.Units.{setting_of, by_chars, Next, Counted}
use Rattle.text.specs.declared.Seeding.{Seeding}
use Rattle.text.specs.declared.Seeding.TheVariants.{Bytes, Chars}

-- THE START: what `whole` told of a word makes its units those of the seeding, and these are the rule's

pub whole_units : (whole byCharacters : Bool) (w : List ℕ) → whole ≡ (byCharacters && well_formed w) → units_by whole w ≡ seeded byCharacters w
unfolding seeded
whole_units whole byCharacters w e = rw e

module _ (d : Seeding) (number : ℕ) (k : by_chars d ≡ chars number) where
  pub seeded-units : (w : List ℕ) → seeded (by_chars d) w ≡ units number w
  unfolding units
  seeded-units w = rw k

  pub start_units : (whole : Bool) (w : List ℕ) → whole ≡ (by_chars d && well_formed w) → units_by whole w ≡ units number w
  start_units whole w e = whole_units whole (by_chars d) w e ∙ seeded-units w

  pub counted_units : (w : List ℕ) (r : ℕ) → Counted (by_chars d) w r → r ≡ length (units number w)
  counted_units w r h = h.is ∙ ap length (seeded-units w)

module _ (whole : Bool) (s : List ℕ) (at to : ℕ) where
  -- THE END

  pub last_units : to ≤ at → units_by whole (part at (to - at) s) ≡ []
  last_units h = let z : to - at ≡ 0 = omega arith in rw (z, part_none at s, units_nil whole)

  module _ (a : at < to) (b : to ≤ length s) where
    word_length : length (part at (to - at) s) ≡ to - at
    word_length = length-part at (to - at) s (omega arith)

    -- a word that has not ended has a unit
    pub units_some : 0 < length (units_by whole (part at (to - at) s))
    units_some = rw (units_next whole (part at (to - at) s) (omega (arith, word_length))) (omega arith)

    module _ (r : ℕ) (next : Next whole s at to r) where
      -- A STEP: the unit that `next_unit` found, then those from its end on

      pub next_bytes : part at (to - at) s ≡ part at (r - at) s ++ part r (to - r) s
      next_bytes =
          let m : r - at + (to - r) ≡ to - at = omega arith in
          let e : at + (r - at) ≡ r = omega arith in
          rw (m, e) at (part_split at (r - at) (to - r) s)

      pub next_units : units_by whole (part at (to - at) s) ≡ part at (r - at) s ∷ units_by whole (part r (to - r) s)
      next_units =
          let k = unit_len whole (part at (to - at) s) in
          let l : length (part at (r - at) s) ≡ k = length-part at (r - at) s (omega arith) ∙ omega arith in
          units_next whole (part at (to - at) s) (omega (arith, word_length))
          ∙ ap (λ v. take k v ∷ units_by whole (drop k v)) next_bytes
          ∙ rw (take_at (part at (r - at) s) (part r (to - r) s) k l, drop_at (part at (r - at) s) (part r (to - r) s) k l)

-- ONE ANSWER

pub seeding_single : (d e : Seeding) → by_chars d ≡ by_chars e → d ≡ e
unfolding by_chars setting_of
seeding_single Bytes Bytes h = refl
seeding_single Bytes Chars h = cc
seeding_single Chars Bytes h = cc
seeding_single Chars Chars h = refl

pub next_single : {whole : Bool} {s : List ℕ} {at to r q : ℕ} → Next whole s at to r → Next whole s at to q → r ≡ q
next_single h k = h.is ∙ sym k.is

pub counted_single : {byCharacters : Bool} {w : List ℕ} {r q : ℕ} → Counted byCharacters w r → Counted byCharacters w q → r ≡ q
counted_single h k = h.is ∙ sym k.is
