-- Interning a list of spellings in a loop: start, turn, ways out; of the byte values, and of a table's parts. Assumes nothing.
use mathlib.Core.Path.{◌≡◌, refl, sym, ap, ◌∙◌}
use mathlib.Core.List.{List, [], ◌∷◌, ◌++◌, append-nil, foldl}
use Prim.Native.Nat.{ℕ, suc, ◌+◌, ◌*◌, ◌-◌, ◌/◌, ◌<◌, ◌≤◌}
use native.Mathlib.Omega.{arith}
use lib.ListN.{length, take, drop}
use Rattle.runs.specs.Parts.{nth}
use Rattle.runs.proofs.Parts.{part_lent}
use Rattle.runs.proofs.Frames.{kept_none, kept_then}
use Rattle.numbers.specs.Little.{numbers}
use Rattle.cells.specs.Cells.{cells}
use Rattle.rule.specs.Shapes.{parts, parts_by}
use Rattle.rule.specs.Seeding.{intern, byte_values}
use Rattle.vocab.specs.Places.{numbers_from}
use Rattle.vocab.proofs.Places.{parts_start, parts_step, parts_end}
use Rattle.intern.specs.Pieces.{pieces}
use Rattle.intern.specs.Intern.{CanIntern, Answer}
use Rattle.intern.specs.Many.{Ran, Exceed}
use Rattle.intern.specs.declared.Interned.{Interned}
use Rattle.error.specs.declared.NoRoom.{NoRoom}
use Rattle.vocab.specs.declared.Filled.{Filled}
use Rattle.std.specs.Prelude.{Result, Ok, Err, IsErr}
use Rattle.intern.proofs.Many.{ran_start, ran_can, ran_next, ran_then, ran_lacks, ran_exceeds}
use Rattle.alphabet.specs.Seeds.{CanSeed, Going, Seeds}

-- WHAT HAS NO ROOM, where `?` hands it on
pub seeds_out : (base cap n u : ℕ) (ss : List (List ℕ)) (rs xs ys qs vs ws : List ℕ) (r : Result Filled NoRoom) → IsErr r → Exceed (foldl intern (pieces xs ys n) ss) xs ys
    → Seeds r base cap n u ss rs xs ys qs vs ws
unfolding Seeds
seeds_out base cap n u ss rs xs ys qs vs ws (Ok f) e x = absurd cc
seeds_out base cap n u ss rs xs ys qs vs ws (Err d) e x = x

-- ONE SPELLING, in three parts of which two are empty

pub plain : (s : List ℕ) → [] ++ (s ++ []) ≡ s
plain s = append-nil s

module _ (base cap n u : ℕ) (s t rs xs ys qs vs ws : List ℕ) (e : s ≡ t) (can : CanIntern base cap n u (cells rs) xs ys) where
  pub one_done : (i : Interned) → Answer (Ok i) base cap n u s rs xs ys qs vs ws → Seeds (Ok i.filled) base cap n u (t ∷ []) rs xs ys qs vs ws
  unfolding Answer Seeds
  one_done i h =
      rw (← e) (ran_next base cap n u xs ys (foldl intern (pieces xs ys n) (s ∷ [])) s [] (cells rs) xs ys n u (ran_start base cap n u xs ys (s ∷ []) (cells rs) can.ok) rs qs vs ws i.number i.filled.count i.filled.used h, h.room)

  pub one_out : (d : NoRoom) → Answer (Err d) base cap n u s rs xs ys qs vs ws → (r : Result Filled NoRoom) → IsErr r → Seeds r base cap n u (t ∷ []) rs xs ys qs vs ws
  unfolding Answer
  one_out d h r q =
      seeds_out base cap n u (t ∷ []) rs xs ys qs vs ws r q
      (rw (← e) (ran_lacks base cap n u xs ys (foldl intern (pieces xs ys n) (s ∷ [])) s [] (cells rs) xs ys n u (ran_start base cap n u xs ys (s ∷ []) (cells rs) can.ok) h.0.more h.1))

-- A LOOP

pub going_start : (base cap n u : ℕ) (ss : List (List ℕ)) (rs xs ys : List ℕ) → CanSeed base cap n u ss (cells rs) xs ys
    → Going base cap n u (foldl intern (pieces xs ys n) ss) ss rs xs ys rs xs ys n u
going_start base cap n u ss rs xs ys c =
    record { ran = ran_start base cap n u xs ys ss (cells rs) c.ok; room = kept_none (base * 8) ((base + cap) * 8) rs; slots = c.slots }

module _ (base cap n u : ℕ) (ps todo : List (List ℕ)) (rs xs ys qs vs ws : List ℕ) (n' u' : ℕ) (g : Going base cap n u ps todo rs xs ys qs vs ws n' u') where
  pub going_can : CanIntern base cap n' u' (cells qs) vs ws
  going_can = ran_can base cap n u xs ys ps todo (cells qs) vs ws n' u' g.ran g.slots

  pub going_end : (ss : List (List ℕ)) → ps ≡ foldl intern (pieces xs ys n) ss → todo ≡ [] → (f : Filled) → f.count ≡ n' → f.used ≡ u' → Seeds (Ok f) base cap n u ss rs xs ys qs vs ws
  unfolding Seeds
  going_end ss p e f a b = (rw (a, b) (rw (p, e) at g.ran), g.room)

  module _ (s : List ℕ) (ts : List (List ℕ)) (e : todo ≡ s ∷ ts) (qs₂ vs₂ ws₂ : List ℕ) where
    ahead : Ran base cap n u ps ((s ∷ []) ++ ts) xs ys (cells qs) vs ws n' u'
    ahead = rw e at g.ran

    pub going_next : (f : Filled) → Seeds (Ok f) base cap n' u' (s ∷ []) qs vs ws qs₂ vs₂ ws₂ → Going base cap n u ps ts rs xs ys qs₂ vs₂ ws₂ f.count f.used
    unfolding Seeds
    going_next f h =
        record {
          ran = ran_then base cap n u xs ys ps (s ∷ []) ts (cells qs) vs ws n' u' ahead (cells qs₂) vs₂ ws₂ f.count f.used h.0;
          room = kept_then g.room h.1;
          slots = g.slots;
        }

    pub going_out : (d : NoRoom) → Seeds (Err d) base cap n' u' (s ∷ []) qs vs ws qs₂ vs₂ ws₂ → Exceed ps xs ys
    unfolding Seeds
    going_out d h = ran_exceeds base cap n u xs ys ps (s ∷ []) ts (cells qs) vs ws n' u' ahead h

-- THE BYTE VALUES

values_step : (m b : ℕ) → b < m → byte_values (m - b) b ≡ (b ∷ []) ∷ byte_values (m - (b + 1)) (b + 1)
unfolding byte_values
values_step m b h =
    let z : m - b ≡ suc (m - (b + 1)) = omega arith in
    let w : suc b ≡ b + 1 = omega arith in
    rw (z, w)

values_end : (m b : ℕ) → m ≤ b → byte_values (m - b) b ≡ []
unfolding byte_values
values_end m b h = let z : m - b ≡ 0 = omega arith in rw z

module _ (base cap n u : ℕ) (ps : List (List ℕ)) (rs xs ys qs vs ws : List ℕ) (f : Filled) (m b : ℕ)
    (g : Going base cap n u ps (byte_values (m - b) b) rs xs ys qs vs ws f.count f.used) where
  pub byte_end : ps ≡ foldl intern (pieces xs ys n) (byte_values m 0) → m ≤ b → Seeds (Ok f) base cap n u (byte_values m 0) rs xs ys qs vs ws
  byte_end p h = going_end base cap n u ps (byte_values (m - b) b) rs xs ys qs vs ws f.count f.used g (byte_values m 0) p (values_end m b h) f refl refl

  module _ (h : b < m) (qs₂ vs₂ ws₂ : List ℕ) where
    pub byte_next : (f₂ : Filled) → Seeds (Ok f₂) base cap f.count f.used ((b ∷ []) ∷ []) qs vs ws qs₂ vs₂ ws₂
        → Going base cap n u ps (byte_values (m - (b + 1)) (b + 1)) rs xs ys qs₂ vs₂ ws₂ f₂.count f₂.used
    byte_next = going_next base cap n u ps (byte_values (m - b) b) rs xs ys qs vs ws f.count f.used g (b ∷ []) (byte_values (m - (b + 1)) (b + 1)) (values_step m b h) qs₂ vs₂ ws₂

    pub byte_out : (d : NoRoom) → Seeds (Err d) base cap f.count f.used ((b ∷ []) ∷ []) qs vs ws qs₂ vs₂ ws₂ → ps ≡ foldl intern (pieces xs ys n) (byte_values m 0)
        → (r : Result Filled NoRoom) → IsErr r → Seeds r base cap n u (byte_values m 0) rs xs ys qs₂ vs₂ ws₂
    byte_out d q p r w =
        seeds_out base cap n u (byte_values m 0) rs xs ys qs₂ vs₂ ws₂ r w
        (rw p at (going_out base cap n u ps (byte_values (m - b) b) rs xs ys qs vs ws f.count f.used g (b ∷ []) (byte_values (m - (b + 1)) (b + 1)) (values_step m b h) qs₂ vs₂ ws₂ d q))

-- THE PARTS OF A TABLE

module _ (base cap n u : ℕ) (ps : List (List ℕ)) (rs xs ys qs vs ws : List ℕ) (f : Filled) (run tails : List ℕ) (last i : ℕ)
    (g : Going base cap n u ps (parts run last (numbers_from 4 tails i)) rs xs ys qs vs ws f.count f.used) where
  pub part_end : ps ≡ foldl intern (pieces xs ys n) (parts_by run tails) → length tails / 4 ≤ i → Seeds (Ok f) base cap n u (parts_by run tails) rs xs ys qs vs ws
  part_end p h = going_end base cap n u ps (parts run last (numbers_from 4 tails i)) rs xs ys qs vs ws f.count f.used g (parts_by run tails) p (parts_end run tails i last h) f refl refl

  module _ (h : i < length tails / 4) (e : ℕ) (q : e ≡ nth (numbers 4 tails) i) (qs₂ vs₂ ws₂ : List ℕ) where
    step : parts run last (numbers_from 4 tails i) ≡ take (e - last) (drop last run) ∷ parts run e (numbers_from 4 tails (i + 1))
    step = parts_step run tails i last e h q ∙ ap (λ (w : List ℕ). w ∷ parts run e (numbers_from 4 tails (i + 1))) (sym (part_lent last e run))

    pub part_next : (f₂ : Filled) → Seeds (Ok f₂) base cap f.count f.used (take (e - last) (drop last run) ∷ []) qs vs ws qs₂ vs₂ ws₂
        → Going base cap n u ps (parts run e (numbers_from 4 tails (i + 1))) rs xs ys qs₂ vs₂ ws₂ f₂.count f₂.used
    part_next =
        going_next base cap n u ps (parts run last (numbers_from 4 tails i)) rs xs ys qs vs ws f.count f.used g (take (e - last) (drop last run)) (parts run e (numbers_from 4 tails (i + 1)))
        step qs₂ vs₂ ws₂

    pub part-out : (d : NoRoom) → Seeds (Err d) base cap f.count f.used (take (e - last) (drop last run) ∷ []) qs vs ws qs₂ vs₂ ws₂
        → ps ≡ foldl intern (pieces xs ys n) (parts_by run tails) → (r : Result Filled NoRoom) → IsErr r → Seeds r base cap n u (parts_by run tails) rs xs ys qs₂ vs₂ ws₂
    part-out d w p r v =
        seeds_out base cap n u (parts_by run tails) rs xs ys qs₂ vs₂ ws₂ r v
        (rw p at (going_out base cap n u ps (parts run last (numbers_from 4 tails i)) rs xs ys qs vs ws f.count f.used g (take (e - last) (drop last run)) (parts run e (numbers_from 4 tails (i + 1)))
        step qs₂ vs₂ ws₂ d w))

pub part_start : (base cap n u : ℕ) (run tails rs xs ys : List ℕ) → CanSeed base cap n u (parts_by run tails) (cells rs) xs ys
    → Going base cap n u (foldl intern (pieces xs ys n) (parts_by run tails)) (parts run 0 (numbers_from 4 tails 0)) rs xs ys rs xs ys n u
part_start base cap n u run tails rs xs ys c = go (parts run 0 (numbers_from 4 tails 0)) (parts_start run tails)
  where
    go : (todo : List (List ℕ)) → parts_by run tails ≡ todo → Going base cap n u (foldl intern (pieces xs ys n) (parts_by run tails)) todo rs xs ys rs xs ys n u
    go todo e = rw (← e) (going_start base cap n u (parts_by run tails) rs xs ys c)
