-- A piece and a merge behind those that are there. Assumes nothing.
use mathlib.Core.Path.{◌≡◌, refl, ap, ◌∙◌}
use Rattle.std.specs.Prelude.{Ok, Err, ⊤}
use mathlib.Core.List.{List, ◌++◌}
use mathlib.Core.Logic.{inl, inr}
use Prim.Native.Nat.{ℕ, ◌+◌, ◌*◌, ◌-◌, ◌/◌, ◌^◌, ◌<◌, ◌≤◌}
use native.Mathlib.Omega.{arith}
use lib.ListN.{length}
use Rattle.runs.specs.Parts.{part, laid}
use Rattle.runs.proofs.Parts.{laid-laid}
use Rattle.numbers.specs.Little.{store, spell}
use Rattle.numbers.proofs.Little.{length-spell}
use Rattle.rule.specs.Layout.{piece_at}
use Rattle.rule.specs.Spelling.{joined}
use Rattle.spelling.specs.Lengths.{joined_length}
use Rattle.spelling.specs.Writing.{Written}
use Rattle.intern.specs.Pieces.{Held}
use Rattle.intern.specs.Intern.{Lacks}
use Rattle.intern.proofs.Rooms.{pieces-more, pieces-same, more_bytes, more_ends, more_old, more_new, more_held}
use Rattle.error.specs.declared.NoRoom.{NoRoom}
use Rattle.lengths.specs.Places.{Stands}
use Rattle.vocab.specs.declared.Place.{Place}
use Rattle.lengths.proofs.Joined.{place_in, piece_is, measured}
use Rattle.output.specs.Output.{PieceDone, MergeDone}

-- A JOINED PIECE
module _ {n u left right : ℕ} {xs ys : List ℕ} {p q : Place} (prefix : List ℕ) (l : Held n u xs ys) (hl : left < n) (hr : right < n)
    (here : Stands left ys p) (next : Stands right ys q) where
  -- its bytes
  abbrev s : List ℕ
  s = joined prefix (piece_at xs ys left) (piece_at xs ys right)

  -- how many they are, as the code has it
  abbrev long : ℕ
  long = joined_length p.length prefix (part q.start q.length xs)

  module _ (r : ℕ) (e : r ≡ length s) (fit : r ≤ length xs - u) where
    pub can_join : (p.start + p.length ≤ u) × (q.start + q.length ≤ u) × (u + long ≤ length xs)
    can_join = ((place_in l hl here).0, (place_in l hr next).0, omega (arith, measured prefix l hl hr here next, l.bytes))

    module _ (short : r ≤ 4294967295 - u) (vs : List ℕ) (v : ℕ)
        (w : Written xs vs u (joined prefix (part p.start p.length xs) (part q.start q.length xs)) long v) where
      behind : v ≡ u + length s
      behind = omega (arith, w.behind, measured prefix l hl hr here next)

      pub end_fits : v < 2 ^ 32
      end_fits = omega (arith, behind, e, l.small)

      pub piece_done : (ws : List ℕ) → n < length ys / 4 → ws ≡ store 4 ys (n * 4) v → PieceDone (Ok v) n u s xs ys vs ws
      unfolding PieceDone
      piece_done ws k d =
          let one : n * 4 + 4 ≤ length ys = omega arith in
          let room : u + length s ≤ length xs = omega (arith, e, l.bytes) in
          let low : u + length s ≤ 4294967295 = omega (arith, e, l.small) in
          let laid-is : vs ≡ laid xs u s = w.is ∙ rw (piece_is l hl here, piece_is l hr next) in
          let old = more_old n u s xs ys vs ws v l behind one room low laid-is d in
          record {
            held = more_held n u s xs ys vs ws v l behind one room low laid-is d;
            are = pieces-more vs ws n ∙ rw (pieces-same xs ys vs ws n old, more_new n u s xs ys vs ws v l behind one room low laid-is d);
            long = behind;
            bytes = more_bytes n u s xs ys vs ws v l behind one room low laid-is d;
            ends = more_ends n u s xs ys vs ws v l behind one room low laid-is d;
          }

-- NO PLACE for it
module _ (n u : ℕ) (s xs ys : List ℕ) (e : NoRoom) where
  pub no_ends : length ys / 4 ≤ n → PieceDone (Err e) n u s xs ys xs ys
  unfolding PieceDone Lacks
  no_ends h = (refl, refl, inl (omega arith))

  pub no_bytes : (r : ℕ) → r ≡ length s → Held n u xs ys → length xs - u < r → PieceDone (Err e) n u s xs ys xs ys
  unfolding PieceDone Lacks
  no_bytes r f l h = (refl, refl, inr (inl (omega (arith, l.bytes))))

  pub too_long_lem : (r : ℕ) → r ≡ length s → Held n u xs ys → 4294967295 - u < r → PieceDone (Err e) n u s xs ys xs ys
  unfolding PieceDone Lacks
  too_long_lem r f l h = (refl, refl, inr (inr (omega (arith, l.small))))

-- A MERGE
module _ (k left right saved : ℕ) (ms ss : List ℕ) (e : NoRoom) where
  pub no_merges : length ms / 8 ≤ k → MergeDone (Err e) k left right saved ms ss ms ss
  unfolding MergeDone
  no_merges h = (refl, refl, inl (omega arith))

  pub no_savings : length ss / 8 ≤ k → MergeDone (Err e) k left right saved ms ss ms ss
  unfolding MergeDone
  no_savings h = (refl, refl, inr (omega arith))

  pub merge_done : (done : ⊤) (ls bs ts : List ℕ) → k < length ms / 8 → k < length ss / 8 → ls ≡ store 4 ms (k * 8) left → bs ≡ store 4 ls (k * 8 + 4) right → ts ≡ store 8 ss (k * 8) saved
      → MergeDone (Ok done) k left right saved ms ss bs ts
  unfolding MergeDone store
  merge_done done ls bs ts h i f g j =
      let z = length-spell 4 left in
      let y = length-spell 4 right in
      let both : laid (laid ms (k * 8) (spell 4 left)) (k * 8 + length (spell 4 left)) (spell 4 right) ≡ laid ms (k * 8) (spell 4 left ++ spell 4 right) =
      laid-laid ms (k * 8) (spell 4 left) (spell 4 right) (omega arith) in
      (omega arith, omega arith, g ∙ ap (λ (l : List ℕ). laid l (k * 8 + 4) (spell 4 right)) f ∙ (rw z at both), j)

-- the ways out of each function
pub ruleset piece_rules = (no_ends, no_bytes, too_long_lem, piece_done)

pub ruleset merge_rules = (no_merges, no_savings, merge_done)
