-- The merges from some pieces and words on, turn by turn. Assumes nothing.
use mathlib.Core.Path.{◌≡◌, refl, sym, ap, ◌∙◌}
use Rattle.std.specs.Prelude.{Result, Ok, Err, IsErr, ⊤}
use Rattle.error.specs.declared.NoRoom.{NoRoom}
use mathlib.Core.List.{List, [], ◌∷◌, ◌++◌, append-nil, append_assoc, map, flat_map}
use mathlib.Core.Logic.{◌⊎◌, inl, inr}
use Prim.Native.Nat.{ℕ, suc, ◌+◌, ◌*◌, ◌<◌, ◌≤◌}
use native.Mathlib.Omega.{arith}
use lib.ListN.{length, length-append}
use lib.Seq.{append_snoc}
use Rattle.runs.specs.Parts.{part, Kept}
use Rattle.runs.proofs.Parts.{part_none}
use Rattle.runs.proofs.Frames.{kept_none, kept_then, kept_wide, kept-laid, laid_front, front_more}
use Rattle.numbers.specs.Little.{spell}
use Rattle.numbers.proofs.Little.{length-spell}
use Rattle.rule.specs.Shapes.{spell_all}
use Rattle.rule.specs.Training.{Merge}
use Rattle.rule.specs.Layout.{piece_bytes, merge_bytes, saving_bytes}
use Rattle.rule.proofs.Lengths.{length-merge_bytes, length-saving_bytes}
use Rattle.intern.specs.Pieces.{pieces, Held}
use Rattle.intern.specs.Intern.{Lacks}
use Rattle.intern.specs.Many.{Exceed}
use Rattle.intern.proofs.Rooms.{length-pieces}
use Rattle.intern.proofs.Many.{length_bytes}
use Rattle.engine.specs.Engine.{JoinDone}
use Rattle.engine.specs.declared.Engine.{Engine}
use Rattle.output.specs.Output.{More, PieceDone, MergeDone}
use Rattle.training.specs.declared.Applied.{Applied}
use Rattle.training.specs.Training.{ApplyDone, with_merges, Written, TooMuch}

-- RUNS AND BYTES

bytes_append : (ps qs : List (List ℕ)) → piece_bytes (ps ++ qs) ≡ piece_bytes ps ++ piece_bytes qs
unfolding piece_bytes flat_map
bytes_append [] qs = refl
bytes_append (p ∷ ps) qs = ap (λ (l : List ℕ). p ++ l) (bytes_append ps qs) ∙ sym (append_assoc p (piece_bytes ps) (piece_bytes qs))

bytes_cons : (p : List ℕ) (ps : List (List ℕ)) → length p ≤ length (piece_bytes (p ∷ ps))
unfolding piece_bytes flat_map
bytes_cons p ps = omega (arith, length-append p (piece_bytes ps))

-- ONE MERGE in the rooms

module _ (g : Engine) (n u k a b times : ℕ) (s cs xs ys ms ss ds vs ws ns ts : List ℕ) where
  pub apply_full : (e : NoRoom) (r : Result Applied NoRoom) → IsErr r → PieceDone (Err e) n u s xs ys vs ws → ApplyDone r g n u k a b times s cs xs ys ms ss ds vs ws ns ts
  unfolding PieceDone ApplyDone
  apply_full e (Ok r) i d = absurd (cc)
  apply_full e (Err f) i d = inl d.2

  pub apply_out : (e : NoRoom) (r : Result Applied NoRoom) → IsErr r → MergeDone (Err e) k a b times ms ss ns ts → ApplyDone r g n u k a b times s cs xs ys ms ss ds vs ws ns ts
  unfolding MergeDone ApplyDone
  apply_out e (Ok r) i d = absurd (cc)
  apply_out e (Err f) i d = inr d.2

  pub apply_done : (v : ℕ) (m : ⊤) → PieceDone (Ok v) n u s xs ys vs ws → MergeDone (Ok m) k a b times ms ss ns ts
      → (h : Engine) → JoinDone g a b n cs ds h
      → ApplyDone (Ok (record { filled = record { count = n + 1; used = v }; engine = h })) g n u k a b times s cs xs ys ms ss ds vs ws ns ts
  unfolding PieceDone MergeDone ApplyDone
  apply_done v m d e h j = (refl, d, e, j)

pub ruleset apply_rules = (apply_full, apply_out, apply_done)

-- THE LOOP. What stands in the rooms after k merges, where n pieces of u bytes were
pub record Standing (n u : ℕ) (xs ys ms ss vs ws ns ts : List ℕ) (n' u' k : ℕ) : Type 0 where
  pub held : Held n' u' vs ws
  pub number : n' ≡ n + k
  pub grows : u ≤ u'
  pub bytes : Kept u u' xs vs
  pub ends : Kept (n * 4) (n' * 4) ys ws
  pub merges : Kept 0 (k * 8) ms ns
  pub savings : Kept 0 (k * 8) ss ts
  pub places : (k * 8 ≤ length ms) × (k * 8 ≤ length ss)

-- what the rule says of it: `all` are the merges of the whole, `todo` those that are to come
pub record Toward (ps : List (List ℕ)) (all todo : List Merge) (qs : List (List ℕ)) (ns ts : List ℕ) (k : ℕ) : Type 0 where
  pub pieces_are : with_merges qs todo ≡ with_merges ps all
  pub merges_are : part 0 (k * 8) ns ++ merge_bytes todo ≡ merge_bytes all
  pub savings_are : part 0 (k * 8) ts ++ saving_bytes todo ≡ saving_bytes all
  pub count : k + length todo ≡ length all

pub standing_start : (n u : ℕ) (xs ys ms ss : List ℕ) → Held n u xs ys → Standing n u xs ys ms ss xs ys ms ss n u 0
standing_start n u xs ys ms ss r =
    record {
      held = r;
      number = omega arith;
      grows = omega arith;
      bytes = kept_none u u xs;
      ends = kept_none (n * 4) (n * 4) ys;
      merges = kept_none 0 0 ms;
      savings = kept_none 0 0 ss;
      places = (omega arith, omega arith);
    }

pub toward_start : (ps : List (List ℕ)) (all : List Merge) (ms ss : List ℕ) → Toward ps all all ps ms ss 0
toward_start ps all ms ss =
    record {
      pieces_are = refl;
      merges_are = ap (λ (l : List ℕ). l ++ merge_bytes all) (part_none 0 ms);
      savings_are = ap (λ (l : List ℕ). l ++ saving_bytes all) (part_none 0 ss);
      count = omega arith;
    }

-- AT THE END
module _ (n u : ℕ) (xs ys ms ss vs ws ns ts : List ℕ) (n' u' k : ℕ) (σ : Standing n u xs ys ms ss vs ws ns ts n' u' k)
    (all todo : List Merge) (τ : Toward (pieces xs ys n) all todo (pieces vs ws n') ns ts k) where
  pub toward_end : todo ≡ [] → Written all n u xs ys ms ss vs ws ns ts n' u' k
  unfolding merge_bytes saving_bytes spell_all flat_map
  toward_end e =
      let l = ap length e in
      record {
        held = σ.held;
        are = sym (append-nil (pieces vs ws n')) ∙ ap (with_merges (pieces vs ws n')) (sym e) ∙ τ.pieces_are;
        least = omega (arith, σ.number);
        grows = σ.grows;
        bytes = σ.bytes;
        ends = σ.ends;
        count = omega (arith, τ.count);
        merges_fit = omega (arith, length-merge_bytes all, σ.places.0, τ.count);
        savings_fit = omega (arith, length-saving_bytes all, σ.places.1, τ.count);
        merges = laid_front (k * 8) ms ns (merge_bytes all) σ.merges σ.places.0 (sym (append-nil (part 0 (k * 8) ns)) ∙ ap (λ (m : List Merge). part 0 (k * 8) ns ++ merge_bytes m) (sym e) ∙ τ.merges_are);
        savings = laid_front (k * 8) ss ts (saving_bytes all) σ.savings σ.places.1 (sym (append-nil (part 0 (k * 8) ts)) ∙ ap (λ (m : List Merge). part 0 (k * 8) ts ++ saving_bytes m) (sym e) ∙ τ.savings_are);
      }

  -- A TURN: m is the next merge, and `rest` those behind it
  module _ (m : Merge) (rest : List Merge) (e : todo ≡ m ∷ rest) where
    -- the pieces that all would make, and their bytes
    more : with_merges (pieces xs ys n) all ≡ pieces vs ws n' ++ (m.spelled ∷ map (λ m. m.spelled) rest)
    more = sym τ.pieces_are ∙ ap (with_merges (pieces vs ws n')) e

    pub toward_lacks : Lacks n' u' m.spelled vs ws → TooMuch all (pieces xs ys n) xs ys ms ss
    unfolding Lacks Exceed TooMuch
    toward_lacks h = inl (rw more (go h))
      where
        long : length (pieces vs ws n' ++ (m.spelled ∷ map (λ m. m.spelled) rest)) ≡ n' + suc (length (map (λ m. m.spelled) rest))
        long = length-append (pieces vs ws n') (m.spelled ∷ map (λ m. m.spelled) rest) ∙ ap (λ (j : ℕ). j + suc (length (map (λ m. m.spelled) rest))) (length-pieces vs ws n')

        wide : u' + length m.spelled ≤ length (piece_bytes (pieces vs ws n' ++ (m.spelled ∷ map (λ m. m.spelled) rest)))
        wide = rw (bytes_append (pieces vs ws n') (m.spelled ∷ map (λ m. m.spelled) rest)) (simp length-append (omega (arith, length_bytes n' u' vs ws σ.held, bytes_cons m.spelled (map (λ m. m.spelled) rest))))

        go : (length ws < (n' + 1) * 4) ⊎ ((length vs < u' + length m.spelled) ⊎ (4294967295 < u' + length m.spelled))
            → (length ys < length (pieces vs ws n' ++ (m.spelled ∷ map (λ m. m.spelled) rest)) * 4)
            ⊎ ((length xs < length (piece_bytes (pieces vs ws n' ++ (m.spelled ∷ map (λ m. m.spelled) rest)))) ⊎ (4294967295 < length (piece_bytes (pieces vs ws n' ++ (m.spelled ∷ map (λ m. m.spelled) rest)))))
        go (inl i) = inl (omega (arith, long, σ.ends.long))
        go (inr (inl i)) = inr (inl (omega (arith, wide, σ.bytes.long)))
        go (inr (inr i)) = inr (inr (omega (arith, wide)))

    pub toward_no_place : (length ns < k * 8 + 8) ⊎ (length ts < k * 8 + 8) → TooMuch all (pieces xs ys n) xs ys ms ss
    unfolding TooMuch
    toward_no_place h =
        let l = ap length e in
        let c = τ.count in
        go l c h
      where
        go : length todo ≡ length (m ∷ rest) → k + length todo ≡ length all → (length ns < k * 8 + 8) ⊎ (length ts < k * 8 + 8) → TooMuch all (pieces xs ys n) xs ys ms ss
        go l c (inl i) = inr (inl (omega (arith, length-merge_bytes all, σ.merges.long)))
        go l c (inr i) = inr (inr (omega (arith, length-saving_bytes all, σ.savings.long)))

    -- the rule's state behind it
    module _ (vs₂ ws₂ : List ℕ) (u₂ : ℕ) (p : More n' u' m.spelled vs ws vs₂ ws₂ u₂) (ns₂ ts₂ : List ℕ) (g : MergeDone (Ok tt) k m.left m.right m.saved ns ts ns₂ ts₂) where
      pub toward_next : Toward (pieces xs ys n) all rest (pieces vs₂ ws₂ (n' + 1)) ns₂ ts₂ (k + 1)
      unfolding MergeDone merge_bytes saving_bytes spell_all flat_map
      toward_next =
          let l = ap length e in
          let x = spell 4 m.left ++ spell 4 m.right in
          let y = spell 8 m.saved in
          let lx : length x ≡ 8 = length-append (spell 4 m.left) (spell 4 m.right) ∙ rw (length-spell 4 m.left, length-spell 4 m.right) in
          let ly : length y ≡ 8 = length-spell 8 m.saved in
          let zx : (k + 1) * 8 ≡ k * 8 + length x = omega arith in
          let zy : (k + 1) * 8 ≡ k * 8 + length y = omega arith in
          record {
            pieces_are = ap (λ (l : List (List ℕ)). with_merges l rest) p.are
                ∙ append_snoc (pieces vs ws n') m.spelled (map (λ m. m.spelled) rest)
                ∙ sym more;
            merges_are = ap (λ (l : List ℕ). l ++ merge_bytes rest)
                (ap (λ (i : ℕ). part 0 i ns₂) zx ∙ ap (part 0 (k * 8 + length x)) g.2 ∙ front_more (k * 8) ns x (omega (arith, g.0)))
                ∙ append_assoc (part 0 (k * 8) ns) x (merge_bytes rest)
                ∙ ap (λ (l : List Merge). part 0 (k * 8) ns ++ merge_bytes l) (sym e)
                ∙ τ.merges_are;
            savings_are = ap (λ (l : List ℕ). l ++ saving_bytes rest)
                (ap (λ (i : ℕ). part 0 i ts₂) zy ∙ ap (part 0 (k * 8 + length y)) g.3 ∙ front_more (k * 8) ts y (omega (arith, g.1)))
                ∙ append_assoc (part 0 (k * 8) ts) y (saving_bytes rest)
                ∙ ap (λ (l : List Merge). part 0 (k * 8) ts ++ saving_bytes l) (sym e)
                ∙ τ.savings_are;
            count = omega (arith, τ.count);
          }

-- the rooms behind it
module _ (n u : ℕ) (xs ys ms ss vs ws ns ts : List ℕ) (n' u' k : ℕ) (σ : Standing n u xs ys ms ss vs ws ns ts n' u' k)
    (a b times : ℕ) (s : List ℕ) (vs₂ ws₂ : List ℕ) (u₂ : ℕ) (p : More n' u' s vs ws vs₂ ws₂ u₂) (ns₂ ts₂ : List ℕ) (g : MergeDone (Ok tt) k a b times ns ts ns₂ ts₂) where
  pub standing_next : Standing n u xs ys ms ss vs₂ ws₂ ns₂ ts₂ (n' + 1) u₂ (k + 1)
  unfolding MergeDone
  standing_next =
      let x = spell 4 a ++ spell 4 b in
      let lx : length x ≡ 8 = length-append (spell 4 a) (spell 4 b) ∙ rw (length-spell 4 a, length-spell 4 b) in
      let ly : length (spell 8 times) ≡ 8 = length-spell 8 times in
      record {
        held = p.held;
        number = omega (arith, σ.number);
        grows = omega (arith, σ.grows, p.long);
        bytes = kept_then (kept_wide {lo = u} {hi = u'} u u₂ (omega arith) (omega (arith, p.long)) σ.bytes) (kept_wide {lo = u'} {hi = u₂} u u₂ σ.grows (omega arith) p.bytes);
        ends = kept_then (kept_wide {lo = n * 4} {hi = n' * 4} (n * 4) ((n' + 1) * 4) (omega arith) (omega arith) σ.ends)
            (kept_wide {lo = n' * 4} {hi = (n' + 1) * 4} (n * 4) ((n' + 1) * 4) (omega (arith, σ.number)) (omega arith) p.ends);
        merges = kept_then (kept_wide {lo = 0} {hi = k * 8} 0 ((k + 1) * 8) (omega arith) (omega arith) σ.merges)
            (rw g.2 (kept_wide {lo = k * 8} {hi = k * 8 + length x} 0 ((k + 1) * 8) (omega arith) (omega (arith, lx)) (kept-laid ns (k * 8) x (omega (arith, lx, g.0)))));
        savings = kept_then (kept_wide {lo = 0} {hi = k * 8} 0 ((k + 1) * 8) (omega arith) (omega arith) σ.savings)
            (rw g.3 (kept_wide {lo = k * 8} {hi = k * 8 + length (spell 8 times)} 0 ((k + 1) * 8) (omega arith) (omega (arith, ly)) (kept-laid ts (k * 8) (spell 8 times) (omega (arith, ly, g.1)))));
        places = (omega (arith, g.0, σ.merges.long), omega (arith, g.1, σ.savings.long));
      }
