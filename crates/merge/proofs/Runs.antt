-- The laws of rewriting the cells of a word in place. Assumes nothing.
use mathlib.Core.Path.{◌≡◌, refl, sym, ap, ◌∙◌}
use mathlib.Core.Bool.{Bool, true, false}
use mathlib.Core.List.{List, [], ◌∷◌, ◌++◌, map, append-nil}
use mathlib.Core.Logic.{◌⊎◌, inl, inr}
use Prim.Native.Nat.{ℕ, ◌+◌, ◌-◌, ◌^◌, ◌≤◌, ◌<◌}
use native.Mathlib.Omega.{arith}
use lib.ListN.{length, drop, length-drop}
use lib.Seq.{append_snoc, take_all}
use borrow.Author.Tests.{eq-eqb, ne_eqb}
use Rattle.std.specs.Prelude.{Option, Some, None, slice_get}
use Rattle.std.proofs.lemmas.Option.{slice_get-get_or, slice_get_past}
use Rattle.runs.specs.Parts.{nth, put, part, Kept}
use Rattle.runs.proofs.Parts.{length-put, nth-put, nth-put_other, length-part, nth-part, part_none, part_lent, part-more, part-part, part_ext}
use Rattle.runs.proofs.Frames.{kept_none, kept_then, kept_wide, kept-put, kept-part}
use Rattle.rule.specs.Rewriting.{is_pair, Span, one, hit, cut, src, out, rewrite}
use Rattle.rule.proofs.Rewriting.{src-cut}
use Rattle.step.specs.Step.{starts_pair, step_by, step_of, StepAt}
use Rattle.step.specs.declared.Step.{Step}
use Rattle.step.proofs.Steps.{decided}
use Rattle.word.specs.Layout.{symbol_in, symbols_at}
use Rattle.word.proofs.Views.{symbol_alone, symbols_length, nth_symbols}
use Rattle.merge.specs.Cells.{cells_of, rewrite_cells, leaves, Looked, Rewritten, Run, RewrittenWord}

-- a part without its first cells
pub part-drop : (k at n : ℕ) (cs : List ℕ) → at + n ≤ length cs → k ≤ n → drop k (part at n cs) ≡ part (at + k) (n - k) cs
part-drop k at n cs h l =
    sym (take_all (n - k) (drop k (part at n cs)) (simp length-drop (omega (arith, length-part at n cs h))))
    ∙ part_lent k n (part at n cs)
    ∙ part-part k (n - k) at n cs (omega arith) h

-- THE CELLS OF A REWRITTEN WORD HOLD THE REWRITTEN WORD

module _ (a b x : ℕ) (small : x < 2 ^ 32) where
  cells_out : (ps : List Span) (l : List ℕ) → src a b ps ≡ map symbol_in l → map symbol_in (cells_of x ps l) ≡ out x ps
  unfolding cells_of src out
  cells_out [] l e = refl
  cells_out (one s ∷ ps) [] e = let z : ◌≡◌ {A = ℕ} 0 1 = cc in absurd (omega arith)
  cells_out (one s ∷ ps) (c ∷ l) e =
      let h : symbol_in c ≡ s = cc in
      let t : src a b ps ≡ map symbol_in l = cc in
      rw (h, cells_out ps l t)
  cells_out (hit ∷ ps) [] e = let z : ◌≡◌ {A = ℕ} 0 1 = cc in absurd (omega arith)
  cells_out (hit ∷ ps) (c ∷ []) e = let z : ◌≡◌ {A = ℕ} 0 1 = cc in absurd (omega arith)
  cells_out (hit ∷ ps) (c ∷ d ∷ l) e =
      let t : src a b ps ≡ map symbol_in l = cc in
      rw (symbol_alone x small, cells_out ps l t)

  pub rewrite_cells_lem : (l : List ℕ) → map symbol_in (rewrite_cells a b x l) ≡ rewrite a b x (map symbol_in l)
  unfolding rewrite_cells rewrite
  rewrite_cells_lem l = cells_out (cut a b (map symbol_in l)) l (src-cut a b (map symbol_in l))

-- A STEP

module _ (a b x : ℕ) (previous : Option ℕ) where
  step_cells : (l : List ℕ) → 0 < length l
      → rewrite_cells a b x l ≡ leaves (step_of a b x previous (map symbol_in l)) (nth l 0) ∷ rewrite_cells a b x (drop (step_of a b x previous (map symbol_in l)).took l)
  unfolding rewrite_cells cells_of leaves step_of step_by starts_pair cut nth
  step_cells [] h = absurd (omega arith)
  step_cells (c ∷ []) h = refl
  step_cells (c ∷ d ∷ r) h = go (is_pair a b (symbol_in c) (symbol_in d)) refl
    where
      go : (t : Bool) → is_pair a b (symbol_in c) (symbol_in d) ≡ t
          → rewrite_cells a b x (c ∷ d ∷ r)
          ≡ leaves (step_of a b x previous (map symbol_in (c ∷ d ∷ r))) c ∷ rewrite_cells a b x (drop (step_of a b x previous (map symbol_in (c ∷ d ∷ r))).took (c ∷ d ∷ r))
      go true e = rw e
      go false e = rw e

-- a symbol looked at, the first or one further on, if there is one
module _ (at n j : ℕ) (cs : List ℕ) (room : at + n ≤ length cs) where
  pub peek_in : (r : ℕ) → r ≡ symbol_in (nth cs (at + j)) → j < n → Some r ≡ slice_get (symbols_at at n cs) j
  unfolding nth
  peek_in r e h =
      rw (slice_get-get_or (symbols_at at n cs) j 0 (omega (arith, symbols_length at n cs room)))
      (ap Some (e ∙ sym (nth_symbols at n cs j h)))

  pub peek_past : n ≤ j → None ≡ slice_get (symbols_at at n cs) j
  peek_past h = sym (slice_get_past (symbols_at at n cs) j (omega (arith, symbols_length at n cs room)))

-- what a step leaves
module _ (st : Step) (c : ℕ) where
  pub leaves_cell : (v : ℕ) → v ≡ c → st.took ≡ 1 → v ≡ leaves st c
  unfolding leaves
  leaves_cell v e h = rw (eq-eqb st.took 1 h) e

  pub leaves_symbol : (st.took ≡ 1 → ⊥) → st.symbol ≡ leaves st c
  unfolding leaves
  leaves_symbol h = rw (ne_eqb st.took 1 h)

-- a look at the front
pub looked : (a b x : ℕ) (previous : Option ℕ) (at left s : ℕ) (t u : Option ℕ) (cs : List ℕ) → at + left ≤ length cs → 0 < left
    → s ≡ symbol_in (nth cs at) → t ≡ slice_get (symbols_at at left cs) 1 → u ≡ slice_get (symbols_at at left cs) 2
    → (st : Step) → st ≡ step_by a b x previous s t u → Looked a b x previous at left cs st
unfolding symbols_at step_of
looked a b x previous at left s t u cs l h is_first et eu st e =
    record {
      is = is;
      step = front;
      within = omega (arith, front.within, long);
      cells_is = rw (is, ← first) (step_cells a b x previous (part at left cs) (omega (arith, length-part at left cs l)));
    }
  where
    long : length (symbols_at at left cs) ≡ left
    long = symbols_length at left cs l

    here : at + 0 ≡ at
    here = omega arith

    es : s ≡ nth (symbols_at at left cs) 0
    es = is_first ∙ sym (rw here at (nth_symbols at left cs 0 h))

    front : StepAt a b x previous (symbols_at at left cs) st
    front = decided a b x previous (symbols_at at left cs) s t u st (omega (arith, long)) es et eu e

    is : st ≡ step_of a b x previous (map symbol_in (part at left cs))
    is = rw (← es, ← et, ← eu) e

    first : nth (part at left cs) 0 ≡ nth cs at
    first = rw here at (nth-part at left cs 0 h)

-- THE LOOP

module _ (a b x start n : ℕ) where
  pub run_start : (cs : List ℕ) → start + n ≤ length cs → length cs < 2 ^ 61 → Run a b x start n 0 start n cs cs
  run_start cs h l = record {
    sofar = rw (part_none start cs);
    kept = kept_none start (start + 0) cs;
    behind = omega arith;
    ends = omega arith;
    room = h;
    long = refl;
    small = l;
  }

  module _ (k at left : ℕ) (cs ds : List ℕ) (σ : Run a b x start n k at left cs ds) where
    pub run_turn : 0 < left → (previous : Option ℕ) (st : Step) → Looked a b x previous at left ds st
        → (v : ℕ) → v ≡ leaves st (nth ds at)
        → (es : List ℕ) → es ≡ put ds (start + k) v
        → Run a b x start n (k + 1) (at + st.took) (left - st.took) cs es
    run_turn h previous st s v ev es e =
        record {
          sofar = rw (before, after, append_snoc, ev, ← s.cells_is) σ.sofar;
          kept = kept_then (kept_wide start (start + (k + 1)) (omega arith) (omega arith) σ.kept) (kept_wide start (start + (k + 1)) (omega arith) (omega arith) here);
          behind = omega (arith, σ.behind, s.step.least);
          ends = omega (arith, σ.ends, s.within);
          room = omega (arith, σ.room, long);
          long = long ∙ σ.long;
          small = omega (arith, σ.small, long);
        }
      where
        long : length es ≡ length ds
        long = ap length e ∙ length-put ds (start + k) v

        inside : start + k < length ds
        inside = omega (arith, σ.room, σ.behind, σ.ends)

        here : Kept (start + k) (start + (k + 1)) ds es
        here = rw e (kept-put (start + k) (start + (k + 1)) ds (start + k) v (omega arith) (omega arith))

        before : part start (k + 1) es ≡ part start k ds ++ (v ∷ [])
        before =
            part-more start k es (omega (arith, inside, long))
            ∙ ap (λ (m : ℕ). part start k es ++ (m ∷ [])) (ap (λ (l : List ℕ). nth l (start + k)) e ∙ nth-put ds (start + k) v inside)
            ∙ ap (λ (l : List ℕ). l ++ (v ∷ [])) (kept-part start k here (omega (arith, inside)) (inl (omega arith)))

        after : part (at + st.took) (left - st.took) es ≡ drop st.took (part at left ds)
        after =
            kept-part (at + st.took) (left - st.took) here (omega (arith, σ.room, σ.ends, s.within)) (inr (omega (arith, σ.behind, s.step.least)))
            ∙ sym (part-drop st.took at left ds (omega (arith, σ.room, σ.ends)) s.within)

    pub run_end : left ≤ 0 → Rewritten a b x start n cs ds k
    unfolding rewrite_cells cells_of cut
    run_end h =
        let z : left ≡ 0 = omega arith in
        record {
          cells_is = sym (append-nil (part start k ds)) ∙ rw (z, part_none at ds) at σ.sofar;
          fewer = omega (arith, σ.behind, σ.ends);
          kept = σ.kept;
        }

-- the symbols are rewritten, then the length is put
pub word_rewritten : (a b x s n m : ℕ) (cs ds es : List ℕ) → s + 2 + n ≤ length cs → Rewritten a b x (s + 2) n cs ds m → es ≡ put ds (s + 1) m
    → RewrittenWord a b x s n cs es m
word_rewritten a b x s n m cs ds es h r e =
    record { cells_is = cells_is; length_is = length_is; fewer = r.fewer; kept = record { long = long ∙ r.kept.long; same = same } }
  where
    long : length es ≡ length ds
    long = ap length e ∙ length-put ds (s + 1) m

    other : (j : ℕ) → (j ≡ s + 1 → ⊥) → nth es j ≡ nth ds j
    other j i = rw e (nth-put_other ds (s + 1) m j i)

    length_is : nth es (s + 1) ≡ m
    length_is = rw e (nth-put ds (s + 1) m (omega (arith, r.kept.long)))

    cells_is : part (s + 2) m es ≡ rewrite_cells a b x (part (s + 2) n cs)
    cells_is = part_ext (s + 2) m es ds (omega (arith, long, r.fewer, r.kept.long)) long (λ j l. other (s + 2 + j) (omega arith)) ∙ r.cells_is

    same : (j : ℕ) → (j < s + 1) ⊎ (s + 2 + m ≤ j) → nth es j ≡ nth cs j
    same j (inl i) = other j (omega arith) ∙ r.kept.same j (inl (omega arith))
    same j (inr i) = other j (omega arith) ∙ r.kept.same j (inr i)
