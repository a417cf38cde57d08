-- The two passes over a word, each by the same step: start, a turn, end. A turn has no branch. Assumes nothing.
use mathlib.Core.Path.{◌≡◌, refl, sym, ap, ◌∙◌}
use mathlib.Core.List.{List, [], ◌∷◌, ◌++◌, flat_map}
use mathlib.Core.Option.{some}
use Prim.Native.Nat.{ℕ, zero, suc, ◌+◌, ◌*◌, ◌/◌, ◌≤◌, ◌<◌}
use native.Mathlib.Omega.{arith}
use lib.ListN.{length, drop, length-append, length-drop, drop_of_length-le}
use lib.Seq.{drop-drop, get_or-drop}
use Rattle.std.specs.Prelude.{Option, Some, None, is_some, slice_get}
use Rattle.std.proofs.lemmas.Option.{slice_get-get_or, slice_get_past}
use Rattle.runs.specs.Parts.{nth}
use Rattle.runs.proofs.Parts.{nth_ext}
use Rattle.numbers.specs.Little.{little, spell, load, store, numbers}
use Rattle.numbers.proofs.Little.{length-spell, length-numbers, nth-numbers}
use Rattle.rule.specs.Shapes.{spell_all}
use Rattle.rule.specs.Rewriting.{bit, before, after, cut, out, reports_from, rewrite, reports}
use Rattle.rule.specs.Outcome.{report_bytes}
use Rattle.rule.proofs.Rewriting.{length-rewrite}
use Rattle.rule.proofs.Lengths.{length-spell_all, length-reports}
use Rattle.step.specs.Step.{step_by, standing, following, reports_of, StepAt}
use Rattle.step.specs.declared.Step.{Step}
use Rattle.step.proofs.Steps.{decided}
use Rattle.symbols.specs.Writing.{Writes, Wrote}
use Rattle.symbols.specs.Merging.{Counting, Going, Rewrote}
use Rattle.symbols.proofs.Writing.{writes_start, writes_long, writes_room, writes_turn, writes_ahead, writes_end, reports-append, length_sides}

-- A SYMBOL, AND THE STEP AT A PLACE

get-drop : (i j : ℕ) (l : List ℕ) → slice_get (drop i l) j ≡ slice_get l (i + j)
get-drop zero j l = let z : 0 + j ≡ j = omega arith in rw z refl
get-drop (suc i) j [] = refl
get-drop (suc i) j (s ∷ l) = let z : suc i + j ≡ suc (i + j) = omega arith in rw z (get-drop i j l)

nth-drop : (i j : ℕ) (l : List ℕ) → nth (drop i l) j ≡ nth l (i + j)
unfolding nth
nth-drop i j l = get_or-drop i l j 0

module _ (s : List ℕ) (i : ℕ) where
  pub symbol_at : (v : ℕ) → v ≡ load 4 s (i * 4) → i < length s / 4 → Some v ≡ slice_get (numbers 4 s) i
  unfolding nth
  symbol_at v e h =
      rw (slice_get-get_or (numbers 4 s) i 0 (omega (arith, length-numbers 4 s)))
      (ap Some (e ∙ sym (nth-numbers 4 s i h)))

  pub symbol_past : length s / 4 ≤ i → None ≡ slice_get (numbers 4 s) i
  symbol_past h = sym (slice_get_past (numbers 4 s) i (omega (arith, length-numbers 4 s)))

  pub looked : (a b x : ℕ) (previous : Option ℕ) (p : ℕ) (q r : Option ℕ) (st : Step) → i < length s / 4
      → p ≡ load 4 s (i * 4) → q ≡ slice_get (numbers 4 s) (i + 1) → r ≡ slice_get (numbers 4 s) (i + 2)
      → st ≡ step_by a b x previous p q r
      → StepAt a b x previous (drop i (numbers 4 s)) st
  looked a b x previous p q r st h ep eq er e =
      let z : i + 0 ≡ i = omega arith in
      decided a b x previous (drop i (numbers 4 s)) p q r st (omega (arith, length-drop i (numbers 4 s), length-numbers 4 s))
      (ep ∙ sym (rw z at (nth-drop i 0 (numbers 4 s)) ∙ nth-numbers 4 s i h))
      (eq ∙ sym (get-drop i 1 (numbers 4 s)))
      (er ∙ sym (get-drop i 2 (numbers 4 s)))
      e

-- THE FIRST PASS

tells_length : (a b x : ℕ) (st : Step) → length (reports_of a b x st) ≡ 2 * bit (is_some st.behind) + 2 * bit (is_some st.ahead)
unfolding before after
tells_length a b x st = length_sides a b x st ∙ rw (behind st.behind, ahead st.ahead)
  where
    behind : (p : Option ℕ) → length (before a x (standing p)) ≡ 2 * bit (is_some p)
    behind None = refl
    behind (Some v) = refl

    ahead : (n : Option ℕ) → length (after b x (following n)) ≡ 2 * bit (is_some n)
    ahead None = refl
    ahead (Some v) = refl

module _ (a b x : ℕ) (s : List ℕ) where
  pub count_start : Counting a b x (numbers 4 s) 0 0 None
  unfolding reports
  count_start = record { counted = omega arith; within = omega arith; few = omega arith }

  module _ (i count : ℕ) (previous : Option ℕ) (σ : Counting a b x (numbers 4 s) i count previous) where
    pub count-turn : i < length s / 4 → (st : Step) → StepAt a b x previous (drop i (numbers 4 s)) st
        → (m n : ℕ) → m ≡ 2 * bit (is_some st.behind) → n ≡ 2 * bit (is_some st.ahead)
        → Counting a b x (numbers 4 s) (i + st.took) (count + (m + n)) (Some st.symbol)
    count-turn h st A m n em en =
        let t = tells_length a b x st in
        let d = drop-drop st.took i (numbers 4 s) in
        let l = ap length A.tells ∙ length-append (reports_of a b x st) (reports_from a b x (some st.symbol) (cut a b (drop st.took (drop i (numbers 4 s))))) in
        record {
          counted = omega (arith, σ.counted, rw d at l, t);
          within = omega (arith, A.within, length-drop i (numbers 4 s), length-numbers 4 s);
          few = omega (arith, σ.few, A.few, t);
        }

    pub count_end : length s / 4 ≤ i → count ≡ length (reports a b x (numbers 4 s))
    unfolding cut reports_from
    count_end h =
        let z : drop i (numbers 4 s) ≡ [] = drop_of_length-le (numbers 4 s) {i = i} (omega (arith, length-numbers 4 s)) in
        omega (arith, rw z at σ.counted)

-- THE SECOND PASS

module _ (a b x : ℕ) (s c : List ℕ) where
  pub going_start : 16 * length (reports a b x (numbers 4 s)) ≤ length c → Going a b x s c s c 0 0 0 None
  unfolding rewrite reports
  going_start h = record {
    word = writes_start (spell_all 4 (rewrite a b x (numbers 4 s))) s
        (omega (arith, length-spell_all 4 (rewrite a b x (numbers 4 s)), length-rewrite a b x (numbers 4 s), length-numbers 4 s));
    told = writes_start (flat_map report_bytes (reports a b x (numbers 4 s))) c (omega (arith, length-reports (reports a b x (numbers 4 s))));
    within = omega arith;
    behind = omega arith;
    long_word = refl;
    long_told = refl;
  }

  module _ (s' c' : List ℕ) (i k at : ℕ) (previous : Option ℕ) (σ : Going a b x s c s' c' i k at previous) where
    -- what is still to be read is as it was
    ahead : drop i (numbers 4 s') ≡ drop i (numbers 4 s)
    unfolding load
    ahead = nth_ext (drop i (numbers 4 s')) (drop i (numbers 4 s)) (omega (arith, long, length-drop i (numbers 4 s), length-drop i (numbers 4 s'))) each
      where
        long : length (numbers 4 s') ≡ length (numbers 4 s)
        long = omega (arith, length-numbers 4 s, length-numbers 4 s', σ.long_word)

        each : (j : ℕ) → j < length (drop i (numbers 4 s')) → nth (drop i (numbers 4 s')) j ≡ nth (drop i (numbers 4 s)) j
        each j h =
            let m : i + j < length s / 4 = omega (arith, length-drop i (numbers 4 s'), long, length-numbers 4 s) in
            nth-drop i j (numbers 4 s')
            ∙ nth-numbers 4 s' (i + j) (rw σ.long_word m)
            ∙ ap little (writes_ahead _ s s' (k * 4) _ σ.word ((i + j) * 4) 4 (omega (arith, σ.behind)) (omega arith))
            ∙ sym (nth-numbers 4 s (i + j) m)
            ∙ sym (nth-drop i j (numbers 4 s))

    module _ (st : Step) (A' : StepAt a b x previous (drop i (numbers 4 s')) st) where
      A : StepAt a b x previous (drop i (numbers 4 s)) st
      A = rw ahead at A'

      within : i + st.took ≤ length s / 4
      within = omega (arith, A.within, A.least, length-drop i (numbers 4 s), length-numbers 4 s)

      -- what comes next in the two runs: the symbol and the reports of the step
      next_word : Writes (spell_all 4 (rewrite a b x (numbers 4 s))) s s' (k * 4) (spell 4 st.symbol ++ spell_all 4 (out x (cut a b (drop (i + st.took) (numbers 4 s)))))
      unfolding spell_all flat_map
      next_word = rw (A.outs, drop-drop) at σ.word

      next_told : Writes (flat_map report_bytes (reports a b x (numbers 4 s))) c c' at
          (flat_map report_bytes (reports_of a b x st) ++ flat_map report_bytes (reports_from a b x (some st.symbol) (cut a b (drop (i + st.took) (numbers 4 s)))))
      next_told = rw (A.tells, reports-append, drop-drop) at σ.told

      pub going_room : at + 16 * length (reports_of a b x st) ≤ length c'
      going_room = let r = writes_room _ c c' at (flat_map report_bytes (reports_of a b x st)) _ next_told in omega (arith, σ.told.fits, σ.long_told, length-reports (reports_of a b x st))

      pub going_store : k * 4 + 4 ≤ length s'
      going_store = let r = writes_room _ s s' (k * 4) (spell 4 st.symbol) _ next_word in omega (arith, σ.word.fits, σ.long_word, length-spell 4 st.symbol)

      pub going_turn : (s'' c'' : List ℕ) (at' : ℕ) → Wrote (reports_of a b x st) at c' c'' at' → s'' ≡ store 4 s' (k * 4) st.symbol
          → Going a b x s c s'' c'' (i + st.took) (k + 1) at' (Some st.symbol)
      unfolding store
      going_turn s'' c'' at' w e =
          let z : k * 4 + length (spell 4 st.symbol) ≡ (k + 1) * 4 = omega (arith, length-spell 4 st.symbol) in
          let y : at + length (flat_map report_bytes (reports_of a b x st)) ≡ at' = omega (arith, length-reports (reports_of a b x st), w.after) in
          let word = rw z at (writes_turn _ s s' (k * 4) (spell 4 st.symbol) _ s'' next_word e) in
          let told = rw y at (writes_turn _ c c' at (flat_map report_bytes (reports_of a b x st)) _ c'' next_told w.is) in
          record {
            word = word;
            told = told;
            within = within;
            behind = omega (arith, σ.behind, A.least);
            long_word = writes_long _ s s'' _ _ word;
            long_told = writes_long _ c c'' _ _ told;
          }

    pub going_end : length s' / 4 ≤ i → Rewrote a b x s c s' c' k
    unfolding cut out reports_from spell_all flat_map
    going_end h =
        let z : drop i (numbers 4 s) ≡ [] = drop_of_length-le (numbers 4 s) {i = i} (omega (arith, σ.long_word, length-numbers 4 s)) in
        let p = writes_end _ s s' (k * 4) (rw z at σ.word) in
        let q = writes_end _ c c' at (rw z at σ.told) in
        let m : k * 4 ≡ 4 * length (rewrite a b x (numbers 4 s)) = p.1 ∙ length-spell_all 4 (rewrite a b x (numbers 4 s)) in
        record {
          word = p.0;
          told = q.0;
          many = omega arith;
          few = omega (arith, σ.behind, σ.within);
          long_word = σ.long_word;
          long_told = σ.long_told;
        }
