-- The laws of the loop that rewrites a word: its start, a turn, its end. Assumes nothing.
use mathlib.Core.Path.{◌≡◌, refl, sym, ap, ◌∙◌}
use mathlib.Core.List.{List, [], ◌∷◌, ◌++◌, map, append-nil, map-append}
use mathlib.Core.Logic.{◌⊎◌, inl, inr, ⊎_elim}
use mathlib.Core.Option as maybe
use Rattle.std.specs.Prelude.{Option, Some, None}
use Prim.Native.Nat.{ℕ, ◌+◌, ◌-◌, ◌<◌, ◌≤◌}
use native.Mathlib.Omega.{arith}
use lib.ListN.{length, drop}
use lib.Seq.{append_snoc}
use Rattle.runs.specs.Parts.{nth, put, part, Kept}
use Rattle.runs.proofs.Parts.{nth-put, part-more}
use Rattle.runs.proofs.Frames.{kept_none, kept-put, kept-part}
use Rattle.rule.specs.Rewriting.{rewrite, before, after}
use Rattle.step.specs.Step.{reports_of}
use Rattle.step.specs.declared.Step.{Step}
use Rattle.word.specs.Layout.{symbol_in, symbols_at, entry_at, Found, words_in}
use Rattle.word.specs.declared.WordSet.{WordSet}
use Rattle.word.specs.declared.Span.{Span}
use Rattle.word.proofs.Views.{symbol_alone, symbols_length, symbols_none, symbols_same, nth_symbols}
use Rattle.word.proofs.Sets.{word_symbols}
use Rattle.merge.specs.Cells.{leaves, Looked, Rewritten}
use Rattle.merge.proofs.Runs.{part-drop, rewrite_cells_lem, leaves_cell, leaves_symbol, run_start, run_turn, run_end}
use Rattle.states.specs.Tracking.{last_of}
use Rattle.pairs.specs.declared.Pairs.{Pairs}
use Rattle.reports.specs.Reports.{beyond}
use Rattle.joining.specs.Joining.{Midway}
use Rattle.joining.specs.Running.{spot, size, word_of, beneath, CanTell, Told, Keeps, Hits, Following, Running, Ran}
use Rattle.joining.proofs.Beneath.{beneath-length, beneath_in, beneath-part, beneath-put, beneath-same, beneath_none}
use Rattle.joining.proofs.Steps.{first_is, symbols_drop, step_kind, last_more}
use Rattle.joining.proofs.Following.{follow_start, can_report, follow_hit, follow-put}

-- the states lie within the room
base_in : (a b x : ℕ) (w : WordSet) (p : Pairs) (n : ℕ) (cs : List ℕ) → Midway a b x w p n cs → p.base ≤ length cs
base_in a b x w p n cs σ = omega (arith, σ.ok.room)

pub running_start : (a b x : ℕ) (w : WordSet) (p : Pairs) (k n f : ℕ) (cs : List ℕ) (here : Span) → Midway a b x w p n cs → k < w.count
    → f ≡ (entry_at (words_in w cs) k).frequency → Found w k cs here
    → Running a b x w p k n here.start here.length f 0 here.start here.length n None cs cs
unfolding last_of
running_start a b x w p k n f cs here σ hk ef g = record {
  midway = σ;
  low = hk;
  place = g.place;
  many = many;
  weight = ef;
  run = rw none (run_start a b x here.start here.length cs g.room σ.words.small);
  follows = rw (none, symbols_none here.start cs, g.symbols) (follow_start a b x w p k n cs σ hk);
  last = rw (none, symbols_none here.start cs);
}
  where
    none : beneath p.base cs cs ≡ cs
    none = beneath_none p.base cs (base_in a b x w p n cs σ)

    many : here.length ≡ size w k cs
    many =
        g.long
        ∙ ap length (word_symbols w cs σ.words k hk)
        ∙ symbols_length (spot w k cs + 2) (size w k cs) cs (omega (arith, σ.words.in_line.last k hk, σ.words.room))

module _ {a b x : ℕ} {w : WordSet} {p : Pairs} {k n start long f kept at left m : ℕ} {previous : Option ℕ} {cs ds : List ℕ}
    (σ : Running a b x w p k n start long f kept at left m previous cs ds) where
  abbrev seen : List ℕ
  seen = beneath p.base cs ds

  -- what is written, and what is still to be read
  abbrev P : List ℕ
  P = symbols_at start kept seen

  abbrev R : List ℕ
  R = symbols_at at left seen

  fits : p.base ≤ length cs
  fits = base_in a b x w p n cs σ.midway

  same_long : length ds ≡ length cs
  same_long = σ.follows.kept.long

  seen_long : length seen ≡ length cs
  seen_long = beneath-length p.base cs ds same_long fits

  -- the word lies below the states
  ends : start + long ≤ p.base
  ends = rw (σ.place, σ.many) (omega (arith, σ.midway.words.in_line.last k σ.low, σ.midway.apart))

  begins : w.low ≤ start
  begins = omega (arith, σ.place, σ.midway.words.in_line.first k σ.low)

  read_in : at + left ≤ p.base
  read_in = omega (arith, σ.run.ends, ends)

  pub running_read : at + left ≤ length ds
  running_read = omega (arith, read_in, fits, same_long)

  -- A STEP, as it is seen below the states
  module _ (h : 0 < left) {st : Step} (g : Looked a b x previous at left ds st) where
    same_part : part at left seen ≡ part at left ds
    same_part = beneath-part p.base cs ds same_long fits at left read_in

    same_symbols : R ≡ symbols_at at left ds
    same_symbols = symbols_same at left ds seen same_part

    same_cell : nth seen at ≡ nth ds at
    same_cell = beneath_in p.base cs ds same_long fits at (omega (arith, read_in))

    look : Looked a b x previous at left seen st
    look = record {
      is = rw same_symbols g.is;
      step = rw same_symbols g.step;
      within = g.within;
      cells_is = rw (same_part, same_cell) g.cells_is;
    }

    read_long : length R ≡ left
    read_long = symbols_length at left seen (omega (arith, read_in, fits, seen_long))

    kind : Hits a b x previous R st ⊎ Keeps R st
    kind = step_kind a b x previous R st (omega (arith, read_long)) look.is

    -- the reports of a step that rewrites are those of the pair behind P
    tells : Hits a b x previous R st → reports_of a b x st ≡ before a x (last_of P) ++ after b x (drop 2 R)
    tells e = e.tells ∙ ap (λ (o : maybe.Option ℕ). before a x o ++ after b x (drop 2 R)) σ.last

    follows_hit : Hits a b x previous R st → Following a b x w p k n m (P ++ (a ∷ b ∷ drop 2 R)) cs ds
    follows_hit e = rw e.front at σ.follows

    pub running_tell : CanTell a b x p m st f ds
    running_tell two =
        ⊎_elim
        (λ (e : Hits a b x previous R st). rw (tells e, σ.weight) (can_report a b x w p k n cs σ.midway σ.low m P (drop 2 R) ds (follows_hit e)))
        (λ (e : Keeps R st). absurd (omega (arith, e.took)))
        kind

    module _ {m' : ℕ} {es : List ℕ} (t : Told a b x p m st f k ds es m') where
      kept_told : Kept p.base (beyond p) ds es
      kept_told =
          ⊎_elim
          (λ (e : Hits a b x previous R st). (t.hit e.took).kept)
          (λ (e : Keeps R st). rw (t.keep (λ two. omega (arith, e.took))).0 (kept_none p.base (beyond p) ds))
          kind

      told : Following a b x w p k n m' (P ++ (st.symbol ∷ drop st.took R)) cs es
      told = ⊎_elim hits keeps kind
        where
          hits : Hits a b x previous R st → Following a b x w p k n m' (P ++ (st.symbol ∷ drop st.took R)) cs es
          hits e =
              rw (e.symbol, e.took)
              (follow_hit a b x w p k n cs σ.midway σ.low m P (drop 2 R) ds (follows_hit e) m' es (rw (tells e, σ.weight) at (t.hit e.took)))

          keeps : Keeps R st → Following a b x w p k n m' (P ++ (st.symbol ∷ drop st.took R)) cs es
          keeps e =
              let s = t.keep (λ two. omega (arith, e.took)) in
              rw (e.took, ← e.front, s.0, s.1) σ.follows

      seen_told : beneath p.base cs es ≡ seen
      seen_told = beneath-same p.base cs ds same_long fits es kept_told.long (λ j l. kept_told.same j (inl l))

      -- the cells read and written lie apart: what is written never overtakes what is read
      written_in : start + kept < at + left
      written_in = omega (arith, σ.run.behind)

      -- what the step leaves holds its symbol
      left_symbol : symbol_in (leaves st (nth seen at)) ≡ st.symbol
      left_symbol = ⊎_elim hits keeps kind
        where
          hits : Hits a b x previous R st → symbol_in (leaves st (nth seen at)) ≡ st.symbol
          hits e =
              rw (← leaves_symbol st (nth seen at) (λ one. omega (arith, e.took)), e.symbol)
              (symbol_alone x (omega (arith, σ.midway.new)))

          keeps : Keeps R st → symbol_in (leaves st (nth seen at)) ≡ st.symbol
          keeps e =
              let z : at + 0 ≡ at = omega arith in
              rw (← leaves_cell st (nth seen at) (nth seen at) refl e.took)
              (sym (rw z at (nth_symbols at left seen 0 h)) ∙ first_is R st.symbol (drop 1 R) e.front)

      module _ {c : ℕ} (ec : c ≡ leaves st (nth es at)) {fs : List ℕ} (ef : fs ≡ put es (start + kept) c) where
        abbrev then : List ℕ
        then = beneath p.base cs fs

        cell_is : c ≡ leaves st (nth seen at)
        cell_is = rw (ec, same_cell, kept_told.same at (inl (omega (arith, read_in))))

        then_is : then ≡ put seen (start + kept) c
        then_is =
            rw (ef, beneath-put p.base cs es (kept_told.long ∙ same_long) fits (start + kept) c (omega (arith, written_in, read_in)), seen_told)

        then_kept : Kept (start + kept) (start + (kept + 1)) seen then
        then_kept = rw then_is (kept-put (start + kept) (start + (kept + 1)) seen (start + kept) c (omega arith) (omega arith))

        wrote : symbols_at start (kept + 1) then ≡ P ++ (st.symbol ∷ [])
        unfolding symbols_at
        wrote =
            rw (
              part-more start kept then (omega (arith, then_kept.long, seen_long, written_in, read_in, fits)),
              kept-part start kept then_kept (omega (arith, seen_long, written_in, read_in, fits)) (inl (omega arith)),
              put_there,
              map-append symbol_in (part start kept seen) (c ∷ []),
              cell_is,
              left_symbol,
            )
          where
            put_there : nth then (start + kept) ≡ c
            put_there = rw then_is (nth-put seen (start + kept) c (omega (arith, seen_long, written_in, read_in, fits)))

        rest : symbols_at (at + st.took) (left - st.took) then ≡ drop st.took R
        unfolding symbols_at
        rest =
            rw (
              kept-part (at + st.took) (left - st.took) then_kept (omega (arith, seen_long, read_in, fits, g.within)) (inr (omega (arith, σ.run.behind, g.step.least))),
              ← part-drop st.took at left seen (omega (arith, seen_long, read_in, fits)) g.within,
            )
            (symbols_drop st.took (part at left seen))

        pub running_turn : Running a b x w p k n start long f (kept + 1) (at + st.took) (left - st.took) m' (Some st.symbol) cs fs
        running_turn = record {
          midway = σ.midway;
          low = σ.low;
          place = σ.place;
          many = σ.many;
          weight = σ.weight;
          run = run_turn a b x start long kept at left cs seen σ.run h previous st look c cell_is then then_is;
          follows = rw (wrote, rest, append_snoc)
              (follow-put a b x w p k n cs σ.midway σ.low m' (P ++ (st.symbol ∷ drop st.took R)) es told (start + kept) c
              (omega (arith, begins)) (omega (arith, written_in, read_in)) fs ef);
          last = rw wrote (sym (last_more P st.symbol));
        }

  pub running_end : left ≤ 0 → Ran a b x w p k n kept m cs ds
  unfolding symbols_at
  running_end h = record { cells_are = rw (σ.place, σ.many) at run; follows = rw all at σ.follows }
    where
      run : Rewritten a b x start long cs seen kept
      run = run_end a b x start long kept at left cs seen σ.run h

      none : R ≡ []
      none = let z : left ≡ 0 = omega arith in rw z (symbols_none at seen)

      all : P ++ R ≡ rewrite a b x (word_of w k cs).symbols
      all = rw none (append-nil P ∙ words)
        where
          words : P ≡ rewrite a b x (word_of w k cs).symbols
          words =
              ap (map symbol_in) run.cells_is
              ∙ rewrite_cells_lem a b x (omega (arith, σ.midway.new)) (part start long cs)
              ∙ ap (rewrite a b x) (rw (σ.place, σ.many) (sym (word_symbols w cs σ.midway.words k σ.low)))
