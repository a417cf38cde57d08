-- Rows 9 and 10, and rows 8 to 10, of the code's answers: each is the rule's. Assumes nothing.
use mathlib.Core.Path.{◌≡◌, refl, sym, ap, subst, ◌∙◌}
use mathlib.Core.List.{List}
use mathlib.Core.Logic.{◌⊎◌, inl, inr}
use Prim.Native.Nat.{ℕ, ◌*◌, ◌-◌, ◌/◌, ◌<◌, ◌≤◌}
use native.Mathlib.Omega.{arith}
use lib.ListN.{length}
use Rattle.runs.specs.Parts.{part, Bytes, Kept}
use Rattle.runs.proofs.Parts.{length-part}
use Rattle.runs.proofs.Frames.{kept_then, kept_wide, laid_front}
use Rattle.cells.specs.Cells.{cells}
use Rattle.cells.proofs.Cells.{length-cells}
use Rattle.rule.specs.Table.{Task, Rooms, A, U, room_for, alphabet, frequencies, word_units}
use Rattle.rule.specs.Seeding.{decorated, seeds, kept}
use Rattle.rule.specs.Training.{train_from, trained, all_pieces}
use Rattle.rule.specs.Layout.{piece_bytes, piece_records, merge_bytes, saving_bytes}
use Rattle.rule.proofs.Seeding.{kept-below}
use Rattle.rule.proofs.Bounds.{kept_light}
use Rattle.error.specs.Answers.{train_verdict}
use Rattle.error.specs.declared.TrainError.{TrainError}
use Rattle.error.specs.declared.TrainError.TheVariants as why
use Rattle.intern.specs.Pieces.{pieces}
use Rattle.intern.specs.Many.{Exceed}
use Rattle.intern.proofs.Rooms.{length-pieces}
use Rattle.intern.proofs.Many.{bytes_are, length_bytes, exceed_lengths}
use Rattle.intern.proofs.Records.{records_are}
use Rattle.word.specs.Layout.{words_in}
use Rattle.word.specs.declared.WordSet.{WordSet}
use Rattle.encoding.specs.declared.Encoded.{Encoded}
use Rattle.seeding.specs.Seeding.{table, CanSeed, Sown, SeedDone}
use Rattle.layout.specs.Layout.{units_at, cells_for, IndexSize}
use Rattle.layout.proofs.Fits.{cells_for_lem}
use Rattle.engine.specs.Engine.{CanStart}
use Rattle.training.specs.Training.{Settings, with_merges, Written, TooMuch, TrainedDone}
use Rattle.training.specs.declared.Trained as training
use Rattle.error.specs.declared.NoRoom.{NoRoom}
use Rattle.trainer.specs.Train.{task_of, rooms_of, CanGrow, GrownOut, GrownDone, CanTrain, TableDone}
use Rattle.std.specs.Prelude.{Result, Ok, Err}
use Rattle.trainer.specs.declared.Trained.{Trained}
use Rattle.trainer.proofs.Weights.{sown_live, kept-weighed}
use Rattle.trainer.proofs.Rows.{seed_exceeds, vocab_low, output_exceeds, all_fit}

-- ROWS 9 AND 10

module _ (w : WordSet) (n u : ℕ) (prefix : List ℕ) (size least limit : ℕ) (cs xs ys ms ss : List ℕ) where
  pub grow_low : (vs ws ns ts : List ℕ) → size < n → GrownDone (Err (why.VocabTooSmall size n)) w n u prefix size least limit cs xs ys ms ss vs ws ns ts
  unfolding GrownDone GrownOut
  grow_low vs ws ns ts h = (refl, refl, h)

  module _ (h : n ≤ size) (r : Result training.Trained NoRoom) (vs ws ns ts : List ℕ) (d : TrainedDone r w n u prefix size least limit cs xs ys ms ss vs ws ns ts) where
    pub grow_out : (e : NoRoom) → r ≡ Err e → GrownDone (Err why.OutputRoom) w n u prefix size least limit cs xs ys ms ss vs ws ns ts
    unfolding GrownDone GrownOut
    grow_out e q = (h, rw q at d)

    pub grow_done : (x : training.Trained) → r ≡ Ok x → GrownDone (Ok (record { pieces = x.filled.count; alphabet = n; merges = x.merges })) w n u prefix size least limit cs xs ys ms ss vs ws ns ts
    unfolding GrownDone
    grow_done x e = (h, refl, (x.filled.used, rw e at d))

-- the room that document 01 asks for, in cells
room_cells : (u a : ℕ) (work : List ℕ) → room_for u a ≤ length work → cells_for u 0 ≤ length (cells work)
room_cells u a work h = omega (arith, cells_for_lem u a, length-cells work, mono (room_for u a) (length work) h)
  where
    mono : (m n : ℕ) → m ≤ n → m / 8 ≤ n / 8
    mono m n k = omega arith

-- there is place for the states of the pairs, and for the queue behind them
pub grow_starts : (w : WordSet) (n u units size cap : ℕ) (cs xs ys : List ℕ) → CanGrow w n u units cs xs ys → n ≤ size → size ≤ 16777216 → (base : ℕ) → base ≡ units_at units → IndexSize units cap
    → CanStart w (record { base = base; cap = cap; most = 3 * units }) n cs
grow_starts w n u units size cap cs xs ys g h k base b i =
    record {
      words = g.words;
      apart = omega (arith, g.top, b);
      few = omega arith;
      under = g.below;
      light = g.light;
      weighed = g.frequent;
      space = omega (arith, g.live);
      wide = i.above;
      narrow = omega (arith, i.below, g.units_few);
      room = omega (arith, i.below, g.room, b);
    }

-- ROWS 8 TO 10. The task of the seeds is the task itself, but for the settings that seeding does not ask for

module _ (ws es fs al ae p s : List ℕ) (seeding size least limit : ℕ) where
  abbrev t : Task
  t = task_of ws es fs al ae p s seeding size least limit

  pub can_seed : (units : ℕ) (work : List ℕ) → CanTrain t units work → CanSeed (table ws es fs al ae p s seeding) units work
  unfolding table A U word_units
  can_seed units work c =
      let g = c.seeds in
      record {
        words-shaped = g.words-shaped;
        symbols_shaped = g.symbols_shaped;
        counts = g.counts;
        bytes_few = g.bytes_few;
        symbols_few = g.symbols_few;
        symbol_bytes_few = g.symbol_bytes_few;
        prefix_short = g.prefix_short;
        suffix_short = g.suffix_short;
        units_are = g.units_are;
        units_few = g.units_few;
        room = g.room;
      }

  same_seeds : seeds (table ws es fs al ae p s seeding) ≡ seeds t
  unfolding table seeds decorated alphabet word_units
  same_seeds = refl

  same_kept : kept (table ws es fs al ae p s seeding) ≡ kept t
  unfolding table kept seeds decorated alphabet word_units frequencies
  same_kept = refl

  module _ (work xs ys ms ss : List ℕ) where
    abbrev was : Rooms
    was = rooms_of work xs ys ms ss

    module _ (units : ℕ) (e : Result Encoded NoRoom) (cs vs zs : List ℕ) (d : SeedDone e (table ws es fs al ae p s seeding) units xs ys cs vs zs) where
      pub table-out : (k : NoRoom) → e ≡ Err k → (now : Rooms) → TableDone (Err why.SeedRoom) t was now
      unfolding SeedDone TableDone train_verdict
      table-out k q now = (seed_exceeds t was (rw same_seeds at (rw q at d)), refl)

      module _ (c u : ℕ) (w : WordSet) (q : e ≡ Ok (record { filled = record { count = c; used = u }; words = w })) where
        sown : Sown (table ws es fs al ae p s seeding) units xs ys cs vs zs c u w
        unfolding SeedDone
        sown = rw q at d

        are : pieces vs zs c ≡ seeds t
        are = sown.are ∙ same_seeds

        number : c ≡ length (seeds t)
        number = sym (length-pieces vs zs c) ∙ ap length are

        bytes : u ≡ length (piece_bytes (seeds t))
        bytes = sym (length_bytes c u vs zs sown.held) ∙ ap (λ (ps : List (List ℕ)). length (piece_bytes ps)) are

        view : words_in w cs ≡ kept t
        view = sown.view ∙ same_kept

        ends_fit : length (seeds t) * 4 ≤ length ys
        ends_fit = omega (arith, number, sown.held.ends, sown.ends.long)

        bytes_fit : length (piece_bytes (seeds t)) ≤ length xs
        bytes_fit = omega (arith, bytes, sown.held.bytes, sown.bytes.long)

        pub table_ready : CanTrain t units work → (rs : List ℕ) → cs ≡ cells rs → length rs ≡ length work → CanGrow w c u units cs vs zs
        table_ready g rs z l =
            record {
              held = sown.held;
              words = sown.words;
              top = sown.top;
              live = sown_live (table ws es fs al ae p s seeding) units xs ys cs vs zs c u w sown (can_seed units work g).units_are;
              units_few = g.seeds.units_few;
              room = omega (arith, room_cells units (A t) work g.seeds.room, ap length z, length-cells rs, length-cells work, ap (λ (n : ℕ). n / 8) l);
              light = rw view (omega (arith, g.light, kept_light t));
              below = rw (view, number) (kept-below t);
              frequent = rw view (kept-weighed t g.frequent);
            }

        module _ (a : Result Trained TrainError) (ls ks ns ts : List ℕ) (g : GrownDone a w c u p size least limit cs vs zs ms ss ls ks ns ts) (b : Bytes ks) (after : List ℕ) where
          settings : Settings t p least limit
          settings = record { prefix_is = refl; least_is = refl; limit_is = refl }

          -- the merges of the loop are the task's
          merges_are : train_from t (size - c) (pieces vs zs c) (words_in w cs)
              ≡ trained t
          unfolding trained
          merges_are = rw (are, view, number)

          all_are : with_merges (pieces vs zs c) (trained t) ≡ all_pieces t
          unfolding all_pieces
          all_are = rw are

          pub table_done : TableDone a t was (rooms_of after ls ks ns ts)
          unfolding TableDone GrownDone GrownOut TrainedDone TooMuch train_verdict
          table_done = go a g
            where
              done : (n v k : ℕ) → c ≤ size → Written (train_from t (size - c) (pieces vs zs c) (words_in w cs)) c u vs zs ms ss ls ks ns ts n v k
                  → TableDone (Ok (record { pieces = n; alphabet = c; merges = k })) t was (rooms_of after ls ks ns ts)
              done n v k h x =
                  let o = rw merges_are at x in
                  let ps : pieces ls ks n ≡ all_pieces t = o.are ∙ all_are in
                  let kb : Kept 0 v xs ls = kept_then (kept_wide {lo = 0} {hi = u} 0 v (omega arith) (omega (arith, o.grows)) sown.bytes) (kept_wide {lo = u} {hi = v} 0 v (omega arith) (omega arith) o.bytes) in
                  let ke : Kept 0 (n * 4) ys ks = kept_then (kept_wide {lo = 0} {hi = c * 4} 0 (n * 4) (omega arith) (omega (arith, o.least)) sown.ends)
                  (kept_wide {lo = c * 4} {hi = n * 4} 0 (n * 4) (omega arith) (omega arith) o.ends) in
                  let lb : length (piece_bytes (all_pieces t)) ≡ v = ap (λ (l : List (List ℕ)). length (piece_bytes l)) (sym ps) ∙ length_bytes n v ls ks o.held in
                  let pr : part 0 (n * 4) ks ≡ piece_records (all_pieces t) = records_are n v ls ks o.held b ∙ ap piece_records ps in
                  let lr : length (piece_records (all_pieces t)) ≡ n * 4 = ap length (sym pr) ∙ length-part 0 (n * 4) ks (omega (arith, o.held.ends)) in
                  let bf : v ≤ length xs = omega (arith, o.held.bytes, kb.long) in
                  let ef : n * 4 ≤ length ys = omega (arith, o.held.ends, ke.long) in (
                    all_fit t was ends_fit bytes_fit (omega (arith, number)) (omega arith) (omega arith) (omega (arith, o.held.small))
                        o.merges_fit o.savings_fit n c k (sym (length-pieces ls ks n) ∙ ap length ps) number o.count,
                    record {
                      pieces = laid_front v xs ls (piece_bytes (all_pieces t)) kb bf (bytes_are n v ls ks o.held ∙ ap piece_bytes ps);
                      ends = laid_front (n * 4) ys ks (piece_records (all_pieces t)) ke ef pr;
                      merges = o.merges;
                      savings = o.savings;
                      bytes_fit = omega (arith, lb);
                      ends_fit = omega (arith, lr);
                      merges_fit = o.merges_fit;
                      savings_fit = o.savings_fit;
                    },
                  )

              out : (r : TrainError) → GrownOut r w c u p size least limit cs vs zs ms ss ls ks ns ts
                  → TableDone (Err r) t was (rooms_of after ls ks ns ts)
              out (why.VocabTooSmall i j) h =
                  (rw (h.0, h.1, number) (vocab_low t was ends_fit bytes_fit (omega (arith, number, h.2))), refl)
              out why.OutputRoom h =
                  (output_exceeds t was ends_fit bytes_fit (omega (arith, number, h.0)) (more (rw merges_are at (h.1 t settings))), refl)
                where
                  more : TooMuch (trained t) (pieces vs zs c) vs zs ms ss
                      → Exceed (all_pieces t) xs ys ⊎ ((length ms < length (merge_bytes (trained t))) ⊎ (length ss < length (saving_bytes (trained t))))
                  more (inl i) = inl (exceed_lengths (all_pieces t) xs ys vs zs sown.bytes.long sown.ends.long (rw all_are at i))
                  more (inr i) = inr i
              out why.BadShape h = absurd h
              out why.TooMany h = absurd h
              out why.EmptyCorpus h = absurd h
              out (why.ZeroFrequency i) h = absurd h
              out (why.OutOfOrder i) h = absurd h
              out why.TooHeavy h = absurd h
              out (why.WorkRoom i) h = absurd h
              out why.SeedRoom h = absurd h

              go : (r : Result Trained TrainError) → GrownDone r w c u p size least limit cs vs zs ms ss ls ks ns ts
                  → TableDone r t was (rooms_of after ls ks ns ts)
              go (Ok x) h = subst (λ (i : ℕ). TableDone (Ok (record { pieces = x.pieces; alphabet = i; merges = x.merges })) t was (rooms_of after ls ks ns ts))
                  (sym h.1) (done x.pieces h.2.0 x.merges h.0 (h.2.1 t settings))
              go (Err r) h = out r h
