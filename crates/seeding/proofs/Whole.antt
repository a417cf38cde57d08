-- Seeding as a whole: the stages one behind the other are the rule's seeding. Assumes nothing.
use mathlib.Core.Path.{◌≡◌, refl, sym, ap, ◌∙◌}
use mathlib.Core.Bool.{true}
use mathlib.Core.List.{List, [], ◌++◌, map, flat_map, foldl}
use mathlib.Core.Logic.{inl, inr}
use Prim.Native.Nat.{ℕ, ◌+◌, ◌*◌, ◌/◌, ◌^◌, ◌<◌, ◌≤◌}
use native.Mathlib.Omega.{arith}
use lib.ListN.{length}
use Rattle.runs.specs.Parts.{nth, zeros, Bytes, Kept}
use Rattle.runs.proofs.Parts.{length-zeros, nth-laid, nth-zeros}
use Rattle.runs.proofs.Frames.{kept_then, kept_wide, kept-laid}
use Rattle.numbers.specs.Little.{numbers}
use Rattle.cells.specs.Cells.{cells, Laid}
use Rattle.cells.proofs.Cells.{length-cells, cells_small}
use Rattle.rule.specs.Shapes.{parts_by}
use Rattle.rule.specs.Table.{A, U, alphabet, frequencies, chars, units_of, word_units, total, room_for}
use Rattle.rule.specs.Seeding.{decorated, intern, first_seeds, seeds, kept_with, kept}
use Rattle.rule.specs.Layout.{piece_bytes}
use Rattle.rule.proofs.Few.{first_apart, first_few, first-units, first-chars, seeds_forms, seeds_small, alphabet-count, interns_fresh}
use Rattle.rule.proofs.Lengths.{length_flat}
use Rattle.intern.specs.Pieces.{pieces}
use Rattle.intern.specs.Many.{Ran, Exceed}
use Rattle.intern.proofs.Rooms.{pieces_none}
use Rattle.intern.proofs.Many.{pieces_empty, exceed-more, exceed_lengths}
use Rattle.error.specs.declared.NoRoom.{NoRoom}
use Rattle.vocab.specs.declared.Filled.{Filled}
use Rattle.std.specs.Prelude.{Result, Ok, Err, IsErr}
use Rattle.units.specs.Gathering.{all_units}
use Rattle.units.proofs.Popping.{heaped_kept}
use Rattle.encoding.specs.Encoding.{all_decorated, decorated_units}
use Rattle.encoding.specs.declared.Encoded.{Encoded}
use Rattle.layout.specs.Layout.{units_at, table_at, spellings_for, cells_for}
use Rattle.seeding.specs.Seeding.{table, Counting, Counted, CanBegin, FirstDone, CanGoOn, RestDone, CanSeed, SeedDone}

module _ (ws es fs al ae p s : List ℕ) (seeding units : ℕ) (rs : List ℕ) (g : CanSeed (table ws es fs al ae p s seeding) units rs) where
  -- the task's fields, as the stages have them
  units_total : units ≡ total (map length (units_of seeding ws es))
  unfolding table U word_units
  units_total = g.units_are

  symbols : length ae / 4 ≡ A (table ws es fs al ae p s seeding)
  unfolding table A
  symbols = refl

  pub symbols_few : length ae / 4 ≤ 65536
  symbols_few = omega (arith, symbols, g.symbols_few)

  cells_enough : cells_for units (length ae / 4) ≤ length (cells rs)
  unfolding room_for
  cells_enough = omega (arith, symbols, g.room, length-cells rs)

  pub whole_few : units ≤ 268435456
  whole_few = g.units_few

  pub whole_counting : Counting seeding units ws es rs
  unfolding all_units table
  whole_counting = record {
    words-shaped = g.words-shaped;
    units_few = g.units_few;
    units_are = units_total ∙ sym (length_flat (units_of seeding ws es));
    room = omega (arith, cells_enough);
  }

  module _ (b : Bytes ws) (qs : List ℕ) (long : length qs ≡ length rs) (first : ℕ) (n : Counted seeding units ws es (cells qs) first) where
    -- the seeds that come first are the task's
    first_is : first ≡ length (first_seeds seeding (word_units (table ws es fs al ae p s seeding)))
    unfolding word_units table
    first_is = n.count

    pub first_low : first ≤ 1114368
    unfolding table
    first_low = omega (arith, first_is, first_few (table ws es fs al ae p s seeding) b)

    first_most : first ≤ 256 + units
    unfolding table
    first_most = omega (arith, first_is, first-units (table ws es fs al ae p s seeding), g.units_are)

    cells_long : length (cells qs) ≡ length (cells rs)
    cells_long = length-cells qs ∙ ap (λ (k : ℕ). k / 8) long ∙ sym (length-cells rs)

    module _ (base cap : ℕ) (eb : base ≡ table_at units) (ec : cap ≡ spellings_for first (length ae / 4)) where
      pub whole_room : base + cap ≤ length (cells qs)
      whole_room = omega (arith, first_most, cells_enough, cells_long)

      module _ (os : List ℕ) (l : Laid qs os base (zeros (cap * 8)) (zeros cap)) (xs ys : List ℕ) where
        cleared : (j : ℕ) → j < cap → nth (cells os) (base + j) ≡ 0
        cleared j h =
            rw l.is (nth-laid (cells qs) base (zeros cap) (omega (arith, whole_room, length-zeros cap)) j (omega (arith, length-zeros cap)) ∙ nth-zeros cap j)

        kept_cleared : Kept base (base + cap) (cells qs) (cells os)
        kept_cleared = rw l.is (rw (length-zeros cap) at (kept-laid (cells qs) base (zeros cap) (omega (arith, whole_room, length-zeros cap))))

        pub whole_begin : length rs < 2 ^ 64 → CanBegin seeding units base cap first ws es (cells os) xs ys
        unfolding table
        whole_begin small =
            let low : (e : chars seeding ≡ true) → units_at units + 2 * first ≤ base = λ e. omega (arith, first_is, first-chars (table ws es fs al ae p s seeding) e, g.units_are) in
            record {
              units_few = g.units_few;
              counted = record { count = n.count; heaped = λ e. heaped_kept (units_at units) first base (base + cap) (all_units seeding ws es) (cells qs) (cells os) (n.heaped e) kept_cleared (inl (low e)) };
              ok = pieces_empty base cap (cells os) xs ys (omega (arith, whole_room, l.long)) (omega (arith, cells_small rs small, cells_long, l.long)) (omega arith)
                  (omega (arith, first_low, symbols_few)) cleared;
              slots = omega arith;
              below = low;
            }

    module _ (xs ys : List ℕ) where
      -- the seeds in the order of the stages
      firsts : foldl intern (pieces xs ys 0) (first_seeds seeding (units_of seeding ws es)) ≡ first_seeds seeding (units_of seeding ws es)
      unfolding word_units table
      firsts =
          ap (λ (ps : List (List ℕ)). foldl intern ps (first_seeds seeding (units_of seeding ws es))) (pieces_none xs ys)
          ∙ interns_fresh (first_seeds seeding (units_of seeding ws es)) [] (first_apart (table ws es fs al ae p s seeding))

      pub seeds_are : seeds (table ws es fs al ae p s seeding)
          ≡ foldl intern (foldl intern (pieces xs ys 0) (first_seeds seeding (units_of seeding ws es))) (parts_by al ae ++ flat_map (λ d. d) (all_decorated seeding p s ws es))
      unfolding table seeds decorated alphabet word_units all_decorated
      seeds_are = ap (λ (ps : List (List ℕ)). foldl intern ps (parts_by al ae ++ flat_map (λ d. d) (all_decorated seeding p s ws es))) (sym firsts)

      few_seeds : length (seeds (table ws es fs al ae p s seeding)) ≤ 4 * first + length ae / 4
      unfolding table
      few_seeds = omega (arith, first_is, seeds_forms (table ws es fs al ae p s seeding) b, alphabet-count (table ws es fs al ae p s seeding), symbols)

      short_seeds : length (piece_bytes (seeds (table ws es fs al ae p s seeding))) ≤ 4294967295
      unfolding table
      short_seeds = seeds_small (table ws es fs al ae p s seeding) b g.prefix_short g.suffix_short g.symbol_bytes_few g.symbols_shaped

      -- what exceeds the rooms is not the 4 bytes of an end
      exceeded : (cs vs zs : List ℕ) (r : Result Encoded NoRoom) → IsErr r → Exceed (seeds (table ws es fs al ae p s seeding)) xs ys
          → SeedDone r (table ws es fs al ae p s seeding) units xs ys cs vs zs
      unfolding Exceed SeedDone
      exceeded cs vs zs (Ok r) w h = absurd cc
      exceeded cs vs zs (Err y) w (inl h) = inl h
      exceeded cs vs zs (Err y) w (inr (inl h)) = inr h
      exceeded cs vs zs (Err y) w (inr (inr h)) = absurd (omega (arith, short_seeds))

      module _ (base cap : ℕ) (eb : base ≡ table_at units) (ec : cap ≡ spellings_for first (length ae / 4)) (ks vs zs : List ℕ) where
        pub whole_out : (x : NoRoom) → FirstDone (Err x) base cap (first_seeds seeding (units_of seeding ws es)) xs ys (cells ks) vs zs
            → (cs ls ms : List ℕ) (r : Result Encoded NoRoom) → IsErr r → SeedDone r (table ws es fs al ae p s seeding) units xs ys cs ls ms
        unfolding FirstDone
        whole_out x d cs ls ms r w =
            exceeded cs ls ms r w (rw seeds_are (exceed-more (foldl intern (pieces xs ys 0) (first_seeds seeding (units_of seeding ws es))) (parts_by al ae ++ flat_map (λ d. d) (all_decorated seeding p s ws es)) xs ys d))

        module _ (f : Filled) (d : FirstDone (Ok f) base cap (first_seeds seeding (units_of seeding ws es)) xs ys (cells ks) vs zs) where
          ran : Ran base cap 0 0 (foldl intern (pieces xs ys 0) (first_seeds seeding (units_of seeding ws es))) [] xs ys (cells ks) vs zs f.count f.used
          unfolding FirstDone
          ran = d

          all : foldl intern (pieces vs zs f.count) (parts_by al ae ++ flat_map (λ d. d) (all_decorated seeding p s ws es)) ≡ seeds (table ws es fs al ae p s seeding)
          all = ap (λ (ps : List (List ℕ)). foldl intern ps (parts_by al ae ++ flat_map (λ d. d) (all_decorated seeding p s ws es))) ran.are ∙ sym seeds_are

          pub whole_on : CanGoOn base cap f.count f.used units seeding ws es fs al ae p s ks vs zs
          unfolding table decorated_units
          whole_on = record {
            ok = ran.ok;
            slots = rw all (omega (arith, few_seeds));
            words-shaped = g.words-shaped;
            symbols_shaped = g.symbols_shaped;
            counts = g.counts;
            units_few = g.units_few;
            units_are = units_total;
            place = eb;
          }

          pub whole_done : (e : Result Encoded NoRoom) (cs ls ms : List ℕ) → RestDone e base cap f.count f.used units (parts_by al ae) (all_decorated seeding p s ws es) fs vs zs cs ls ms
              → SeedDone e (table ws es fs al ae p s seeding) units xs ys cs ls ms
          unfolding RestDone SeedDone table kept decorated frequencies word_units all_decorated
          whole_done e cs ls ms h = go e h
            where
              go : (r : Result Encoded NoRoom) → RestDone r base cap f.count f.used units (parts_by al ae) (all_decorated seeding p s ws es) fs vs zs cs ls ms → SeedDone r (table ws es fs al ae p s seeding) units xs ys cs ls ms
              go (Ok q) i =
                  let r = i.0 in
                  record {
                    held = r.ok.rooms;
                    are = r.are ∙ all;
                    bytes = kept_then (kept_wide {lo = 0} {hi = f.used} 0 q.filled.used (omega arith) r.grows ran.bytes)
                        (kept_wide {lo = f.used} {hi = q.filled.used} 0 q.filled.used (omega arith) (omega arith) r.bytes);
                    ends = kept_then (kept_wide {lo = 0 * 4} {hi = f.count * 4} 0 (q.filled.count * 4) (omega arith) (omega (arith, r.least)) ran.ends)
                        (kept_wide {lo = f.count * 4} {hi = q.filled.count * 4} 0 (q.filled.count * 4) (omega arith) (omega arith) r.ends);
                    words = i.1;
                    view = i.2 ∙ ap (λ (ps : List (List ℕ)). kept_with ps (numbers 8 fs) (all_decorated seeding p s ws es)) all;
                    top = i.3;
                  }
              go (Err x) i = exceeded cs ls ms (Err x) refl (rw all at (exceed_lengths _ xs ys vs zs ran.bytes.long ran.ends.long i))
