-- Seeding, stage by stage. Assumes nothing.
use mathlib.Core.Path.{◌≡◌, sym, ap, ◌∙◌}
use mathlib.Core.Bool.{true, false, false≢true}
use mathlib.Core.List.{List, [], ◌++◌, append-nil, flat_map, foldl}
use Prim.Native.Nat.{ℕ, ◌+◌, ◌*◌, ◌^◌, ◌<◌, ◌≤◌}
use native.Mathlib.Omega.{arith}
use lib.ListN.{length}
use Rattle.runs.specs.Parts.{zeros, Bytes}
use Rattle.cells.specs.Cells.{cells, Laid}
use Rattle.cells.proofs.Cells.{cells_small}
use Rattle.rule.specs.Shapes.{parts_by}
use Rattle.rule.specs.Table.{chars, units_of, word_units}
use Rattle.text.specs.Units.{setting_of, by_chars}
use Rattle.text.specs.declared.Seeding.TheVariants.{Bytes as ByBytes, Chars as ByChars}
use Rattle.rule.specs.Seeding.{intern, byte_values, distinct, first_seeds}
use Rattle.rule.proofs.Spelling.{length-byte_values}
use Rattle.rule.proofs.Order.{rising_apart, distinct_rises, distinct_in}
use Rattle.rule.proofs.Names.{apart_within, units_apart}
use Rattle.index.proofs.Clients.{index-cleared}
use Rattle.intern.specs.Pieces.{pieces}
use Rattle.intern.specs.Many.{Ran}
use Rattle.intern.proofs.Rooms.{pieces_none}
use Rattle.intern.proofs.Lists.{values_all, interns_append, interns_grow}
use Rattle.intern.proofs.Many.{ran_start, ran_then, ran_exceeds, exceed-more}
use Rattle.alphabet.specs.Seeds as alphabet
use Rattle.error.specs.declared.NoRoom.{NoRoom}
use Rattle.vocab.specs.declared.Filled.{Filled}
use Rattle.std.specs.Prelude.{Result, Ok, Err, IsErr}
use Rattle.units.specs.Gathering.{all_units, CanStart, Gathered}
use Rattle.units.specs.Draining.{CanDrain, Drained, Emptied}
use Rattle.units.proofs.Gathering.{first-distinct}
use Rattle.word.specs.Layout.{Numbers}
use Rattle.word.specs.declared.WordSet.{WordSet}
use Rattle.word.proofs.Sets.{words_empty}
use Rattle.encoding.specs.Encoding.{all_decorated, decorated_units, Fits, WordsDone}
use Rattle.encoding.specs.declared.Encoded.{Encoded}
use Rattle.encoding.proofs.Words.{decorated-total}
use Rattle.layout.specs.Layout.{words_at, units_at, table_at, slots_for}
use Rattle.layout.proofs.Fits.{slots_bounds}
use Rattle.seeding.specs.Seeding.{table, Counting, Counted, CanBegin, FirstDone, CanGoOn, RestDone}

-- THE SEEDS THAT COME FIRST, where `heap` and `at` are the places and `slots` the slots that the layout says

module _ (seeding units : ℕ) (ws es rs : List ℕ) (c : Counting seeding units ws es rs) (at slots : ℕ) (ea : at ≡ table_at units) (el : slots ≡ slots_for units) where
  pub gather_slots : 2 * slots < 2 ^ 64
  gather_slots = let s = slots_bounds units 0 (omega arith) (omega arith) in omega arith

  pub gather_room : at + 2 * slots ≤ length (cells rs)
  gather_room = let s = slots_bounds units 0 (omega arith) (omega arith) in omega (arith, c.room)

  module _ (b : Bytes ws) where
    -- as many as the units, and as the characters that there are
    few : length (distinct (all_units seeding ws es)) ≤ units
    few =
        let k = apart_within (distinct (all_units seeding ws es)) (all_units seeding ws es) (rising_apart (distinct (all_units seeding ws es)) (distinct_rises (all_units seeding ws es)))
        (distinct_in (all_units seeding ws es)) in
        omega (arith, c.units_are)

    low : length (distinct (all_units seeding ws es)) ≤ 1114368
    unfolding all_units word_units table
    low =
        units_apart (table ws es [] [] [] [] [] seeding) b (distinct (all_units seeding ws es))
        (rising_apart (distinct (all_units seeding ws es)) (distinct_rises (all_units seeding ws es))) (distinct_in (all_units seeding ws es))

    pub gather_can : length rs < 2 ^ 64 → (heap : ℕ) → heap ≡ units_at units → (qs : List ℕ) → Laid rs qs at (zeros (2 * slots * 8)) (zeros (2 * slots))
        → CanStart heap at slots (all_units seeding ws es) (cells qs)
    gather_can small heap eh qs l =
        let s = slots_bounds units (length (distinct (all_units seeding ws es))) few low in
        record {
          empty = index-cleared at slots (cells rs) (cells qs) gather_room (cells_small rs small) (omega arith) (omega arith) l.is;
          low = omega (arith, few);
          few = omega arith;
        }

pub counted_chars : (seeding units : ℕ) (ws es ps qs : List ℕ) (n heap at slots : ℕ) → chars seeding ≡ true → heap ≡ units_at units → Gathered heap at slots (all_units seeding ws es) n ps qs
    → Counted seeding units ws es qs n
counted_chars seeding units ws es ps qs n heap at slots e eh g =
    record {
      count = g.count ∙ ap length (sym (first-distinct seeding ws es e));
      heaped = λ h. rw eh at g.heaped;
    }

-- as a setting's seeding is told
pub is_chars : (seeding : ℕ) → by_chars ByChars ≡ chars seeding → chars seeding ≡ true
unfolding by_chars setting_of
is_chars seeding e = sym e

pub is_bytes : (seeding : ℕ) → by_chars ByBytes ≡ chars seeding → chars seeding ≡ false
unfolding by_chars setting_of
is_bytes seeding e = sym e

first_bytes : (seeding : ℕ) (us : List (List (List ℕ))) → chars seeding ≡ false → first_seeds seeding us ≡ byte_values 256 0
unfolding first_seeds
first_bytes seeding us h = rw h

pub counted_bytes : (seeding units : ℕ) (ws es cs : List ℕ) → chars seeding ≡ false → Counted seeding units ws es cs 256
counted_bytes seeding units ws es cs h =
    record {
      count = sym (ap length (first_bytes seeding (units_of seeding ws es) h) ∙ length-byte_values 256 0);
      heaped = λ e. absurd (false≢true (sym h ∙ e));
    }

module _ (seeding units base cap n : ℕ) (ws es cs xs ys : List ℕ) (c : CanBegin seeding units base cap n ws es cs xs ys) where
  pub drain_can : chars seeding ≡ true → (heap : ℕ) → heap ≡ units_at units → CanDrain heap n base cap cs xs ys
  drain_can e heap eh = record {
    us = all_units seeding ws es;
    heaped = rw eh (c.counted.heaped e);
    ok = c.ok;
    slots = c.slots;
    below = omega (arith, c.below e);
  }

  pub bytes_can : chars seeding ≡ false → alphabet.CanSeed base cap 0 0 (byte_values 256 0) cs xs ys
  bytes_can h = record {
    ok = c.ok;
    slots =
        let e = c.counted.count in
        let f = ap length (first_bytes seeding (units_of seeding ws es) h) ∙ length-byte_values 256 0 in
        let g = ap length (ap (λ (ps : List (List ℕ)). foldl intern ps (byte_values 256 0)) (pieces_none xs ys) ∙ values_all 256) ∙ length-byte_values 256 0 in
        omega (arith, c.slots);
  }

-- what either leaves
module _ (seeding units base cap n : ℕ) (ws es rs xs ys qs vs zs : List ℕ) (a : Result Filled NoRoom) where
  pub first_drained : CanBegin seeding units base cap n ws es (cells rs) xs ys → chars seeding ≡ true → (heap : ℕ) → heap ≡ units_at units → Emptied a heap n base cap rs xs ys qs vs zs
      → FirstDone a base cap (first_seeds seeding (units_of seeding ws es)) xs ys (cells qs) vs zs
  unfolding FirstDone Drained
  first_drained c e heap eh d = go a (d.says (all_units seeding ws es) (rw eh (c.counted.heaped e)))
    where
      go : (r : Result Filled NoRoom) → Drained r heap base cap (all_units seeding ws es) rs xs ys qs vs zs → FirstDone r base cap (first_seeds seeding (units_of seeding ws es)) xs ys (cells qs) vs zs
      go (Ok f) h = rw (first-distinct seeding ws es e) h.0
      go (Err x) h = rw (first-distinct seeding ws es e) h

  pub first_valued : chars seeding ≡ false → alphabet.Seeds a base cap 0 0 (byte_values 256 0) rs xs ys qs vs zs
      → FirstDone a base cap (first_seeds seeding (units_of seeding ws es)) xs ys (cells qs) vs zs
  unfolding FirstDone alphabet.Seeds
  first_valued h d = go a d
    where
      go : (r : Result Filled NoRoom) → alphabet.Seeds r base cap 0 0 (byte_values 256 0) rs xs ys qs vs zs → FirstDone r base cap (first_seeds seeding (units_of seeding ws es)) xs ys (cells qs) vs zs
      go (Ok f) i = rw (first_bytes seeding (units_of seeding ws es) h) i.0
      go (Err x) i = rw (first_bytes seeding (units_of seeding ws es) h) i

-- THE INITIAL ALPHABET AND THE WORDS

module _ (base cap c u units seeding : ℕ) (wb we fs al ae p s rs xs ys : List ℕ) (g : CanGoOn base cap c u units seeding wb we fs al ae p s rs xs ys) where
  begin : Ran base cap c u (foldl intern (pieces xs ys c) (parts_by al ae ++ decorated_units seeding p s wb we)) (parts_by al ae ++ decorated_units seeding p s wb we) xs ys (cells rs) xs ys c u
  begin = ran_start base cap c u xs ys (parts_by al ae ++ decorated_units seeding p s wb we) (cells rs) g.ok

  pub alphabet_can : alphabet.CanSeed base cap c u (parts_by al ae) (cells rs) xs ys
  alphabet_can = record {
    ok = g.ok;
    slots =
        let e = ap length (interns_append (pieces xs ys c) (parts_by al ae) (decorated_units seeding p s wb we)) in
        omega (arith, g.slots, (interns_grow (foldl intern (pieces xs ys c) (parts_by al ae)) (decorated_units seeding p s wb we)).0);
  }

  module _ (qs vs zs : List ℕ) where
    pub alphabet-out : (x : NoRoom) → alphabet.Seeds (Err x) base cap c u (parts_by al ae) rs xs ys qs vs zs → (cs ls ms : List ℕ) (r : Result Encoded NoRoom) → IsErr r
        → RestDone r base cap c u units (parts_by al ae) (all_decorated seeding p s wb we) fs xs ys cs ls ms
    unfolding alphabet.Seeds RestDone decorated_units
    alphabet-out x d cs ls ms (Ok r) w = absurd cc
    alphabet-out x d cs ls ms (Err y) w =
        rw (← interns_append (pieces xs ys c) (parts_by al ae) (flat_map (λ d. d) (all_decorated seeding p s wb we))) at
        (exceed-more (foldl intern (pieces xs ys c) (parts_by al ae)) (flat_map (λ d. d) (all_decorated seeding p s wb we)) xs ys d)

    module _ (f₁ : Filled) (d : alphabet.Seeds (Ok f₁) base cap c u (parts_by al ae) rs xs ys qs vs zs) where
      -- the alphabet is interned, and the words' units are to come
      onward : Ran base cap c u (foldl intern (pieces xs ys c) (parts_by al ae ++ decorated_units seeding p s wb we)) (decorated_units seeding p s wb we) xs ys (cells qs) vs zs f₁.count f₁.used
      unfolding alphabet.Seeds
      onward = ran_then base cap c u xs ys _ (parts_by al ae) (decorated_units seeding p s wb we) (cells rs) xs ys c u begin (cells qs) vs zs f₁.count f₁.used d.0

      pub words_can : alphabet.CanSeed base cap f₁.count f₁.used (decorated_units seeding p s wb we) (cells qs) vs zs
      words_can = record { ok = onward.ok; slots = rw onward.are g.slots }

      pub words_fit : (w : WordSet) (low : ℕ) → low ≡ words_at units → Numbers w 0 0 low low 0 → Fits w base seeding wb we (cells qs)
      words_fit w low e n =
          let k = onward.ok.known in
          let z = g.place in
          record {
            set = words_empty w 0 low (cells qs) n (omega arith) (omega (arith, k.room)) k.small;
            none = n.count_is;
            words = omega (arith, n.top_is, g.units_are);
            places = omega (arith, n.starts_is, n.low_is, g.units_are);
          }

      pub rest_done : (w : WordSet) (low : ℕ) → low ≡ words_at units → Numbers w 0 0 low low 0 → (b : Result Encoded NoRoom) (ks ls ms : List ℕ) → WordsDone b w base cap f₁.count f₁.used fs (all_decorated seeding p s wb we) qs vs zs ks ls ms
          → RestDone b base cap c u units (parts_by al ae) (all_decorated seeding p s wb we) fs xs ys (cells ks) ls ms
      unfolding WordsDone RestDone decorated_units
      rest_done w low e n b ks ls ms h = go b h
        where
          same : foldl intern (pieces vs zs f₁.count) (flat_map (λ d. d) (all_decorated seeding p s wb we))
              ≡ foldl intern (pieces xs ys c) (parts_by al ae ++ flat_map (λ d. d) (all_decorated seeding p s wb we))
          same = onward.are

          upto : (todo : List (List ℕ)) → flat_map (λ d. d) (all_decorated seeding p s wb we) ≡ todo
              → Ran base cap c u (foldl intern (pieces xs ys c) (parts_by al ae ++ flat_map (λ d. d) (all_decorated seeding p s wb we))) todo xs ys (cells qs) vs zs f₁.count f₁.used
          upto todo e = rw (← e) onward

          ahead : Ran base cap c u (foldl intern (pieces xs ys c) (parts_by al ae ++ flat_map (λ d. d) (all_decorated seeding p s wb we)))
              (flat_map (λ d. d) (all_decorated seeding p s wb we) ++ []) xs ys (cells qs) vs zs f₁.count f₁.used
          ahead = upto (flat_map (λ d. d) (all_decorated seeding p s wb we) ++ []) (sym (append-nil (flat_map (λ d. d) (all_decorated seeding p s wb we))))

          go : (r : Result Encoded NoRoom) → WordsDone r w base cap f₁.count f₁.used fs (all_decorated seeding p s wb we) qs vs zs ks ls ms
              → RestDone r base cap c u units (parts_by al ae) (all_decorated seeding p s wb we) fs xs ys (cells ks) ls ms
          go (Ok r) i = (
            ran_then base cap c u xs ys _ (flat_map (λ d. d) (all_decorated seeding p s wb we)) [] (cells qs) vs zs f₁.count f₁.used ahead (cells ks) ls ms r.filled.count r.filled.used i.0,
            i.1,
            rw same at i.2,
            omega (arith, i.5, n.top_is, decorated-total seeding p s wb we, g.units_are),
          )
          go (Err x) i = ran_exceeds base cap c u xs ys _ (flat_map (λ d. d) (all_decorated seeding p s wb we)) [] (cells qs) vs zs f₁.count f₁.used ahead i
