-- One word is counted, position by position. Assumes nothing.
use mathlib.Core.Path.{◌≡◌, refl, ap, ◌∙◌}
use mathlib.Core.List.{List, [], ◌∷◌, ◌++◌}
use mathlib.Core.Logic.{inl}
use Prim.Native.Nat.{ℕ, ◌+◌, ◌-◌, ◌*◌, ◌^◌, ◌<◌, ◌≤◌}
use native.Mathlib.Omega.{arith}
use lib.ListN.{length}
use Rattle.runs.specs.Parts.{nth}
use Rattle.runs.proofs.Parts.{same_or_not}
use Rattle.runs.proofs.Frames.{kept_none, kept_then}
use Rattle.rule.specs.Rewriting.{more}
use Rattle.rule.proofs.Counts.{under_nth}
use Rattle.word.specs.Layout.{symbol_in, symbols_at, Found, words_in}
use Rattle.word.specs.declared.WordSet.{WordSet}
use Rattle.word.specs.declared.Span.{Span}
use Rattle.word.proofs.Views.{symbols_length, nth_symbols, symbols_cons, corpus-length, under_at}
use Rattle.word.proofs.Sets.{word_high, word_symbols, word_inside}
use Rattle.states.specs.State.{State, most, key, raise, Change}
use Rattle.states.specs.Tracking.{mores}
use Rattle.states.proofs.Keys.{key_pos}
use Rattle.states.proofs.Reports.{reported_none, reported_then, reported_raise}
use Rattle.pairs.specs.View.{state}
use Rattle.pairs.specs.declared.Pairs.{Pairs}
use Rattle.reports.specs.Reports.{beyond, CanRaise, RaiseDone}
use Rattle.census.specs.Census.{word_of, CanCountWord, WordCounted, Raising}

-- THE REPORTS OF A WORD, from its front

mores_two : (i n : ℕ) (cs : List ℕ) → 1 < n → i + n ≤ length cs
    → mores (symbols_at i n cs) ≡ (more (symbol_in (nth cs i)) (symbol_in (nth cs (i + 1))) ∷ []) ++ mores (symbols_at (i + 1) (n - 1) cs)
unfolding mores
mores_two i n cs h l =
    let e : n ≡ n - 2 + 1 + 1 = omega arith in
    let f : n - 1 ≡ n - 2 + 1 = omega arith in
    ap (λ (m : ℕ). mores (symbols_at i m cs)) e
    ∙ rw (f, symbols_cons i (n - 2 + 1) cs (omega arith), symbols_cons (i + 1) (n - 2) cs (omega arith))

mores-short : (l : List ℕ) → length l ≤ 1 → mores l ≡ []
unfolding mores
mores-short [] h = refl
mores-short (s ∷ []) h = refl
mores-short (s ∷ t ∷ l) h = absurd (omega arith)

-- a raise adds to no other count, and to one no more than f
raise-most : (p : Pairs) (c f k : ℕ) (ds es : List ℕ) → Change c (raise f k (state p ds c)) (state p ds) (state p es) → (d : ℕ) → 0 < d
    → (state p es d).count ≤ (state p ds d).count + f
unfolding raise
raise-most p c f k ds es h d z =
    same_or_not d c
    (λ e. rw e (let x = ap (λ (s : State). s.count) h.here in omega arith))
    (λ n. let x = ap (λ (s : State). s.count) (h.others d z n) in omega arith)

-- THE START
module _ (w : WordSet) (p : Pairs) (k n : ℕ) (cs : List ℕ) (can : CanCountWord w p k n cs) (r : Span) (found : Found w k cs r) (f : ℕ) (ef : f ≡ (word_of w k cs).frequency) where
  raise_start : Raising p k n f r.start r.length cs cs r.start r.length n
  raise_start =
      record {
        ok = can.ok;
        inside = omega (arith, found.place, found.long, long, word_high w cs can.words k can.low, can.apart);
        small = λ j h. rw (← nth_symbols r.start r.length cs j h, found.symbols)
            (under_nth most (word_of w k cs).symbols j (under_at most (words_in w cs) k can.below known) (omega (arith, found.long)));
        completes = λ τ h. h;
        light = λ a b ha hb. rw (ef, found.long) (can.light a b ha hb);
        listing = λ l. l;
        room = can.room;
        space = omega (arith, found.long, can.space);
        few = omega (arith, found.long, can.few);
        made_most = omega arith;
        most_listed = omega arith;
        kept = kept_none p.base (beyond p) cs;
      }
    where
      known : k < length (words_in w cs)
      known = omega (arith, corpus-length cs w.starts w.count, can.low)

      long : length (word_of w k cs).symbols ≡ nth cs (nth cs (w.starts + k) + 1)
      long =
          ap (λ (l : List ℕ). length l) (word_symbols w cs can.words k can.low)
          ∙ symbols_length (nth cs (w.starts + k) + 2) (nth cs (nth cs (w.starts + k) + 1)) cs (word_inside w cs can.words k can.low)

  pub symbol_start : Raising p k n f r.start r.length cs cs (r.start + 1 - 1) (r.length + 1 - 1) n
  symbol_start =
      let x : r.start + 1 - 1 ≡ r.start = omega arith in
      let y : r.length + 1 - 1 ≡ r.length = omega arith in
      rw (x, y) raise_start

  -- THE END, where no two symbols are left
  raise_end : (ds : List ℕ) (i left m : ℕ) → Raising p k n f r.start r.length cs ds i left m → left ≤ 1 → WordCounted w p k n cs ds m
  raise_end ds i left m inv h =
      record {
        ok = inv.ok;
        reported = rw (ef, found.symbols) at (inv.completes (state p ds) (rw none (reported_none f k (state p ds) (state p ds) (λ c z. refl))));
        listing = inv.listing;
        made_most = omega (arith, inv.made_most, found.long);
        most_listed = omega (arith, inv.most_listed, found.long);
        kept = inv.kept;
      }
    where
      none : mores (symbols_at i left cs) ≡ []
      none = mores-short (symbols_at i left cs) (omega (arith, symbols_length i left cs (omega (arith, inv.inside, inv.room, inv.kept.long))))

  pub symbol_end : (ds : List ℕ) (i m : ℕ) → Raising p k n f r.start r.length cs ds (r.start + i - 1) (r.length + 1 - i) m → r.length ≤ i → WordCounted w p k n cs ds m
  symbol_end ds i m inv h = raise_end ds (r.start + i - 1) (r.length + 1 - i) m inv (omega arith)

-- A TURN
module _ (p : Pairs) (k n f start all : ℕ) (cs ds : List ℕ) (i left m : ℕ) (inv : Raising p k n f start all cs ds i left m) where
  pub raise_inside : (i + left ≤ length ds) × (length ds < 2 ^ 61)
  raise_inside = (omega (arith, inv.inside, inv.room), inv.ok.ar.small)

  module _ (h : 1 < left) (s t : ℕ) (es : s ≡ symbol_in (nth ds i)) (et : t ≡ symbol_in (nth ds (i + 1))) where
    first : s ≡ symbol_in (nth cs i)
    first = es ∙ ap symbol_in (inv.kept.same i (inl (omega (arith, inv.inside))))

    second : t ≡ symbol_in (nth cs (i + 1))
    second = et ∙ ap symbol_in (inv.kept.same (i + 1) (inl (omega (arith, inv.inside))))

    first_small : s < most
    first_small = let z : i + 0 ≡ i = omega arith in rw first (rw z at (inv.small 0 (omega arith)))

    second_small : t < most
    second_small = rw second (inv.small 1 h)

    split : f * left ≡ f * (left - 1) + f
    split = let e : left ≡ left - 1 + 1 = omega arith in ap (λ (x : ℕ). f * x) e ∙ omega arith

    pub raise_can : CanRaise p m s t f ds
    raise_can =
        record {
          ok = inv.ok;
          left = first_small;
          right = second_small;
          space = omega (arith, inv.space);
          room = inv.room;
          few = omega (arith, inv.few);
          fits = omega (arith, inv.light s t first_small second_small, split);
        }

    pub raise-turn : (gs : List ℕ) (m' : ℕ) → RaiseDone p m s t f k ds gs m' → Raising p k n f start all cs gs (i + 1) (left - 1) m'
    raise-turn gs m' r =
        record {
          ok = r.ok;
          inside = omega (arith, inv.inside);
          small = λ j l. let e : i + 1 + j ≡ i + (j + 1) = omega arith in rw e (inv.small (j + 1) (omega arith));
          completes = λ τ g. inv.completes τ (rw reports
              (reported_then f k (more s t ∷ []) (mores (symbols_at (i + 1) (left - 1) cs)) (reported_raise f k s t first_small second_small r.change) g));
          light = λ a b ha hb. omega (arith, inv.light a b ha hb, split, raise-most p (key s t) f k ds gs r.change (key a b) (key_pos a b));
          listing = λ l. r.listing 0 (λ z. let q = key_pos s t in omega arith) (inv.listing l);
          room = omega (arith, inv.room, r.kept.long);
          space = omega (arith, inv.space, r.more);
          few = omega (arith, inv.few, r.most);
          made_most = omega (arith, inv.made_most, r.more);
          most_listed = omega (arith, inv.most_listed, r.most);
          kept = kept_then inv.kept r.kept;
        }
      where
        reports : mores (symbols_at i left cs) ≡ (more s t ∷ []) ++ mores (symbols_at (i + 1) (left - 1) cs)
        reports = rw (first, second) (mores_two i left cs h (omega (arith, inv.inside, inv.room, inv.kept.long)))

-- A TURN at the i-th of the symbols from the cell `start` on, which is reported with the one before it
module _ (p : Pairs) (k n f start all : ℕ) (cs ds : List ℕ) (i m : ℕ) (inv : Raising p k n f start all cs ds (start + i - 1) (all + 1 - i) m) where
  pub symbol_inside : 1 ≤ i → i < all → (start + i < length ds) × (length ds < 2 ^ 61)
  symbol_inside low h = let z = raise_inside p k n f start all cs ds (start + i - 1) (all + 1 - i) m inv in (omega arith, z.1)

  module _ (low : 1 ≤ i) (h : i < all) (s t : ℕ) (es : s ≡ symbol_in (nth ds (start + i - 1))) (et : t ≡ symbol_in (nth ds (start + i))) where
    here : t ≡ symbol_in (nth ds (start + i - 1 + 1))
    here = let z : start + i - 1 + 1 ≡ start + i = omega arith in rw z et

    pub symbol_can : CanRaise p m s t f ds
    symbol_can = raise_can p k n f start all cs ds (start + i - 1) (all + 1 - i) m inv (omega arith) s t es here

    pub symbol_turn : (gs : List ℕ) (m' : ℕ) → RaiseDone p m s t f k ds gs m' → Raising p k n f start all cs gs (start + (i + 1) - 1) (all + 1 - (i + 1)) m'
    symbol_turn gs m' r =
        let x : start + (i + 1) - 1 ≡ start + i - 1 + 1 = omega arith in
        let y : all + 1 - (i + 1) ≡ all + 1 - i - 1 = omega arith in
        rw (x, y) (raise-turn p k n f start all cs ds (start + i - 1) (all + 1 - i) m inv (omega arith) s t es here gs m' r)
