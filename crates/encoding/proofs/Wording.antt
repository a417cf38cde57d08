-- A word's units, interned one by one while their numbers become the symbols of the open word. Assumes nothing.
use mathlib.Core.Path.{◌≡◌, refl, sym, ap, ◌∙◌}
use mathlib.Core.Bool.{Bool, true, false, cond, not}
use mathlib.Core.List.{List, [], ◌∷◌, ◌++◌, append-nil, map}
use mathlib.Core.Logic.{inl, inr}
use Prim.Native.Nat.{ℕ, ◌+◌, ◌-◌, ◌<◌, ◌≤◌}
use native.Mathlib.Omega.{arith}
use lib.Dec.{eqb}
use lib.ListN.{length, take, drop}
use lib.Seq.{append_snoc}
use borrow.Author.Tests.{eq-eqb, ne_eqb}
use Rattle.runs.specs.Parts.{nth, part, Kept}
use Rattle.runs.proofs.Parts.{same_or_not, eqb_sym, part_all}
use Rattle.cells.specs.Cells.{cells}
use Rattle.rfc3629.specs.Cut.{units_by}
use Rattle.rule.specs.Spelling.{decorate}
use Rattle.rule.specs.Seeding.{intern, number_of}
use Rattle.rule.proofs.Seeding.{has_intern, interns_stay}
use Rattle.text.specs.Units.{Next}
use Rattle.text.proofs.Steps.{last_units, next_units, units_some}
use Rattle.spelling.specs.Units.{dressed, dressed_from}
use Rattle.spelling.proofs.Units.{dressed_of, dressed_none, dressed_next, decorate-dressed}
use Rattle.intern.specs.Pieces.{pieces}
use Rattle.intern.specs.Intern.{CanIntern, Answer, Gave}
use Rattle.intern.specs.Many.{Ran}
use Rattle.intern.specs.declared.Interned.{Interned}
use Rattle.error.specs.declared.NoRoom.{NoRoom}
use Rattle.vocab.specs.declared.Filled.{Filled}
use Rattle.std.specs.Prelude.{Result, Ok, Err, IsErr}
use Rattle.intern.proofs.Rooms.{kept-cells}
use Rattle.intern.proofs.Many.{ran_start, ran_can, ran_cells, ran_next, ran_number, ran_lacks, ran_then, ran_exceeds}
use Rattle.intern.proofs.Elsewhere.{pieces-kept}
use Rattle.alphabet.specs.Seeds.{CanSeed}
use Rattle.word.specs.Layout.{symbols_at, Words, words_in}
use Rattle.pushing.specs.Pushing.{Added}
use Rattle.word.specs.declared.WordSet.{WordSet}
use Rattle.word.proofs.Sets.{words-kept, corpus-kept, symbols_kept}
use Rattle.word.proofs.Views.{symbols_none}
use Rattle.encoding.specs.Encoding.{after, UnitDone, WordDone}
use Rattle.encoding.specs.declared.Worded.{Worded}

-- ONE UNIT

module _ (w : WordSet) (n base cap c u : ℕ) (s rs xs ys qs vs ws : List ℕ) (can : CanIntern base cap c u (cells rs) xs ys) (set : Words w (cells rs))
    (room : w.top + 2 + n < base) where
  start : Ran base cap c u (after xs ys c (s ∷ [])) (s ∷ []) xs ys (cells rs) xs ys c u
  start = ran_start base cap c u xs ys (s ∷ []) (cells rs) can.ok

  pub unit_out : (x : NoRoom) → Answer (Err x) base cap c u s rs xs ys qs vs ws → (r : Result Filled NoRoom) → IsErr r → UnitDone r w n base cap c u s rs xs ys qs vs ws
  unfolding Answer UnitDone
  unit_out x h (Ok f) z = absurd cc
  unit_out x h (Err y) z = ran_lacks base cap c u xs ys (after xs ys c (s ∷ [])) s [] (cells rs) xs ys c u start h.0.more h.1

  module _ (i : Interned) (g : Answer (Ok i) base cap c u s rs xs ys qs vs ws) where
    gave : Gave base cap c u s rs xs ys qs vs ws i.number i.filled.count i.filled.used
    unfolding Answer
    gave = g

    kept : Kept base (base + cap) (cells rs) (cells qs)
    kept = kept-cells base (base + cap) rs qs gave.room

    pub unit_number : i.number < 4294967296
    unit_number = let h = gave.ok.known in omega (arith, gave.low, h.few, h.vacant)

    pub unit_set : Words w (cells qs)
    unit_set = words-kept w (cells rs) (cells qs) base (base + cap) set kept (inr (omega arith))

    pub unit_room : w.top + 2 + n < length (cells qs)
    unit_room = let h = gave.ok.known in omega (arith, h.room)

    pub unit_done : (es : List ℕ) → Added w n i.number (cells qs) (cells es) → UnitDone (Ok i.filled) w n base cap c u s rs xs ys es vs ws
    unfolding UnitDone
    unit_done es d =
        let r = ran_next base cap c u xs ys (after xs ys c (s ∷ [])) s [] (cells rs) xs ys c u start rs qs vs ws i.number i.filled.count i.filled.used gave in
        let e = ran_number base cap c u xs ys (after xs ys c (s ∷ [])) s [] (cells rs) xs ys c u start rs qs vs ws i.number i.filled.count i.filled.used gave in
        let z = set.room in (
          ran_cells base cap c u xs ys (after xs ys c (s ∷ [])) [] (cells qs) vs ws i.filled.count i.filled.used r (cells es)
              (pieces-kept base cap i.filled.count i.filled.used (w.top + 2 + n) (w.top + 2 + n + 1) (cells qs) (cells es) vs ws d.kept (inl (omega arith)) gave.ok),
          record {
            set = d.set;
            view = d.view ∙ corpus-kept w (cells rs) (cells qs) base (base + cap) set kept (inr (omega arith));
            frequency = d.frequency ∙ kept.same w.top (inl (omega arith));
            symbols = d.symbols
                ∙ ap (λ (l : List ℕ). l ++ (i.number ∷ [])) (symbols_kept (w.top + 2) n kept (omega (arith, can.ok.known.room)) (inl (omega arith)))
                ∙ ap (λ (j : ℕ). symbols_at (w.top + 2) n (cells rs) ++ (j ∷ [])) e;
          },
        )

-- A UNIT'S MARKS, as the code takes them

flip : (b : Bool) (p : List ℕ) → cond (not b) p [] ≡ cond b [] p
flip true p = refl
flip false p = refl

-- a unit is the last if it ends where the word does
last_unit : (whole : Bool) (s : List ℕ) (at to r : ℕ) → at < to → to ≤ length s → Next whole s at to r → eqb r to ≡ eqb 0 (length (units_by whole (part r (to - r) s)))
last_unit whole s at to r a b x =
    same_or_not r to
    (λ e. eq-eqb r to e ∙ sym (eq-eqb 0 (length (units_by whole (part r (to - r) s))) (sym (ap length (last_units whole s r to (omega arith))))))
    (λ e. ne_eqb r to e ∙ sym (ne_eqb 0 (length (units_by whole (part r (to - r) s))) (λ q. let z = units_some whole s r to (omega (arith, x.inside)) b in omega arith)))

pub unit_spelled : (p s words lead tail : List ℕ) (whole : Bool) (n at to r : ℕ) → at < to → to ≤ length words → Next whole words at to r
    → lead ≡ cond (not (eqb n 0)) p [] → tail ≡ cond (eqb r to) s []
    → lead ++ (take (r - at) (drop at words) ++ tail)
    ≡ dressed p s (eqb 0 n) (eqb 0 (length (units_by whole (part r (to - r) words)))) (part at (r - at) words)
unfolding part
unit_spelled p s words lead tail whole n at to r a b x e f =
    dressed_of p s lead tail (take (r - at) (drop at words)) (eqb 0 n) (eqb 0 (length (units_by whole (part r (to - r) words))))
    (e ∙ flip (eqb n 0) p ∙ ap (λ (b : Bool). cond b [] p) (eqb_sym n 0))
    (f ∙ ap (λ (b : Bool). cond b s []) (last_unit whole words at to r a b x))

-- A WORD: n units are done, and `todo` is to come

pub record Wording (w : WordSet) (base cap c u : ℕ) (p s : List ℕ) (us todo : List (List ℕ)) (rs xs ys qs vs ws : List ℕ) (n c' u' : ℕ) : Type 0 where
  pub ran : Ran base cap c u (after xs ys c (decorate p s us)) (dressed_from p s (eqb 0 n) todo) xs ys (cells qs) vs ws c' u'
  pub slots : length (after xs ys c (decorate p s us)) < cap
  pub set : Words w (cells qs)
  pub view : words_in w (cells qs) ≡ words_in w (cells rs)
  pub frequency : nth (cells qs) w.top ≡ nth (cells rs) w.top
  pub symbols : symbols_at (w.top + 2) n (cells qs) ++ map (number_of (after xs ys c (decorate p s us))) (dressed_from p s (eqb 0 n) todo)
      ≡ map (number_of (after xs ys c (decorate p s us))) (decorate p s us)
  pub count : n + length todo ≡ length us
  pub room : w.top + 2 + length us ≤ base

pub wording_start : (w : WordSet) (base cap c u : ℕ) (p s : List ℕ) (us : List (List ℕ)) (rs xs ys : List ℕ) → CanSeed base cap c u (decorate p s us) (cells rs) xs ys
    → Words w (cells rs) → w.top + 2 + length us ≤ base → Wording w base cap c u p s us us rs xs ys rs xs ys 0 c u
wording_start w base cap c u p s us rs xs ys can set room =
    record {
      ran = all (dressed_from p s true us) (decorate-dressed p s us);
      slots = can.slots;
      set = set;
      view = refl;
      frequency = refl;
      symbols = rw (symbols_none (w.top + 2) (cells rs)) (ap (map (number_of (after xs ys c (decorate p s us)))) (sym (decorate-dressed p s us)));
      count = omega arith;
      room = room;
    }
  where
    all : (todo : List (List ℕ)) → decorate p s us ≡ todo → Ran base cap c u (after xs ys c (decorate p s us)) todo xs ys (cells rs) xs ys c u
    all todo e = rw (← e) (ran_start base cap c u xs ys (decorate p s us) (cells rs) can.ok)

module _ (w : WordSet) (base cap c u : ℕ) (p s : List ℕ) (us todo : List (List ℕ)) (rs xs ys qs vs ws : List ℕ) (n c' u' : ℕ)
    (g : Wording w base cap c u p s us todo rs xs ys qs vs ws n c' u') where
  pub wording_can : CanIntern base cap c' u' (cells qs) vs ws
  wording_can = ran_can base cap c u xs ys (after xs ys c (decorate p s us)) (dressed_from p s (eqb 0 n) todo) (cells qs) vs ws c' u' g.ran g.slots

  pub wording_set : Words w (cells qs)
  wording_set = g.set

  pub wording_end : todo ≡ [] → (r : Worded) → r.filled.count ≡ c' → r.filled.used ≡ u' → r.symbols ≡ n → WordDone (Ok r) w base cap c u p s us rs xs ys qs vs ws
  unfolding WordDone
  wording_end e r j l m =
      rw (j, l, m)
      (let none : dressed_from p s (eqb 0 n) todo ≡ [] = ap (dressed_from p s (eqb 0 n)) e ∙ dressed_none p s (eqb 0 n) in
      let k = ap length e in (
        rw none at g.ran,
        omega (arith, g.count),
        record {
          set = g.set;
          view = g.view;
          frequency = g.frequency;
          symbols = sym (append-nil (symbols_at (w.top + 2) n (cells qs)))
              ∙ (rw none at g.symbols);
        },
      ))

  module _ (v : List ℕ) (rest : List (List ℕ)) (e : todo ≡ v ∷ rest) where
    pub wording_room : w.top + 2 + n < base
    wording_room = let k = ap length e in omega (arith, g.count, g.room)

    module _ (t : List ℕ) (f : t ≡ dressed p s (eqb 0 n) (eqb 0 (length rest)) v) (qs₂ vs₂ ws₂ : List ℕ) where
      ahead : dressed_from p s (eqb 0 n) todo ≡ t ∷ dressed_from p s false rest
      ahead = ap (dressed_from p s (eqb 0 n)) e ∙ dressed_next p s (eqb 0 n) v rest ∙ ap (λ (l : List ℕ). l ∷ dressed_from p s false rest) (sym f)

      ran : Ran base cap c u (after xs ys c (decorate p s us)) ((t ∷ []) ++ dressed_from p s false rest) xs ys (cells qs) vs ws c' u'
      ran = rw ahead at g.ran

      pub wording_out : (x : NoRoom) → UnitDone (Err x) w n base cap c' u' t qs vs ws qs₂ vs₂ ws₂ → (r : Result Worded NoRoom) → IsErr r
          → WordDone r w base cap c u p s us rs xs ys qs₂ vs₂ ws₂
      unfolding UnitDone WordDone
      wording_out x d (Ok r) z = absurd cc
      wording_out x d (Err y) z = ran_exceeds base cap c u xs ys (after xs ys c (decorate p s us)) (t ∷ []) (dressed_from p s false rest) (cells qs) vs ws c' u' ran d

      -- its number among the pieces of this moment is its number among those of the whole word
      number : number_of (after vs ws c' (t ∷ [])) t ≡ number_of (after xs ys c (decorate p s us)) t
      number =
          sym (interns_stay t (dressed_from p s false rest) (intern (pieces vs ws c') t) (has_intern t (pieces vs ws c'))).1
          ∙ ap (λ (ps : List (List ℕ)). number_of ps t) ran.are

      pub wording_next : (f₂ : Filled) → UnitDone (Ok f₂) w n base cap c' u' t qs vs ws qs₂ vs₂ ws₂
          → Wording w base cap c u p s us rest rs xs ys qs₂ vs₂ ws₂ (n + 1) f₂.count f₂.used
      unfolding UnitDone
      wording_next f₂ h =
          let o = h.1 in
          let later : eqb 0 (n + 1) ≡ false = ne_eqb 0 (n + 1) (λ z. omega arith) in
          let k = ap length e in
          record {
            ran = rw later (ran_then base cap c u xs ys (after xs ys c (decorate p s us)) (t ∷ []) (dressed_from p s false rest) (cells qs) vs ws c' u' ran (cells qs₂) vs₂ ws₂ f₂.count f₂.used h.0);
            slots = g.slots;
            set = o.set;
            view = o.view ∙ g.view;
            frequency = o.frequency ∙ g.frequency;
            symbols = rw later (
                ap (λ (l : List ℕ). l ++ map (number_of (after xs ys c (decorate p s us))) (dressed_from p s false rest))
                (o.symbols ∙ ap (λ (j : ℕ). symbols_at (w.top + 2) n (cells qs) ++ (j ∷ [])) number)
                ∙ append_snoc (symbols_at (w.top + 2) n (cells qs)) (number_of (after xs ys c (decorate p s us)) t)
                (map (number_of (after xs ys c (decorate p s us))) (dressed_from p s false rest))
                ∙ ap (λ (l : List (List ℕ)). symbols_at (w.top + 2) n (cells qs) ++ map (number_of (after xs ys c (decorate p s us))) l) (sym ahead)
                ∙ g.symbols);
            count = omega (arith, g.count);
            room = g.room;
          }

-- the same by places in the word
pub word_start : (w : WordSet) (base cap c u : ℕ) (p s word : List ℕ) (whole : Bool) (rs xs ys : List ℕ)
    → CanSeed base cap c u (decorate p s (units_by whole word)) (cells rs) xs ys → Words w (cells rs) → w.top + 2 + length (units_by whole word) ≤ base
    → Wording w base cap c u p s (units_by whole word) (units_by whole (part 0 (length word - 0) word)) rs xs ys rs xs ys 0 c u
word_start w base cap c u p s word whole rs xs ys can set room =
    let e : part 0 (length word - 0) word ≡ word = part_all (length word - 0) word (omega arith) in
    rw e (wording_start w base cap c u p s (units_by whole word) rs xs ys can set room)

module _ (w : WordSet) (base cap c u : ℕ) (p s : List ℕ) (us : List (List ℕ)) (words : List ℕ) (whole : Bool) (at to : ℕ) (rs xs ys qs vs ws : List ℕ) (n : ℕ) (f : Filled)
    (g : Wording w base cap c u p s us (units_by whole (part at (to - at) words)) rs xs ys qs vs ws n f.count f.used) where
  pub place_end : to ≤ at → (r : Worded) → r.filled.count ≡ f.count → r.filled.used ≡ f.used → r.symbols ≡ n → WordDone (Ok r) w base cap c u p s us rs xs ys qs vs ws
  place_end h = wording_end w base cap c u p s us (units_by whole (part at (to - at) words)) rs xs ys qs vs ws n f.count f.used g (last_units whole words at to h)

  module _ (a : at < to) (b : to ≤ length words) (r : ℕ) (x : Next whole words at to r) where
    step : units_by whole (part at (to - at) words) ≡ part at (r - at) words ∷ units_by whole (part r (to - r) words)
    step = next_units whole words at to a b r x

    pub place_room : w.top + 2 + n < base
    place_room =
        wording_room w base cap c u p s us (units_by whole (part at (to - at) words)) rs xs ys qs vs ws n f.count f.used g (part at (r - at) words) (units_by whole (part r (to - r) words)) step

    module _ (lead tail : List ℕ) (e : lead ≡ cond (not (eqb n 0)) p []) (o : tail ≡ cond (eqb r to) s []) (qs₂ vs₂ ws₂ : List ℕ) where
      pub place_next : (f₂ : Filled) → UnitDone (Ok f₂) w n base cap f.count f.used (lead ++ (take (r - at) (drop at words) ++ tail)) qs vs ws qs₂ vs₂ ws₂
          → Wording w base cap c u p s us (units_by whole (part r (to - r) words)) rs xs ys qs₂ vs₂ ws₂ (n + 1) f₂.count f₂.used
      place_next =
          wording_next w base cap c u p s us (units_by whole (part at (to - at) words)) rs xs ys qs vs ws n f.count f.used g (part at (r - at) words) (units_by whole (part r (to - r) words)) step
          (lead ++ (take (r - at) (drop at words) ++ tail)) (unit_spelled p s words lead tail whole n at to r a b x e o) qs₂ vs₂ ws₂

      pub place-out : (y : NoRoom) → UnitDone (Err y) w n base cap f.count f.used (lead ++ (take (r - at) (drop at words) ++ tail)) qs vs ws qs₂ vs₂ ws₂
          → (z : Result Worded NoRoom) → IsErr z → WordDone z w base cap c u p s us rs xs ys qs₂ vs₂ ws₂
      place-out =
          wording_out w base cap c u p s us (units_by whole (part at (to - at) words)) rs xs ys qs vs ws n f.count f.used g (part at (r - at) words) (units_by whole (part r (to - r) words)) step
          (lead ++ (take (r - at) (drop at words) ++ tail)) (unit_spelled p s words lead tail whole n at to r a b x e o) qs₂ vs₂ ws₂
