-- A word made an entry of the set, and all words one behind the other. Assumes nothing.
use mathlib.Core.Path.{◌≡◌, refl, sym, ap, ◌∙◌}
use mathlib.Core.List.{List, [], ◌∷◌, ◌++◌, append-nil, append_assoc, map, flat_map, foldl}
use mathlib.Core.Logic.{inl}
use Prim.Native.Nat.{ℕ, ◌+◌, ◌*◌, ◌<◌, ◌≤◌}
use native.Mathlib.Omega.{arith}
use lib.ListN.{length}
use mathlib.Core.Bool.{Bool, ◌&&◌}
use Rattle.runs.specs.Parts.{nth}
use Rattle.rfc3629.specs.Cut.{well_formed, units_by}
use Rattle.text.specs.Units.{by_chars}
use Rattle.text.specs.declared.Seeding.{Seeding}
use Rattle.text.proofs.Steps.{start_units}
use Rattle.numbers.specs.Little.{numbers}
use Rattle.cells.specs.Cells.{cells}
use Rattle.rule.specs.Table.{chars, units, total}
use Rattle.rule.specs.Spelling.{decorate}
use Rattle.rule.specs.Seeding.{Entry, intern, number_of, keep, kept_with}
use Rattle.rule.proofs.Spelling.{length-decorate}
use Rattle.rule.proofs.Seeding.{All, Has, interns_stay, interns_have}
use Rattle.intern.specs.Pieces.{pieces}
use Rattle.intern.specs.Many.{Ran}
use Rattle.intern.proofs.Many.{ran_cells, ran_slots, ran_then, ran_exceeds}
use Rattle.intern.proofs.Lists.{interns_append}
use Rattle.intern.proofs.Elsewhere.{pieces_elsewhere, pieces-kept}
use Rattle.alphabet.specs.Seeds.{CanSeed}
use Rattle.word.specs.Layout.{symbols_at, Words, words_in}
use Rattle.pushing.specs.Pushing.{Opened, Pushed}
use Rattle.word.specs.declared.WordSet.{WordSet}
use Rattle.encoding.specs.Encoding.{after, WordDone, EntryDone, WordsDone}
use Rattle.encoding.specs.declared.Worded.{Worded}
use Rattle.encoding.specs.declared.Encoded.{Encoded}
use Rattle.error.specs.declared.NoRoom.{NoRoom}
use Rattle.std.specs.Prelude.{Result, Ok, Err, IsErr}

-- ONE WORD: us are its units, however the code came by them
pub entry_units : (d : Seeding) (seeding : ℕ) → by_chars d ≡ chars seeding → (whole : Bool) (v : List ℕ)
    → whole ≡ (by_chars d && well_formed v) → units_by whole v ≡ units seeding v
entry_units d seeding c whole v e = start_units d seeding c whole v e

pub entry_room : (us ms : List (List ℕ)) (n base : ℕ) → ms ≡ us → n + length us ≤ base → n + length ms ≤ base
entry_room us ms n base e h = rw e h

module _ (w : WordSet) (base cap c u f : ℕ) (p s : List ℕ) (us ms : List (List ℕ)) (e : ms ≡ us) (rs os xs ys : List ℕ) (o : Opened w f (cells rs) (cells os))
    (room : w.top + 2 + length us ≤ base) where
  pub entry_can : CanSeed base cap c u (decorate p s us) (cells rs) xs ys → CanSeed base cap c u (decorate p s ms) (cells os) xs ys
  entry_can k = record {
    ok = pieces-kept base cap c u w.top (w.top + 1) (cells rs) (cells os) xs ys o.kept (inl (omega arith)) k.ok;
    slots = rw e k.slots;
  }

  module _ (qs vs ws : List ℕ) where
    pub entry_out : (x : NoRoom) → WordDone (Err x) w base cap c u p s ms os xs ys qs vs ws → (r : Result Encoded NoRoom) → IsErr r
        → EntryDone r w base cap c u f p s us rs xs ys qs vs ws
    unfolding WordDone EntryDone
    entry_out x d (Ok r) z = absurd cc
    entry_out x d (Err y) z = rw e at d

    module _ (a : Worded) (d : WordDone (Ok a) w base cap c u p s ms os xs ys qs vs ws) where
      pub entry_push : Words w (cells qs) × (w.top + 2 + a.symbols ≤ length (cells qs))
      unfolding WordDone
      entry_push =
          let h = rw e at d in
          (h.2.set, omega (arith, h.1, h.0.ok.known.room))

      pub entry_done : w.starts + w.count < w.low → (es : List ℕ) (r : Encoded) → r.filled ≡ a.filled → Pushed w a.symbols (cells qs) (cells es) r.words
          → EntryDone (Ok r) w base cap c u f p s us rs xs ys es vs ws
      unfolding WordDone EntryDone
      entry_done l es r m k =
          let h = rw e at d in
          let b = h.2 in
          let z = b.set.in_line.span in (
            rw m (ran_cells base cap c u xs ys (after xs ys c (decorate p s us)) [] (cells qs) vs ws a.filled.count a.filled.used h.0 (cells es)
                (pieces_elsewhere base cap (cells qs) (cells es) (λ j i. k.same (base + j) (λ y. omega arith) (λ y. omega arith)) a.filled.count a.filled.used vs ws k.long h.0.ok)),
            rw h.1 at k.takes,
            k.set,
            k.view
                ∙ ap (λ (t : List Entry). t ++ keep (nth (cells qs) w.top) (symbols_at (w.top + 2) a.symbols (cells qs)) []) (b.view ∙ o.view)
                ∙ ap (λ (i : ℕ). words_in w (cells rs) ++ keep i (symbols_at (w.top + 2) a.symbols (cells qs)) []) (b.frequency ∙ o.frequency)
                ∙ ap (λ (l : List ℕ). words_in w (cells rs) ++ keep f l []) b.symbols,
          )

-- ALL WORDS

keep-append : (f : ℕ) (ss : List ℕ) (es : List Entry) → keep f ss es ≡ keep f ss [] ++ es
unfolding keep
keep-append f [] es = refl
keep-append f (s ∷ []) es = refl
keep-append f (s ∷ t ∷ ss) es = refl

-- numbers that are there stay what they are
numbers-same : (ps ts us : List (List ℕ)) → All (Has ps) us → map (number_of (foldl intern ps ts)) us ≡ map (number_of ps) us
numbers-same ps ts [] h = refl
numbers-same ps ts (v ∷ us) h =
    ap (λ (k : ℕ). k ∷ map (number_of (foldl intern ps ts)) us) (interns_stay v ts ps h.0).1
    ∙ ap (λ (l : List ℕ). number_of ps v ∷ l) (numbers-same ps ts us h.1)

-- the words `todo` of the decorated words ds, with their frequencies gs of fs, are to come
pub record Entering (set : WordSet) (base cap c u : ℕ) (fs gs : List ℕ) (ds todo : List (List (List ℕ))) (w : WordSet) (xs ys qs vs ws : List ℕ) (c' u' : ℕ) : Type 0 where
  pub ran : Ran base cap c u (after xs ys c (flat_map (λ d. d) ds)) (flat_map (λ d. d) todo) xs ys (cells qs) vs ws c' u'
  pub slots : length (after xs ys c (flat_map (λ d. d) ds)) < cap
  pub words : Words w (cells qs)
  pub view : words_in w (cells qs) ++ kept_with (after xs ys c (flat_map (λ d. d) ds)) gs todo ≡ kept_with (after xs ys c (flat_map (λ d. d) ds)) fs ds
  pub starts_is : w.starts ≡ set.starts
  pub low_is : w.low ≡ set.low
  pub room : w.top + 2 + 2 * total (map length todo) ≤ base
  pub most : w.top + 2 * total (map length todo) ≤ set.top + 2 * total (map length ds)
  pub places : 2 * (w.starts + w.count) + total (map length todo) < 2 * w.low

kept_end : (ps : List (List ℕ)) (gs : List ℕ) → kept_with ps gs [] ≡ []
unfolding kept_with
kept_end ps [] = refl
kept_end ps (g ∷ gs) = refl

module _ (set : WordSet) (base cap c u : ℕ) (fs gs : List ℕ) (ds todo : List (List (List ℕ))) (w : WordSet) (xs ys qs vs ws : List ℕ) (c' u' : ℕ)
    (g : Entering set base cap c u fs gs ds todo w xs ys qs vs ws c' u') where
  pub entering_end : (rs bytes : List ℕ) → fs ≡ numbers 8 bytes → todo ≡ [] → (r : Encoded) → r.filled.count ≡ c' → r.filled.used ≡ u' → r.words ≡ w
      → WordsDone (Ok r) set base cap c u bytes ds rs xs ys qs vs ws
  unfolding WordsDone flat_map
  entering_end rs bytes k e r i j l = rw (i, j, l) (
    rw e at g.ran,
    g.words,
    sym (append-nil (words_in w (cells qs)))
        ∙ ap (λ (l : List Entry). words_in w (cells qs) ++ l) (sym (ap (kept_with (after xs ys c (flat_map (λ d. d) ds)) gs) e ∙ kept_end (after xs ys c (flat_map (λ d. d) ds)) gs))
        ∙ g.view
        ∙ ap (λ (l : List ℕ). kept_with (after xs ys c (flat_map (λ d. d) ds)) l ds) k,
    g.starts_is,
    g.low_is,
    omega (arith, g.most),
  )

  module _ (f : ℕ) (hs : List ℕ) (us : List (List ℕ)) (p s : List ℕ) (rest : List (List (List ℕ))) (e : todo ≡ decorate p s us ∷ rest) (i : gs ≡ f ∷ hs) where
    sum : total (map length todo) ≡ length us + total (map length rest)
    unfolding total
    sum = ap (λ (l : List (List (List ℕ))). total (map length l)) e ∙ ap (λ (k : ℕ). k + total (map length rest)) (length-decorate p s us)

    ahead : Ran base cap c u (after xs ys c (flat_map (λ d. d) ds)) (decorate p s us ++ flat_map (λ d. d) rest) xs ys (cells qs) vs ws c' u'
    unfolding flat_map
    ahead = rw e at g.ran

    pub entering_can : CanSeed base cap c' u' (decorate p s us) (cells qs) vs ws
    entering_can = record {
      ok = g.ran.ok;
      slots = ran_slots base cap c u xs ys (after xs ys c (flat_map (λ d. d) ds)) (decorate p s us) (flat_map (λ d. d) rest) (cells qs) vs ws c' u' ahead g.slots;
    }

    pub entering_room : w.top + 2 + length us ≤ base
    entering_room = omega (arith, sum, g.room)

    pub entering_place : w.starts + w.count < w.low
    entering_place = omega (arith, g.places)

    module _ (qs₂ vs₂ ws₂ : List ℕ) where
      pub entering_out : (rs bytes : List ℕ) (x : NoRoom) → EntryDone (Err x) w base cap c' u' f p s us qs vs ws qs₂ vs₂ ws₂ → (r : Result Encoded NoRoom) → IsErr r
          → WordsDone r set base cap c u bytes ds rs xs ys qs₂ vs₂ ws₂
      unfolding EntryDone WordsDone
      entering_out rs bytes x d (Ok r) z = absurd cc
      entering_out rs bytes x d (Err y) z =
          ran_exceeds base cap c u xs ys (after xs ys c (flat_map (λ d. d) ds)) (decorate p s us) (flat_map (λ d. d) rest) (cells qs) vs ws c' u' ahead d

      here : map (number_of (after vs ws c' (decorate p s us))) (decorate p s us) ≡ map (number_of (after xs ys c (flat_map (λ d. d) ds))) (decorate p s us)
      here =
          sym (numbers-same (after vs ws c' (decorate p s us)) (flat_map (λ d. d) rest) (decorate p s us) (interns_have (decorate p s us) (pieces vs ws c')))
          ∙ ap (λ (ps : List (List ℕ)). map (number_of ps) (decorate p s us)) (sym (interns_append (pieces vs ws c') (decorate p s us) (flat_map (λ d. d) rest)) ∙ ahead.are)

      pub entering_next : (r : Encoded) → EntryDone (Ok r) w base cap c' u' f p s us qs vs ws qs₂ vs₂ ws₂
          → Entering set base cap c u fs hs ds rest r.words xs ys qs₂ vs₂ ws₂ r.filled.count r.filled.used
      unfolding EntryDone kept_with
      entering_next r h =
          let t = h.1 in
          let ps = after xs ys c (flat_map (λ d. d) ds) in
          record {
            ran = ran_then base cap c u xs ys ps (decorate p s us) (flat_map (λ d. d) rest) (cells qs) vs ws c' u' ahead (cells qs₂) vs₂ ws₂ r.filled.count r.filled.used h.0;
            slots = g.slots;
            words = h.2;
            view = ap (λ (l : List Entry). l ++ kept_with ps hs rest)
                (h.3 ∙ ap (λ (l : List ℕ). words_in w (cells qs) ++ keep f l []) here)
                ∙ append_assoc (words_in w (cells qs)) (keep f (map (number_of ps) (decorate p s us)) []) (kept_with ps hs rest)
                ∙ ap (λ (l : List Entry). words_in w (cells qs) ++ l) (sym (keep-append f (map (number_of ps) (decorate p s us)) (kept_with ps hs rest)))
                ∙ (rw (e, i) at g.view);
            starts_is = t.starts_is ∙ g.starts_is;
            low_is = t.low_is ∙ g.low_is;
            room = omega (arith, g.room, sum, t.top-most);
            most = omega (arith, g.most, sum, t.top-most);
            places = omega (arith, g.places, sum, t.count_most, t.starts_is, t.low_is);
          }
