-- The words of a pair by their number: where each stands, and the one noted last. Assumes nothing.
use mathlib.Core.Path.{◌≡◌, sym, ap, ◌∙◌}
use mathlib.Core.Bool.{false}
use mathlib.Core.List.{List, [], ◌∷◌}
use Prim.Native.Nat.{ℕ, ◌+◌, ◌-◌, ◌*◌, ◌<◌, ◌≤◌}
use native.Mathlib.Omega.{arith}
use borrow.Author.Tests.{lt-ltb, le-ltb}
use lib.Dec.{eqb}
use lib.ListN.{length}
use Rattle.runs.specs.Parts.{nth, part}
use Rattle.runs.proofs.Parts.{below_or_not, same_or_not, nth_ext, nth-part, length-part}
use Rattle.records.specs.Records.{field}
use Rattle.records.proofs.Laws.{field_of, field_low}
use Rattle.states.specs.State.{State, last_is}
use Rattle.pairs.specs.View.{arena_at, data_at, key_in, many, place, words_of, record_state, state}
use Rattle.pairs.specs.Pairs.{Long, Has}
use Rattle.pairs.specs.declared.Pairs.{Pairs}
use Rattle.pairs.proofs.Moves.{long_fits}
use Rattle.fields.proofs.Fields.{has_live, has_state}
use Rattle.lists.specs.Lists.{kind_of, length_of, listed, Loaded}
use Rattle.lists.specs.declared.WordList.{WordList}
use Rattle.lists.specs.declared.WordList.TheVariants.{Short, Spilled}

pub kind_short : (n : ℕ) (near : List ℕ) → n ≤ 4 → Short n near ≡ kind_of n near
unfolding kind_of
kind_short n near h = rw (le-ltb 4 n h)

pub kind_long : (n : ℕ) (near : List ℕ) → 4 < n → Spilled (nth near 0) n ≡ kind_of n near
unfolding kind_of
kind_long n near h = rw (lt-ltb 4 n h)

-- A LIVE RECORD was taken: the words in it are its fields from the fourth on
pub near_cell : (p : Pairs) (r : ℕ) (cs : List ℕ) → 0 < key_in p cs r → (j : ℕ) → nth cs (arena_at p + 3 + r * 8 + 4 + j) ≡ field (arena_at p) cs r (4 + j)
near_cell p r cs l j =
    let e : arena_at p + 3 + r * 8 + 4 + j ≡ arena_at p + 3 + r * 8 + (4 + j) = omega arith in
    rw e (sym (field_of (arena_at p) cs r (4 + j) (field_low (arena_at p) cs r 0 l)))

-- A RECORD THAT IS HAD
module _ (p : Pairs) (k r : ℕ) (cs : List ℕ) (h : Has p k r cs) where
  pub has_long : 4 < many p cs r → Long p cs r
  has_long f = record { low = h.low; live = has_live p k r cs h; long = f }

  has_words : (state p cs k).words ≡ words_of p cs r
  unfolding record_state
  has_words = ap (λ (s : State). s.words) (has_state p k r cs h)

  pub words-short : many p cs r ≤ 4 → (state p cs k).words ≡ part (arena_at p + 3 + r * 8 + 4) (many p cs r) cs
  unfolding words_of
  words-short f = has_words ∙ rw (le-ltb 4 (many p cs r) f)

  pub words_long : 4 < many p cs r → (state p cs k).words ≡ part (data_at p + place p cs r) (many p cs r) cs
  unfolding words_of
  words_long f = has_words ∙ rw (lt-ltb 4 (many p cs r) f)

  short_fits : many p cs r ≤ 4 → arena_at p + 3 + r * 8 + 4 + many p cs r ≤ length cs
  short_fits f = omega (arith, f, h.low, h.ok.room)

  pub run_fits : 4 < many p cs r → data_at p + place p cs r + many p cs r ≤ length cs
  run_fits f = omega (arith, long_fits p cs r h.ok (has_long f), h.ok.room)

  pub words-many : length (state p cs k).words ≡ many p cs r
  words-many =
      below_or_not 4 (many p cs r)
      (λ f. rw (words_long f) (length-part _ _ cs (run_fits f)))
      (λ f. rw (words-short f) (length-part _ _ cs (short_fits f)))

  pub words_fit : length (state p cs k).words ≤ length cs
  words_fit = below_or_not 4 (many p cs r) (λ f. omega (arith, words-many, run_fits f)) (λ f. omega (arith, words-many, short_fits f))

  -- ONE WORD, where there are n
  module _ (n j : ℕ) (e : n ≡ many p cs r) (l : j < length (state p cs k).words) where
    pub word_low : j < n
    word_low = omega (arith, words-many)

    pub word_short : (x : ℕ) → n ≤ 4 → x ≡ field (arena_at p) cs r (4 + j) → x ≡ nth (state p cs k).words j
    word_short x f q =
        q
        ∙ sym (near_cell p r cs (has_live p k r cs h) j)
        ∙ sym (rw (words-short (omega arith)) (nth-part _ _ cs j (omega (arith, word_low))))

    pub short_low : n ≤ 4 → 4 + j < 8
    short_low f = omega (arith, word_low)

    pub word_long_lem : (x at : ℕ) → 4 < n → at ≡ place p cs r → x ≡ nth cs (data_at p + at + j) → x ≡ nth (state p cs k).words j
    word_long_lem x at f a q = q ∙ sym (rw (words_long (omega arith), a) (nth-part _ _ cs j (omega (arith, word_low))))

    pub long_room : (at : ℕ) → 4 < n → at ≡ place p cs r → data_at p + at + j < length cs
    long_room at f a = omega (arith, word_low, run_fits (omega arith))

  -- THE LAST ONE
  pub last_low : (n : ℕ) → n ≡ many p cs r → (n ≡ 0 → ⊥) → n - 1 < length (state p cs k).words
  last_low n e z = omega (arith, words-many)

  module _ (n w : ℕ) (e : n ≡ many p cs r) where
    pub seen_none : n ≡ 0 → false ≡ last_is w (state p cs k).words
    unfolding last_is
    seen_none z = rw (words-many, ← e, z)

    pub seen_some : (x : ℕ) → (n ≡ 0 → ⊥) → x ≡ nth (state p cs k).words (n - 1) → eqb x w ≡ last_is w (state p cs k).words
    unfolding last_is
    seen_some x z q = rw (words-many, ← e, lt-ltb 0 n (omega arith), ← q)

  -- BY VALUE
  module _ (n a b c d : ℕ) (e : n ≡ many p cs r) (ea : a ≡ field (arena_at p) cs r 4) (eb : b ≡ field (arena_at p) cs r 5)
      (ec : c ≡ field (arena_at p) cs r 6) (ed : d ≡ field (arena_at p) cs r 7) where
    near_are : (j : ℕ) → j < 4 → nth (a ∷ (b ∷ (c ∷ (d ∷ [])))) j ≡ nth cs (arena_at p + 3 + r * 8 + 4 + j)
    unfolding nth
    near_are j f = same_or_not j 0 (λ z. rw z (ea ∙ at 0))
        (λ x. same_or_not j 1 (λ z. rw z (eb ∙ at 1))
        (λ y. same_or_not j 2 (λ z. rw z (ec ∙ at 2))
        (λ z. let i : j ≡ 3 = omega arith in rw i (ed ∙ at 3))))
      where
        at : (i : ℕ) → field (arena_at p) cs r (4 + i) ≡ nth cs (arena_at p + 3 + r * 8 + 4 + i)
        at i = sym (near_cell p r cs (has_live p k r cs h) i)

    near_words : n ≤ 4 → part 0 n (a ∷ (b ∷ (c ∷ (d ∷ [])))) ≡ part (arena_at p + 3 + r * 8 + 4) n cs
    near_words f =
        let l = length-part 0 n (a ∷ (b ∷ (c ∷ (d ∷ [])))) (omega arith) in
        nth_ext _ _ (l ∙ sym (length-part _ n cs (omega (arith, short_fits (omega arith)))))
        (λ j i.
        let z : 0 + j ≡ j = omega arith in
        nth-part 0 n _ j (omega (arith, l)) ∙ (rw z (near_are j (omega (arith, l)))) ∙ sym (nth-part _ n cs j (omega (arith, l))))

    listed_words : listed p cs (kind_of n (a ∷ (b ∷ (c ∷ (d ∷ []))))) ≡ (state p cs k).words
    unfolding kind_of listed nth
    listed_words =
        below_or_not 4 n
        (λ f. rw (lt-ltb 4 n f, words_long (omega arith), e, ea))
        (λ f. rw (le-ltb 4 n f) (near_words f ∙ rw (words-short (omega arith), e)))

    listed_many : length_of (kind_of n (a ∷ (b ∷ (c ∷ (d ∷ []))))) ≡ length (state p cs k).words
    unfolding kind_of length_of
    listed_many = below_or_not 4 n (λ f. rw (lt-ltb 4 n f, words-many, e)) (λ f. rw (le-ltb 4 n f, words-many, e))

    pub loaded : (count marks : ℕ) (ws : WordList) → count ≡ (state p cs k).count → marks ≡ (state p cs k).marks
        → ws ≡ kind_of n (a ∷ (b ∷ (c ∷ (d ∷ [])))) → Loaded p k cs (record { count = count; marks = marks; words = ws })
    loaded count marks ws x y z = rw z (record { count = x; marks = y; words = listed_words; many = listed_many })
