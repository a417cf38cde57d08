-- The words of a table by their places, from the front. Assumes nothing.
use mathlib.Core.Path.{◌≡◌, refl, sym, ap, ◌∙◌}
use mathlib.Core.List.{List, [], ◌∷◌, ◌++◌, map, flat_map}
use Prim.Native.Nat.{ℕ, ◌+◌, ◌*◌, ◌-◌, ◌/◌, ◌<◌, ◌≤◌}
use native.Mathlib.Omega.{arith}
use lib.ListN.{length, take, drop}
use Rattle.runs.specs.Parts.{nth, part}
use Rattle.runs.proofs.Parts.{part_lent}
use Rattle.numbers.specs.Little.{load, numbers}
use Rattle.cells.specs.Cells.{cells}
use Rattle.rule.specs.Shapes.{parts}
use Rattle.rule.specs.Table.{units, units_of, total}
use Rattle.rule.specs.Spelling.{decorate}
use Rattle.rule.specs.Seeding.{Entry, kept_with}
use Rattle.rule.proofs.Spelling.{length-decorate}
use Rattle.vocab.specs.Places.{numbers_from}
use Rattle.vocab.proofs.Places.{numbers_start, numbers_step, number_load, parts_start, parts_step, parts_end}
use Rattle.intern.proofs.Many.{ran_start}
use Rattle.alphabet.specs.Seeds.{CanSeed}
use Rattle.word.specs.Layout.{corpus}
use Rattle.word.specs.declared.WordSet.{WordSet}
use Rattle.word.proofs.Views.{corpus_none}
use Rattle.encoding.specs.Encoding.{all_decorated, decorated_units, after, EntryDone, Fits, WordsDone}
use Rattle.encoding.specs.declared.Encoded.{Encoded}
use Rattle.error.specs.declared.NoRoom.{NoRoom}
use Rattle.std.specs.Prelude.{Result, Ok, Err, IsErr}
use Rattle.encoding.proofs.Entering.{Entering, entering_end, entering_can, entering_room, entering_place, entering_out, entering_next}

-- the decorated words from the i-th on
unfoldable pub words_from : ℕ → List ℕ → List ℕ → List ℕ → List ℕ → ℕ → ℕ → List (List (List ℕ))
words_from seeding p s ws es last i = map (decorate p s) (map (units seeding) (parts ws last (numbers_from 4 es i)))

module _ (seeding : ℕ) (p s ws es : List ℕ) where
  words_all : all_decorated seeding p s ws es ≡ words_from seeding p s ws es 0 0
  unfolding all_decorated words_from units_of
  words_all = ap (λ (l : List (List ℕ)). map (decorate p s) (map (units seeding) l)) (parts_start ws es)

  words_step : (i last e : ℕ) → i < length es / 4 → e ≡ nth (numbers 4 es) i
      → words_from seeding p s ws es last i ≡ decorate p s (units seeding (part last (e - last) ws)) ∷ words_from seeding p s ws es e (i + 1)
  unfolding words_from
  words_step i last e h q = ap (λ (l : List (List ℕ)). map (decorate p s) (map (units seeding) l)) (parts_step ws es i last e h q)

  words_none : (i last : ℕ) → length es / 4 ≤ i → words_from seeding p s ws es last i ≡ []
  unfolding words_from
  words_none i last h = ap (λ (l : List (List ℕ)). map (decorate p s) (map (units seeding) l)) (parts_end ws es i last h)

-- decoration leaves the number of units
lengths_same : (p s : List ℕ) (uss : List (List (List ℕ))) → total (map length (map (decorate p s) uss)) ≡ total (map length uss)
unfolding total
lengths_same p s [] = refl
lengths_same p s (us ∷ uss) = let a = length-decorate p s us in let b = lengths_same p s uss in omega arith

pub decorated-total : (seeding : ℕ) (p s ws es : List ℕ) → total (map length (all_decorated seeding p s ws es)) ≡ total (map length (units_of seeding ws es))
unfolding all_decorated
decorated-total seeding p s ws es = lengths_same p s (units_of seeding ws es)

-- THE START
module _ (set : WordSet) (base cap c u seeding : ℕ) (p s ws es fs rs xs ys : List ℕ) (can : CanSeed base cap c u (decorated_units seeding p s ws es) (cells rs) xs ys)
    (fits : Fits set base seeding ws es (cells rs)) where
  begin : Entering set base cap c u (numbers 8 fs) (numbers 8 fs) (all_decorated seeding p s ws es) (all_decorated seeding p s ws es) set xs ys rs xs ys c u
  unfolding decorated_units
  begin = record {
    ran = ran_start base cap c u xs ys (flat_map (λ d. d) (all_decorated seeding p s ws es)) (cells rs) can.ok;
    slots = can.slots;
    words = fits.set;
    view = ap (λ (n : ℕ). corpus (cells rs) set.starts n ++ kept_with (after xs ys c (flat_map (λ d. d) (all_decorated seeding p s ws es))) (numbers 8 fs) (all_decorated seeding p s ws es)) fits.none
        ∙ ap (λ (l : List Entry). l ++ kept_with (after xs ys c (flat_map (λ d. d) (all_decorated seeding p s ws es))) (numbers 8 fs) (all_decorated seeding p s ws es)) (corpus_none (cells rs) set.starts);
    starts_is = refl;
    low_is = refl;
    room = omega (arith, decorated-total seeding p s ws es, fits.words);
    most = omega arith;
    places = omega (arith, decorated-total seeding p s ws es, fits.places, fits.none);
  }

  pub words_start : Entering set base cap c u (numbers 8 fs) (numbers_from 8 fs 0) (all_decorated seeding p s ws es) (words_from seeding p s ws es 0 0) set xs ys rs xs ys c u
  words_start = go (numbers_from 8 fs 0) (words_from seeding p s ws es 0 0) (numbers_start 8 fs) (words_all seeding p s ws es)
    where
      go : (gs : List ℕ) (todo : List (List (List ℕ))) → numbers 8 fs ≡ gs → all_decorated seeding p s ws es ≡ todo
          → Entering set base cap c u (numbers 8 fs) gs (all_decorated seeding p s ws es) todo set xs ys rs xs ys c u
      go gs todo e f = rw (← e, ← f) begin

-- A TURN, AND THE WAYS OUT
module _ (set : WordSet) (base cap c u : ℕ) (gs : List ℕ) (ds : List (List (List ℕ))) (seeding : ℕ) (p s ws es fs : List ℕ) (last i : ℕ) (r : Encoded) (xs ys qs vs zs : List ℕ)
    (g : Entering set base cap c u gs (numbers_from 8 fs i) ds (words_from seeding p s ws es last i) r.words xs ys qs vs zs r.filled.count r.filled.used) where
  pub words_end : (rs : List ℕ) → gs ≡ numbers 8 fs → length es / 4 ≤ i → WordsDone (Ok r) set base cap c u fs ds rs xs ys qs vs zs
  words_end rs k h =
      entering_end set base cap c u gs (numbers_from 8 fs i) ds (words_from seeding p s ws es last i) r.words xs ys qs vs zs r.filled.count r.filled.used g rs fs k (words_none seeding p s ws es i last h) r refl refl refl

  module _ (h : i < length es / 4) (same : length es / 4 ≡ length fs / 8) (e f : ℕ) (k : e ≡ nth (numbers 4 es) i) (l : f ≡ load 8 fs (i * 8)) where
    step : words_from seeding p s ws es last i ≡ decorate p s (units seeding (take (e - last) (drop last ws))) ∷ words_from seeding p s ws es e (i + 1)
    step =
        words_step seeding p s ws es i last e h k
        ∙ ap (λ (v : List ℕ). decorate p s (units seeding v) ∷ words_from seeding p s ws es e (i + 1)) (sym (part_lent last e ws))

    first : numbers_from 8 fs i ≡ f ∷ numbers_from 8 fs (i + 1)
    first =
        numbers_step 8 fs i (omega arith)
        ∙ ap (λ (n : ℕ). n ∷ numbers_from 8 fs (i + 1)) (sym (number_load 8 fs i f (omega arith) l))

    pub words_can : CanSeed base cap r.filled.count r.filled.used (decorate p s (units seeding (take (e - last) (drop last ws)))) (cells qs) vs zs
    words_can =
        entering_can set base cap c u gs (numbers_from 8 fs i) ds (words_from seeding p s ws es last i) r.words xs ys qs vs zs r.filled.count r.filled.used g f (numbers_from 8 fs (i + 1))
        (units seeding (take (e - last) (drop last ws))) p s (words_from seeding p s ws es e (i + 1)) step first

    pub words_room : r.words.top + 2 + length (units seeding (take (e - last) (drop last ws))) ≤ base
    words_room =
        entering_room set base cap c u gs (numbers_from 8 fs i) ds (words_from seeding p s ws es last i) r.words xs ys qs vs zs r.filled.count r.filled.used g f (numbers_from 8 fs (i + 1))
        (units seeding (take (e - last) (drop last ws))) p s (words_from seeding p s ws es e (i + 1)) step first

    pub words-place : r.words.starts + r.words.count < r.words.low
    words-place =
        entering_place set base cap c u gs (numbers_from 8 fs i) ds (words_from seeding p s ws es last i) r.words xs ys qs vs zs r.filled.count r.filled.used g f (numbers_from 8 fs (i + 1))
        (units seeding (take (e - last) (drop last ws))) p s (words_from seeding p s ws es e (i + 1)) step first

    module _ (qs₂ vs₂ zs₂ : List ℕ) where
      pub words-out : (rs : List ℕ) (x : NoRoom) → EntryDone (Err x) r.words base cap r.filled.count r.filled.used f p s (units seeding (take (e - last) (drop last ws))) qs vs zs qs₂ vs₂ zs₂
          → (y : Result Encoded NoRoom) → IsErr y → WordsDone y set base cap c u fs ds rs xs ys qs₂ vs₂ zs₂
      words-out rs =
          entering_out set base cap c u gs (numbers_from 8 fs i) ds (words_from seeding p s ws es last i) r.words xs ys qs vs zs r.filled.count r.filled.used g f (numbers_from 8 fs (i + 1))
          (units seeding (take (e - last) (drop last ws))) p s (words_from seeding p s ws es e (i + 1)) step first qs₂ vs₂ zs₂ rs fs

      pub words_next : (r₂ : Encoded) → EntryDone (Ok r₂) r.words base cap r.filled.count r.filled.used f p s (units seeding (take (e - last) (drop last ws))) qs vs zs qs₂ vs₂ zs₂
          → Entering set base cap c u gs (numbers_from 8 fs (i + 1)) ds (words_from seeding p s ws es e (i + 1)) r₂.words xs ys qs₂ vs₂ zs₂ r₂.filled.count r₂.filled.used
      words_next =
          entering_next set base cap c u gs (numbers_from 8 fs i) ds (words_from seeding p s ws es last i) r.words xs ys qs vs zs r.filled.count r.filled.used g f (numbers_from 8 fs (i + 1))
          (units seeding (take (e - last) (drop last ws))) p s (words_from seeding p s ws es e (i + 1)) step first qs₂ vs₂ zs₂
