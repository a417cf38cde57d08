-- Bounds: the numbers of merges are pieces that there are, savings stay below 2^53; so merges and savings are read back from their rooms.
use mathlib.Core.Path.{◌≡◌, refl, ap, ◌∙◌}
use mathlib.Core.List.{List, [], ◌∷◌, map, flat_map, append_assoc}
use Prim.Native.Nat.{ℕ, zero, suc, ◌+◌, ◌*◌, ◌^◌, ◌≤◌, ◌<◌}
use native.Mathlib.Nat.{add-zero}
use native.Mathlib.Omega.{arith}
use lib.ListN.{length, take, length-map, length-append}
use Rattle.numbers.specs.Little.{spell, numbers}
use Rattle.rule.specs.Shapes.{spell_all}
use Rattle.rule.specs.Table.{Task, Rooms, frequencies, word_units, weighed}
use Rattle.rule.specs.Spelling.{decorate}
use Rattle.rule.specs.Seeding.{Entry, decorated, number_of, seeds, keep, kept_with, kept}
use Rattle.rule.specs.Training.{saving, Merge, trained, all_pieces}
use Rattle.rule.specs.Demand.{merge_at, words_after, Demand}
use Rattle.rule.specs.Layout.{piece_bytes, piece_records, piece_start, piece_length, merge_bytes, saving_bytes}
use Rattle.rule.specs.Refusals.{says, verdict}
use Rattle.rule.specs.Outcome.{train_outcome, look_up}
use Rattle.rule.specs.Sums.{Under, AllUnder, symbols_in}
use Rattle.rule.proofs.Lengths.{length-piece_records, length-merge_bytes, length-saving_bytes}
use Rattle.rule.proofs.Counts.{symbols_rewrite, count_symbols, below_all, counted_below}
use Rattle.rule.proofs.Spelling.{length-decorate}
use Rattle.rule.proofs.Seeding.{kept-below}
use Rattle.rule.proofs.Judged.{accepts}
use Rattle.rule.proofs.Left.{fits, writes_answer}
use Rattle.rule.proofs.Reading.{numbers_back, layout_found}
use Rattle.rule.proofs.Plain.{limited, light, demand_accepted}

-- NUMBERS: after k merges every symbol is one of the alphabet length + k pieces, so a merge joins two that there are
pub words-below : (t : Task) (ms : List Merge) (k : ℕ) → AllUnder (length (seeds t) + k) (words_after t ms k)
unfolding words_after
words-below t ms zero = rw add-zero (kept-below t)
words-below t ms (suc k) =
    let e : length (seeds t) + suc k ≡ suc (length (seeds t) + k) = omega arith in
    rw e (below_all (length (seeds t) + k) (merge_at ms k).left (merge_at ms k).right (words_after t ms k) (words-below t ms k))

pub merge_below : (t : Task) (ms : List Merge) → Demand t ms → (k : ℕ) → k < length ms
    → ((merge_at ms k).left < length (seeds t) + k) × ((merge_at ms k).right < length (seeds t) + k)
merge_below t ms d k h = counted_below (length (seeds t) + k) (merge_at ms k).left (merge_at ms k).right (words_after t ms k) (words-below t ms k) (d.made k h).chosen.is_open.occurs

-- WEIGHT: the kept words weigh no more than the table, and no merge makes them heavier
keep_light : (f : ℕ) (ss : List ℕ) (rest : List Entry) → symbols_in (keep f ss rest) ≤ f * length ss + symbols_in rest
unfolding symbols_in keep
keep_light f [] rest = omega arith
keep_light f (s ∷ []) rest = omega arith
keep_light f (s ∷ s₁ ∷ ss) rest = omega arith

kept_with_light : (ps : List (List ℕ)) (p s : List ℕ) (fs : List ℕ) (us : List (List (List ℕ)))
    → symbols_in (kept_with ps fs (map (decorate p s) us)) ≤ weighed fs us
unfolding kept_with weighed symbols_in
kept_with_light ps p s [] us = omega arith
kept_with_light ps p s (f ∷ fs) [] = omega arith
kept_with_light ps p s (f ∷ fs) (u ∷ us) =
    let h = kept_with_light ps p s fs us in
    let l : length (map (number_of ps) (decorate p s u)) ≡ length u = length-map (decorate p s u) (number_of ps) ∙ length-decorate p s u in
    let k = keep_light f (map (number_of ps) (decorate p s u)) (kept_with ps fs (map (decorate p s) us)) in
    omega (arith, ap (λ (n : ℕ). f * n) l)

pub kept_light : (t : Task) → symbols_in (kept t) ≤ weighed (frequencies t) (word_units t)
unfolding kept decorated
kept_light t = kept_with_light (seeds t) t.prefix t.suffix (frequencies t) (word_units t)

pub words_light : (t : Task) (ms : List Merge) (k : ℕ) → symbols_in (words_after t ms k) ≤ symbols_in (kept t)
unfolding words_after
words_light t ms zero = omega arith
words_light t ms (suc k) =
    let h = words_light t ms k in
    omega (arith, symbols_rewrite (merge_at ms k).left (merge_at ms k).right (length (seeds t) + k) (words_after t ms k))

-- so no count passes the weight, and no saving
pub saving_light : (t : Task) (ms : List Merge) → Demand t ms → (k : ℕ) → k < length ms → (merge_at ms k).saved ≤ weighed (frequencies t) (word_units t)
unfolding saving
saving_light t ms d k h =
    omega (arith, (d.made k h).saving_is, count_symbols (merge_at ms k).left (merge_at ms k).right (words_after t ms k), words_light t ms k, kept_light t)

-- READING BACK: what fits its width at each place
saved_under : (m : ℕ) (ms : List Merge) → ((k : ℕ) → k < length ms → (merge_at ms k).saved < m) → Under m (map (λ m. m.saved) ms)
unfolding Under
saved_under m [] h = tt
saved_under m (x ∷ ms) h = (h 0 (omega arith), saved_under m ms (λ k l. h (suc k) (omega arith)))

-- the two numbers of each merge
unfoldable pub pairs : List Merge → List ℕ
pairs ms = flat_map (λ m. m.left ∷ m.right ∷ []) ms

pairs_under : (m : ℕ) (ms : List Merge) → ((k : ℕ) → k < length ms → ((merge_at ms k).left < m) × ((merge_at ms k).right < m)) → Under m (pairs ms)
unfolding pairs flat_map Under
pairs_under m [] h = tt
pairs_under m (x ∷ ms) h = ((h 0 (omega arith)).0, ((h 0 (omega arith)).1, pairs_under m ms (λ k l. h (suc k) (omega arith))))

pairs_bytes : (ms : List Merge) → merge_bytes ms ≡ spell_all 4 (pairs ms)
unfolding merge_bytes spell_all pairs flat_map
pairs_bytes [] = refl
pairs_bytes (m ∷ ms) = rw (append_assoc (spell 4 m.left) (spell 4 m.right) (merge_bytes ms), pairs_bytes ms)

-- THE MERGES AND SAVINGS OF A SUCCESS are read back from the fronts of their rooms; and the reader finds its pieces
module _ (t : Task) (r : Rooms) (long : 64 ≤ length r.answer) (z : (verdict t r).number ≡ 0) where
  abbrev ms : List Merge
  ms = trained t

  pub merges_back : numbers 4 (take (8 * length ms) (train_outcome t r).rooms.merges) ≡ pairs ms
  merges_back =
      let a = (accepts t r z).0 in
      let d = demand_accepted t r a in
      let e = (writes_answer t r long z).merges.front in
      let under : (k : ℕ) → k < length ms → ((merge_at ms k).left < 256 ^ 4) × ((merge_at ms k).right < 256 ^ 4) = λ k h.
      let b = merge_below t ms d k h in
      let f = d.fits in
      let s = (limited t r a).size in
      omega arith in
      rw (← length-merge_bytes ms, e, pairs_bytes ms) (numbers_back 4 (pairs ms) (omega arith) (pairs_under (256 ^ 4) ms under))

  pub savings_back : numbers 8 (take (8 * length ms) (train_outcome t r).rooms.savings) ≡ map (λ m. m.saved) ms
  unfolding saving_bytes
  savings_back =
      let a = (accepts t r z).0 in
      let d = demand_accepted t r a in
      let e = (writes_answer t r long z).savings.front in
      let under : (k : ℕ) → k < length ms → (merge_at ms k).saved < 256 ^ 8 = λ k h.
      let b = saving_light t ms d k h in
      let l = light t r a in
      omega arith in
      rw (← length-saving_bytes ms, e) (numbers_back 8 (map (λ m. m.saved) ms) (omega arith) (saved_under (256 ^ 8) ms under))

  pub pieces_found : (n : ℕ) → n < length (all_pieces t)
      → look_up (take (length (piece_bytes (all_pieces t))) (train_outcome t r).rooms.pieces) (take (4 * length (all_pieces t)) (train_outcome t r).rooms.piece_ends) n
      ≡ says 0 (piece_start (piece_records (all_pieces t)) n ∷ piece_length (piece_records (all_pieces t)) n ∷ [])
  unfolding all_pieces
  pieces_found n h =
      let a = (accepts t r z).0 in
      let f = (demand_accepted t r a).fits in
      let s = (limited t r a).size in
      let w = writes_answer t r long z in
      let e = w.piece_ends.front in
      let few : length (all_pieces t) ≤ 16777216 = simp (length-append, length-map) (omega arith) in
      rw (w.pieces.front, ← length-piece_records (all_pieces t), e) (layout_found (all_pieces t) (fits t r a.output).small n h few)
