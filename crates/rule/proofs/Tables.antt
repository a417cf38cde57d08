-- Examples as data: an input and what is to come of it, in bytes, and one test that computes.
use mathlib.Core.Bool.{Bool, true, false, ◌&&◌}
use mathlib.Core.List.{List, [], ◌∷◌, ◌++◌, flat_map}
use Prim.Native.Nat.{ℕ, ◌-◌, ◌/◌, ◌%◌}
use lib.Dec.{eqb}
use lib.ListN.{length, replicate}
use Rattle.runs.specs.Parts.{part, laid, zeros}
use Rattle.order.specs.Order.{compared, same}
use Rattle.numbers.specs.Little.{little, spell, load, loads, numbers}
use Rattle.rfc3629.specs.Rows.{within as in_range, heads, tails, follow, by_lead, char_len}
use Rattle.rfc3629.specs.Cut.{goes_on, well_formed, unit_len, units_in, units_by, seeded}
use Rattle.rule.specs.Shapes.{spell_all, parts, parts_by, ends_from, rise_to, shaped, is_below, below, some?, first, filled}
use Rattle.rule.specs.Table.{Task, Rooms, words, word_count, frequencies, alphabet, A, units, units_of, word_units, total, U, weighed, room_for, work_needed}
use Rattle.rule.specs.Spelling.{prefixed, suffixed, decorate, leads, strip_prefix, joined, measure}
use Rattle.rule.specs.Seeding.{decorated, number_of, intern, byte_values, insert, distinct, first_seeds, seeds, keep, kept_with, kept}
use Rattle.rule.specs.Rewriting.{cut, src, out, hits, before, after, reports_from, rewrite, rewrites, reports, link, count_in}
use Rattle.rule.specs.Training.{count, rewrite_all, saving, joined_of, within, best, candidates_in, candidates, choose, Merge, train_from, trained, all_pieces}
use Rattle.rule.specs.Layout.{piece_bytes, piece_records, merge_bytes, saving_bytes}
use Rattle.rule.specs.Refusals.{bad_shape, too_many, empty_corpus, no_frequency, zero_frequency, not_above, misplaced, out_of_order, too_heavy, work_room, seed_room, vocab_too_small, output_room, success, judge, verdict}
use Rattle.rule.specs.Outcome.{told, wiped, written, refused_with, cleared, untouched, rooms_after, Outcome, train_outcome, report_bytes, merge_verdict, Merged, merge_outcome}

-- small numbers in 4 and 8 bytes, the low byte first
abbrev pub four : ℕ → List ℕ
four n = n % 256 ∷ n / 256 ∷ 0 ∷ 0 ∷ []

abbrev pub eight : ℕ → List ℕ
eight n = four n ++ (0 ∷ 0 ∷ 0 ∷ 0 ∷ [])

abbrev pub flat : List (List ℕ) → List ℕ
flat ls = flat_map (λ l. l) ls

-- a run of lent bytes, none of them 0
abbrev pub lent : ℕ → List ℕ
lent n = replicate n 7

-- words, the 8 bytes of each frequency, the initial alphabet, prefix, suffix, then seeding, vocabulary size, minimum frequency and length limit
abbrev pub task : List (List ℕ) → List (List ℕ) → List (List ℕ) → List ℕ → List ℕ → ℕ → ℕ → ℕ → ℕ → Task
task ws fs al prefix suffix seeding size least limit = record {
  word_bytes = flat ws;
  word_ends = flat_map four (ends_from 0 ws);
  frequency_bytes = flat fs;
  alphabet_bytes = flat al;
  alphabet_ends = flat_map four (ends_from 0 al);
  prefix = prefix;
  suffix = suffix;
  seeding = seeding;
  vocab_size = size;
  min_frequency = least;
  max_piece_length = limit;
}

-- the rooms, with so many bytes of the work room missing; three of them are no whole numbers
abbrev pub rooms : ℕ → Task → Rooms
rooms missing t = record {
  work = lent (work_needed t - missing);
  pieces = lent 265;
  piece_ends = lent 1037;
  merges = lent 25;
  savings = lent 25;
  answer = lent 65;
}

-- what the output rooms hold: pieces, merges and savings and then 0, or what was there
pub data Found : Type 0 where
  answer : List (List ℕ) → List ℕ → List ℕ → Found
  as_before : Found

-- of training: the bytes missing, then number, numbers given and output rooms; of merging: symbols, numbers given, reports
pub data Example : Type 0 where
  training : Task → ℕ → ℕ → List ℕ → Found → Example
  merging : List ℕ → ℕ → ℕ → ℕ → List ℕ → List ℕ → List (List ℕ) → Example

-- these bytes stand at the front of a run, and all else is 0
unfoldable holds : List ℕ → List ℕ → Bool
holds [] [] = true
holds [] (n ∷ ns) = false
holds (r ∷ rs) [] = eqb r 0 && holds rs []
holds (r ∷ rs) (n ∷ ns) = eqb r n && holds rs ns

-- (the work room is left to `writes_answer`, `sets_to_zero` and `Writes-nothing`, which hold of every input)
unfoldable found : Found → Rooms → Rooms → Bool
found (answer ps ms ss) r o =
    holds o.pieces (flat ps)
    && holds o.piece_ends (flat_map four (ends_from 0 ps))
    && holds o.merges (flat_map four ms)
    && holds o.savings (flat_map eight ss)
found as_before r o =
    same o.pieces r.pieces
    && same o.piece_ends r.piece_ends
    && same o.merges r.merges
    && same o.savings r.savings

-- reports: left, right and 1 or -1
abbrev pub up : ℕ → ℕ → List ℕ
up p q = four p ++ four q ++ eight 1

abbrev pub down : ℕ → ℕ → List ℕ
down p q = four p ++ four q ++ replicate 8 255

-- training with its merges, and merging, as functions that compute
pub record Run : Type 0 where
  pub outcome : Outcome
  pub number : ℕ
  pub merges : List Merge

unfoldable pub run : Task → Rooms → Run
unfolding
    flat_map part laid zeros compared same little spell load loads numbers
    in_range heads tails follow by_lead char_len goes_on well_formed unit_len units_in units_by seeded
    spell_all parts parts_by ends_from rise_to shaped is_below below some? first filled
    words word_count frequencies alphabet A units units_of word_units total U weighed room_for work_needed
    prefixed suffixed decorate leads strip_prefix joined measure
    decorated number_of intern byte_values insert distinct first_seeds seeds keep kept_with kept
    cut out rewrite link count_in count rewrite_all saving joined_of within best candidates_in candidates choose train_from trained all_pieces
    piece_bytes piece_records merge_bytes saving_bytes
    bad_shape too_many empty_corpus no_frequency zero_frequency not_above misplaced out_of_order too_heavy work_room seed_room vocab_too_small output_room success judge verdict
    told wiped written refused_with cleared untouched rooms_after train_outcome
run t r = record { outcome = train_outcome t r; number = (verdict t r).number; merges = trained t }

unfoldable run_merge : List ℕ → ℕ → ℕ → ℕ → List ℕ → List ℕ → Merged
unfolding
    flat_map part laid zeros little spell load loads numbers spell_all filled
    cut src out hits before after reports_from rewrite rewrites reports
    told report_bytes merge_verdict merge_outcome
run_merge s a b x c into = merge_outcome s a b x c into

unfoldable pub passes : Example → Bool
unfolding found holds flat_map same run run_merge
passes (training t missing n given f) =
    let o = (run t (rooms missing t)).outcome in
    eqb o.returned n && holds o.rooms.answer (flat_map eight given) && found f (rooms missing t) o.rooms
passes (merging w a b x w' given qs) =
    let o = run_merge (flat_map four w) a b x (lent 80) (lent 65) in
    eqb o.returned 0
    && same o.symbols (flat_map four w')
    && same o.changes (flat qs ++ lent (80 - length (flat qs)))
    && holds o.answer (flat_map eight given)

unfoldable pub all : List Example → Bool
all [] = true
all (e ∷ es) = passes e && all es
