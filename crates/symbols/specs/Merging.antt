-- What merging answers and leaves in its two runs; and how far its two passes have come.
use Rattle.std.specs.Prelude.{◌≡◌, ℕ, ◌+◌, ◌*◌, ◌/◌, ◌≤◌, length, drop, Option, Result, Ok, Err}
use mathlib.Core.List.{List, [], ◌∷◌, flat_map}
use Rattle.runs.specs.Parts.{laid}
use Rattle.numbers.specs.Little.{numbers}
use Rattle.rule.specs.Shapes.{spell_all}
use Rattle.rule.specs.Rewriting.{cut, out, reports_from, rewrite, reports}
use Rattle.rule.specs.Refusals.{Verdict, says}
use Rattle.rule.specs.Outcome.{report_bytes, merge_verdict, merge_outcome}
use Rattle.error.specs.Answers.{merge_error_verdict}
use Rattle.step.specs.Step.{standing}
use Rattle.symbols.specs.Writing.{Writes}
use Rattle.error.specs.declared.MergeError.{MergeError}
use Rattle.symbols.specs.declared.Merged.{Merged}

-- "merging's gives rewrites, symbols kept and reports"; a refusal is as `error` has it
unfoldable pub verdict_of : Result Merged MergeError → Verdict
verdict_of (Ok m) = says 0 (m.rewrites ∷ m.kept ∷ m.reports ∷ [])
verdict_of (Err e) = merge_error_verdict e

-- THE CONTRACT: the verdict is document 01's, and the two runs are at exit what its outcome says of them, whatever run is lent for
-- the answer (a run under 64 bytes is refused before)
pub record Merging (s : List ℕ) (a b x : ℕ) (c : List ℕ) (m : Result Merged MergeError) (s' c' : List ℕ) : Type 0 where
  pub answered : verdict_of m ≡ merge_verdict s a b x c
  pub symbols : (answer : List ℕ) → 64 ≤ length answer → s' ≡ (merge_outcome s a b x c answer).symbols
  pub changes : (answer : List ℕ) → 64 ≤ length answer → c' ≡ (merge_outcome s a b x c answer).changes

-- the first pass: of the word w the symbols before i are read
pub record Counting (a b x : ℕ) (w : List ℕ) (i count : ℕ) (previous : Option ℕ) : Type 0 where
  pub counted : count + length (reports_from a b x (standing previous) (cut a b (drop i w))) ≡ length (reports a b x w)
  pub within : i ≤ length w
  pub few : count ≤ 2 * i

-- the second pass: the runs s and c have become s' and c', the symbols before i are read, and k of the new word are written
pub record Going (a b x : ℕ) (s c s' c' : List ℕ) (i k at : ℕ) (previous : Option ℕ) : Type 0 where
  pub word : Writes (spell_all 4 (rewrite a b x (numbers 4 s))) s s' (k * 4) (spell_all 4 (out x (cut a b (drop i (numbers 4 s)))))
  pub told : Writes (flat_map report_bytes (reports a b x (numbers 4 s))) c c' at
      (flat_map report_bytes (reports_from a b x (standing previous) (cut a b (drop i (numbers 4 s)))))
  pub within : i ≤ length s / 4
  pub behind : k ≤ i
  pub long_word : length s' ≡ length s
  pub long_told : length c' ≡ length c

-- what the second pass leaves
pub record Rewrote (a b x : ℕ) (s c s' c' : List ℕ) (kept : ℕ) : Type 0 where
  pub word : s' ≡ laid s 0 (spell_all 4 (rewrite a b x (numbers 4 s)))
  pub told : c' ≡ laid c 0 (flat_map report_bytes (reports a b x (numbers 4 s)))
  pub many : kept ≡ length (rewrite a b x (numbers 4 s))
  pub few : kept ≤ length s / 4
  pub long_word : length s' ≡ length s
  pub long_told : length c' ≡ length c
