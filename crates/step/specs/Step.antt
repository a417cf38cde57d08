-- One step of rewriting (a,b) to x: an occurrence is rewritten, or one symbol is kept; and what a step at the front of a word has to be.
use Rattle.std.specs.Prelude.{◌≡◌, Bool, false, cond, List, [], ◌∷◌, ◌++◌, ℕ, ◌+◌, ◌-◌, ◌*◌, ◌≤◌, length, drop, Option, Some, None, slice_get}
use Rattle.std.proofs.Math.Option as maybe
use Rattle.runs.specs.Parts.{nth}
use Rattle.rule.specs.Rewriting.{is_pair, cut, out, hits, Report, before, after, reports_from}
use Rattle.step.specs.declared.Step.{Step}

-- an occurrence is rewritten; a symbol is kept
abbrev pub rewrites_to : ℕ → Option ℕ → Option ℕ → Step
rewrites_to x previous next = record { symbol = x; took = 2; behind = previous; ahead = next }

abbrev pub keeps : ℕ → Step
keeps s = record { symbol = s; took = 1; behind = None; ahead = None }

-- s and the symbol that follows it, if one does, are the pair (a,b)
unfoldable pub starts_pair : ℕ → ℕ → ℕ → Option ℕ → Bool
starts_pair a b s None = false
starts_pair a b s (Some t) = is_pair a b s t

-- "goes left to right without overlap": by the next three symbols, as far as there are any
unfoldable pub step_by : ℕ → ℕ → ℕ → Option ℕ → ℕ → Option ℕ → Option ℕ → Step
step_by a b x previous s t u = cond (starts_pair a b s t) (rewrites_to x previous u) (keeps s)

-- at the front of a list of symbols
unfoldable pub step_of : ℕ → ℕ → ℕ → Option ℕ → List ℕ → Step
step_of a b x previous l = step_by a b x previous (nth l 0) (slice_get l 1) (slice_get l 2)

-- "if a symbol stands before it", "if a symbol follows"
abbrev pub standing : Option ℕ → maybe.Option ℕ
standing None = maybe.none
standing (Some p) = maybe.some p

abbrev pub following : Option ℕ → List ℕ
following None = []
following (Some n) = n ∷ []

-- the reports that a step tells, at most four
unfoldable pub reports_of : ℕ → ℕ → ℕ → Step → List Report
reports_of a b x st = before a x (standing st.behind) ++ after b x (following st.ahead)

-- what a step at the front of the symbols l makes of the definitions: the same for a symbol kept and an occurrence rewritten
pub record StepAt (a b x : ℕ) (previous : Option ℕ) (l : List ℕ) (st : Step) : Type 0 where
  pub least : 1 ≤ st.took
  pub most : st.took ≤ 2
  pub within : st.took ≤ length l
  pub outs : out x (cut a b l) ≡ st.symbol ∷ out x (cut a b (drop st.took l))
  pub tells : reports_from a b x (standing previous) (cut a b l) ≡ reports_of a b x st ++ reports_from a b x (maybe.some st.symbol) (cut a b (drop st.took l))
  pub hit : hits (cut a b l) ≡ (st.took - 1) + hits (cut a b (drop st.took l))
  pub few : length (reports_of a b x st) ≤ 2 * st.took
