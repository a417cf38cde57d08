-- A word while it is rewritten: what is written and what is still to be read are one list of symbols, which the states of the pairs follow.
use Rattle.std.specs.Prelude.{◌≡◌, Option, List, ◌∷◌, ◌++◌, ℕ, ◌+◌, ◌-◌, ◌*◌, ◌<◌, ◌≤◌, length, drop}
use Rattle.runs.specs.Parts.{nth, put, part, laid, Kept}
use Rattle.rule.specs.Rewriting.{before, after, rewrite}
use Rattle.rule.specs.Seeding.{Entry}
use Rattle.rule.specs.Sums.{Under}
use Rattle.step.specs.Step.{standing, reports_of}
use Rattle.step.specs.declared.Step.{Step}
use Rattle.word.specs.Layout.{symbols_at, entry_at, words_in}
use Rattle.word.specs.declared.WordSet.{WordSet}
use Rattle.merge.specs.Cells.{Run, Rewritten}
use Rattle.states.specs.State.{key}
use Rattle.states.specs.Tracking.{Tracks, Gaining, last_of, with_word}
use Rattle.pairs.specs.View.{state, made}
use Rattle.pairs.specs.Pairs.{Pairing}
use Rattle.pairs.specs.declared.Pairs.{Pairs}
use Rattle.reports.specs.Reports.{beyond, Listing, Staying, CanReport, ReportDone}
use Rattle.joining.specs.Joining.{Midway}
use Rattle.joining.specs.declared.Joined.{Joined}

-- where word k lies, and how many symbols it has
abbrev pub spot : WordSet → ℕ → List ℕ → ℕ
spot w k cs = nth cs (w.starts + k)

abbrev pub size : WordSet → ℕ → List ℕ → ℕ
size w k cs = nth cs (nth cs (w.starts + k) + 1)

-- its symbols and its frequency
abbrev pub word_of : WordSet → ℕ → List ℕ → Entry
word_of w k cs = entry_at (words_in w cs) k

-- the cells below a place as they are, and the others as they were: so the words of a set that lies below are seen alone
unfoldable pub beneath : ℕ → List ℕ → List ℕ → List ℕ
beneath base cs ds = laid cs 0 (part 0 base ds)

-- A STEP IS TOLD: the reports of one that rewrites are applied, and one that keeps a symbol changes nothing
abbrev pub CanTell : ℕ → ℕ → ℕ → Pairs → ℕ → Step → ℕ → List ℕ → Type 0
CanTell a b x p n st f cs = st.took ≡ 2 → CanReport p n (reports_of a b x st) f cs

pub record Told (a b x : ℕ) (p : Pairs) (n : ℕ) (st : Step) (f k : ℕ) (cs ds : List ℕ) (m : ℕ) : Type 0 where
  pub hit : st.took ≡ 2 → ReportDone p n (reports_of a b x st) f k cs ds m
  pub keep : (st.took ≡ 2 → ⊥) → (ds ≡ cs) × (m ≡ n)

-- THE TWO KINDS OF A STEP at the front of the symbols l: one is kept, or an occurrence is rewritten
pub record Keeps (l : List ℕ) (st : Step) : Type 0 where
  pub took : st.took ≡ 1
  pub front : l ≡ st.symbol ∷ drop 1 l

pub record Hits (a b x : ℕ) (previous : Option ℕ) (l : List ℕ) (st : Step) : Type 0 where
  pub took : st.took ≡ 2
  pub front : l ≡ a ∷ b ∷ drop 2 l
  pub symbol : st.symbol ≡ x
  pub tells : reports_of a b x st ≡ before a x (standing previous) ++ after b x (drop 2 l)

-- THE STATES FOLLOW word k, which has the symbols l now, of the words in cs; n pairs were touched then, and m are now. Each symbol that is gone pays for
-- two entries and four touches
pub record Following (a b x : ℕ) (w : WordSet) (p : Pairs) (k n m : ℕ) (l cs ds : List ℕ) : Type 0 where
  pub ok : Pairing p ds
  pub tracks : Tracks (state p ds) (key a b) (with_word k l (words_in w cs))
  pub gaining : Gaining (state p ds) x
  pub listing : Listing p (key a b) m ds
  pub under : Under (x + 1) l
  pub fewer : length l ≤ length (word_of w k cs).symbols
  pub space : made p ds + 2 * length l ≤ made p cs + 2 * length (word_of w k cs).symbols
  pub places : m + 4 * length l ≤ n + 4 * length (word_of w k cs).symbols
  pub list : (state p ds (key a b)).words ≡ (state p cs (key a b)).words
  pub records : Staying p cs ds
  pub kept : Kept w.low (beyond p) cs ds

-- WHILE IT IS REWRITTEN: its cells, seen alone, are as in any such run, and the states follow what is written and what is still to be read
pub record Running (a b x : ℕ) (w : WordSet) (p : Pairs) (k n start long f kept at left m : ℕ) (previous : Option ℕ) (cs ds : List ℕ) : Type 0 where
  pub midway : Midway a b x w p n cs
  pub low : k < w.count
  pub place : start ≡ spot w k cs + 2
  pub many : long ≡ size w k cs
  pub weight : f ≡ (word_of w k cs).frequency
  pub run : Run a b x start long kept at left cs (beneath p.base cs ds)
  pub follows : Following a b x w p k n m (symbols_at start kept (beneath p.base cs ds) ++ symbols_at at left (beneath p.base cs ds)) cs ds
  pub last : standing previous ≡ last_of (symbols_at start kept (beneath p.base cs ds))

-- word k is rewritten but for its length: it has `kept` symbols, and m pairs are touched
pub record Ran (a b x : ℕ) (w : WordSet) (p : Pairs) (k n kept m : ℕ) (cs ds : List ℕ) : Type 0 where
  pub cells_are : Rewritten a b x (spot w k cs + 2) (size w k cs) cs (beneath p.base cs ds) kept
  pub follows : Following a b x w p k n m (rewrite a b x (word_of w k cs).symbols) cs ds

-- THE LENGTH IS PUT, before the symbols from the cell `start` on: `kept` of the `long` that there were
pub record CanShorten (w : WordSet) (start long kept : ℕ) (cs : List ℕ) : Type 0 where
  pub some : 1 ≤ start
  pub room : start ≤ length cs
  pub fewer : kept ≤ long
  pub live : long - kept ≤ w.live

pub record Shortened (w : WordSet) (start long kept m : ℕ) (cs ds : List ℕ) (r : Joined) : Type 0 where
  pub is : ds ≡ put cs (start - 1) kept
  pub joined : r ≡ record {
    words = record { starts = w.starts; count = w.count; low = w.low; top = w.top; live = w.live - (long - kept) };
    touched = m;
  }
