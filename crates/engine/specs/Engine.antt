-- What the rooms hold between two merges: the words, the states of the pairs that track them, and the queue of the lazy rule.
use Rattle.std.specs.Prelude.{◌≡◌, List, [], ◌∷◌, ◌++◌, ℕ, ◌+◌, ◌*◌, ◌^◌, ◌<◌, ◌≤◌, length}
use Rattle.runs.specs.Parts.{Kept}
use Rattle.rule.specs.Table.{Task}
use Rattle.rule.specs.Seeding.{Entry}
use Rattle.rule.specs.Sums.{AllUnder, symbols_in, in_use}
use Rattle.rule.specs.Training.{Choice, count, joined_of, rewrite_all}
use Rattle.lazy.specs.Sums.{potential}
use Rattle.lazy.specs.Invariant.{Inv}
use Rattle.queue.specs.declared.Candidate.{Candidate}
use Rattle.queue.specs.Holding.{In, Holds}
use Rattle.word.specs.Layout.{Words, words_in}
use Rattle.word.specs.declared.WordSet.{WordSet}
use Rattle.states.specs.State.{most, OfPair}
use Rattle.states.specs.Tracking.{Tracks, Calm, Weighed}
use Rattle.pairs.specs.View.{behind, state, made}
use Rattle.pairs.specs.Pairs.{Pairing, Empty}
use Rattle.pairs.specs.declared.Pairs.{Pairs}
use Rattle.reports.specs.Reports.{beyond}
use Rattle.waiting.specs.Waiting.{queue_of}
use Rattle.engine.specs.declared.Engine.{Engine}

-- THE STATES TRACK THE WORDS, where x pieces are made; behind the pair states is place for the queue, which begins at the cell q
pub record Engaged (w : WordSet) (p : Pairs) (q x : ℕ) (cs : List ℕ) : Type 0 where
  pub words : Words w cs
  pub apart : w.top ≤ p.base
  pub ok : Pairing p cs
  pub tracks : Tracks (state p cs) 0 (words_in w cs)
  pub calm : Calm (state p cs)
  pub few : x < most
  pub under : AllUnder x (words_in w cs)
  pub light : symbols_in (words_in w cs) < 2 ^ 53
  pub weighed : Weighed (words_in w cs)
  pub space : made p cs + 2 * w.live ≤ p.most
  pub behind : beyond p ≤ q
  pub room : q + 2 * p.most ≤ length cs

-- a task with this prefix and this limit
pub record Limits (t : Task) (prefix : List ℕ) (limit : ℕ) : Type 0 where
  pub prefix_is : t.prefix ≡ prefix
  pub limit_is : t.max_piece_length ≡ limit

-- what holds of a queue of the lazy rule, which may take k entries more and has place for `places`
pub record Queued (prefix : List ℕ) (limit : ℕ) (ps : List (List ℕ)) (es : List Entry) (places k : ℕ) (qu : List Choice) : Type 0 where
  pub inv : (t : Task) → Limits t prefix limit → Inv t ps es qu
  pub fuel : potential es qu ≤ k
  pub few : length qu + 2 * in_use es ≤ places

-- THE QUEUE of m candidates from the cell q on, but for the entries `taken` that stand outside of it (one that was taken out, or none)
pub record Waiting (q m k places : ℕ) (prefix : List ℕ) (limit : ℕ) (ps : List (List ℕ)) (es : List Entry) (taken : List Choice) (cs : List ℕ) : Type 0 where
  pub candidates : List Candidate
  pub holds : Holds candidates q m cs
  pub pairs : (f : Candidate) → In f candidates → OfPair f.key
  pub queued : Queued prefix limit ps es places k (taken ++ queue_of candidates)

-- THE START asks for words with place behind them, and three records for each symbol
pub record CanStart (w : WordSet) (p : Pairs) (x : ℕ) (cs : List ℕ) : Type 0 where
  pub words : Words w cs
  pub apart : w.top ≤ p.base
  pub few : x < most
  pub under : AllUnder x (words_in w cs)
  pub light : symbols_in (words_in w cs) < 2 ^ 53
  pub weighed : Weighed (words_in w cs)
  pub space : 3 * w.live ≤ p.most
  pub wide : p.most < p.cap
  pub narrow : p.cap ≤ 4294967296
  pub room : beyond p + 2 * p.most ≤ length cs

-- and gives every pair that occurs an entry
pub record Started (w : WordSet) (p : Pairs) (x : ℕ) (cs ds : List ℕ) (g : Engine) : Type 0 where
  pub engaged : Engaged g.words g.pairs g.queue x ds
  pub view : words_in g.words ds ≡ words_in w cs
  pub long : length ds ≡ length cs
  pub waiting : (prefix : List ℕ) (limit : ℕ) (ps : List (List ℕ)) → length ps ≡ x
      → Waiting g.queue g.waiting g.turns g.pairs.most prefix limit ps (words_in w cs) [] ds

-- A MERGE asks for the entry of (a,b), taken out of the queue, with its count
pub record CanJoin (g : Engine) (a b x : ℕ) (cs : List ℕ) : Type 0 where
  pub engaged : Engaged g.words g.pairs g.queue x cs
  pub left : a < x
  pub right : b < x
  pub some : 1 ≤ count a b (words_in g.words cs)
  pub next : x + 1 < most
  pub prefix : List ℕ
  pub limit : ℕ
  pub pieces : List (List ℕ)
  pub numbers : length pieces ≡ x
  pub entry : Choice
  pub left_is : entry.left ≡ a
  pub right_is : entry.right ≡ b
  pub waiting : Waiting g.queue g.waiting g.turns g.pairs.most prefix limit pieces (words_in g.words cs) (entry ∷ []) cs

-- and leaves the words rewritten, the states tracking them, and the queue with entries for the pairs that gained
pub record JoinDone (g : Engine) (a b x : ℕ) (cs ds : List ℕ) (h : Engine) : Type 0 where
  pub engaged : Engaged h.words h.pairs h.queue (x + 1) ds
  pub view : words_in h.words ds ≡ rewrite_all a b x (words_in g.words cs)
  pub long : length ds ≡ length cs
  pub waiting : (prefix : List ℕ) (limit : ℕ) (ps : List (List ℕ)) (e : Choice) (s : List ℕ) → length ps ≡ x → e.left ≡ a → e.right ≡ b
      → ((t : Task) → Limits t prefix limit → joined_of t ps a b ≡ s)
      → Waiting g.queue g.waiting g.turns g.pairs.most prefix limit ps (words_in g.words cs) (e ∷ []) cs
      → Waiting h.queue h.waiting h.turns h.pairs.most prefix limit (ps ++ (s ∷ [])) (rewrite_all a b x (words_in g.words cs)) [] ds

-- THE PARTS OF A START AND OF A MERGE

-- no pair is known, whatever stood in the cells
pub record CanClear (p : Pairs) (cs : List ℕ) : Type 0 where
  pub room : behind p ≤ length cs
  pub small : length cs < 2 ^ 61
  pub wide : p.most < p.cap
  pub narrow : p.cap ≤ 4294967296

pub record Cleared (p : Pairs) (cs ds : List ℕ) : Type 0 where
  pub empty : Empty p ds
  pub kept : Kept p.base (behind p) cs ds

-- the words without gaps, or as they were
pub record Tidied (w : WordSet) (cs ds : List ℕ) (r : WordSet) : Type 0 where
  pub set : Words r ds
  pub view : words_in r ds ≡ words_in w cs
  pub live_is : r.live ≡ w.live
  pub lower : r.top ≤ w.top
  pub kept : Kept w.starts w.top cs ds
