-- One turn: the head of the queue is taken, and asked whether it is stale, counts enough, and is within the limit.
use Rattle.std.specs.Prelude.{◌≡◌, Option, true, List, [], ◌∷◌, ℕ, ◌+◌, ◌-◌, ◌<◌, ◌≤◌, length}
use Rattle.std.specs.declared.ops.ControlFlow.{ControlFlow}
use Rattle.std.specs.declared.ops.ControlFlow.TheVariants.{Continue, Break}
use Rattle.runs.specs.Parts.{Kept}
use Rattle.queue.specs.declared.Candidate.{Candidate}
use Rattle.queue.specs.Heap.{Pushed}
use Rattle.marks.specs.Marks.{blocked, marking}
use Rattle.states.specs.State.{State, OfPair, Change}
use Rattle.pairs.specs.View.{behind, state, made}
use Rattle.pairs.specs.Pairs.{Pairing}
use Rattle.pairs.specs.declared.Pairs.{Pairs}
use Rattle.waiting.specs.Waiting.{waits}
use Rattle.engine.specs.Engine.{Engaged, Waiting}
use Rattle.word.specs.Layout.{words_in}
use Rattle.engine.specs.declared.Engine.{Engine}
use Rattle.choosing.specs.Choosing.{CanChoose, NextDone}
use Rattle.choosing.specs.declared.Next.{Next}

-- the engine with other numbers of candidates and turns
abbrev pub renewed : Engine → ℕ → ℕ → Engine
renewed g m k = record { words = g.words; pairs = g.pairs; queue = g.queue; waiting = m; turns = k }

-- A STALE ENTRY is dropped where its pair is gone, else it waits again with its count now
pub record Corrected (q m times key : ℕ) (was is : List ℕ) (n : ℕ) : Type 0 where
  pub gone : times ≡ 0 → (is ≡ was) × (n ≡ m)
  pub again : 0 < times → Pushed q m (record { count = times; key = key }) was is × (n ≡ m + 1)

-- a pair that counts
pub record Counts (p : Pairs) (k : ℕ) (cs : List ℕ) : Type 0 where
  pub ok : Pairing p cs
  pub pos : 0 < k
  pub some : 1 ≤ (state p cs k).count

-- A PAIR BLOCKED: its mark is set, and nothing else has changed
abbrev pub barred : State → State
barred s = record { count = s.count; marks = marking blocked true s.marks; words = s.words }

pub record Blocked (p : Pairs) (k : ℕ) (was is : List ℕ) : Type 0 where
  pub ok : Pairing p is
  pub change : Change k (barred (state p was k)) (state p was) (state p is)
  pub kept : Kept p.base (behind p) was is
  pub same : made p is ≡ made p was

-- THE HEAD IS TAKEN: the entry e stands outside of the queue, and all else is as it was
pub record Headed (g : Engine) (x : ℕ) (prefix : List ℕ) (limit : ℕ) (ps : List (List ℕ)) (e : Candidate) (was is : List ℕ) : Type 0 where
  pub engaged : Engaged g.words g.pairs g.queue x is
  pub view : words_in g.words is ≡ words_in g.words was
  pub long : length is ≡ length was
  pub numbers : length ps ≡ x
  pub pair : OfPair e.key
  pub waiting : Waiting g.queue (g.waiting - 1) g.turns g.pairs.most prefix limit ps (words_in g.words was) (waits e ∷ []) is

-- THE RUN GOES ON, with a turn less
pub record Going (g : Engine) (x : ℕ) (prefix : List ℕ) (limit : ℕ) (ps : List (List ℕ)) (cs ds : List ℕ) (h : Engine) : Type 0 where
  pub can : CanChoose h x prefix limit ps ds
  pub view : words_in h.words ds ≡ words_in g.words cs
  pub long : length ds ≡ length cs
  pub less : h.turns < g.turns

-- WHAT A TURN TELLS
unfoldable pub TurnDone : ControlFlow (Option Next) Engine → Engine → ℕ → List ℕ → ℕ → ℕ → List (List ℕ) → List ℕ → List ℕ → Type 0
TurnDone (Continue h) g x prefix limit least ps cs ds = Going g x prefix limit ps cs ds h
TurnDone (Break r) g x prefix limit least ps cs ds = NextDone r g x prefix limit least ps cs ds

-- THE RUN OF TURNS: the engine h now has the words that g had at the start
pub record Run (g : Engine) (x : ℕ) (prefix : List ℕ) (limit : ℕ) (ps : List (List ℕ)) (cs : List ℕ) (h : Engine) (ds : List ℕ) : Type 0 where
  pub can : CanChoose h x prefix limit ps ds
  pub view : words_in h.words ds ≡ words_in g.words cs
  pub long : length ds ≡ length cs
