-- A turn by its outcomes, and the run of turns. Assumes nothing.
use mathlib.Core.Path.{◌≡◌, refl, sym, ap, ◌∙◌}
use mathlib.Core.Bool.{true, false}
use mathlib.Core.List.{List}
use Rattle.std.proofs.Common.{Option, Some, None, ControlFlow, Continue, Break}
use Prim.Native.Nat.{ℕ, ◌+◌, ◌-◌, ◌<◌, ◌≤◌}
use native.Mathlib.Omega.{arith}
use Rattle.runs.proofs.Parts.{below_or_not}
use Rattle.rule.specs.Training.{count, within, limits}
use Rattle.lazy.proofs.Order.{differ}
use Rattle.queue.specs.declared.Candidate.{Candidate}
use Rattle.queue.specs.Heap.{Pushed, Popped}
use Rattle.states.specs.State.{left_of, right_of, OfPair}
use Rattle.pairs.specs.View.{behind, state}
use Rattle.pairs.specs.Pairs.{Pairing}
use Rattle.waiting.specs.Waiting.{waits}
use Rattle.word.specs.Layout.{words_in}
use Rattle.engine.specs.declared.Engine.{Engine}
use Rattle.choosing.specs.Choosing.{CanChoose, NextDone}
use Rattle.choosing.specs.Turns.{renewed, Corrected, Counts, Blocked, Headed, Going, TurnDone, Run}
use Rattle.choosing.specs.declared.Next.{Next}
use Rattle.states.proofs.Keys.{pair_pos}
use Rattle.choosing.proofs.Frames.{live_exact, view_behind, engaged_behind, view_blocked, engaged_blocked}
use Rattle.choosing.proofs.Queues.{queued_turns, queued_known, queued_low, queued_chosen, waiting_popped, waiting_pair, waiting_kept, waiting_drop, waiting_again, waiting_none}

-- THE HEAD IS TAKEN
pub headed : {g : Engine} {x : ℕ} {prefix : List ℕ} {limit : ℕ} {ps : List (List ℕ)} {e : Candidate} {cs ds : List ℕ} → CanChoose g x prefix limit ps cs
    → Popped g.queue g.waiting e cs ds → Headed g x prefix limit ps e cs ds
headed c p = record {
  engaged = engaged_behind c.engaged p.kept;
  view = view_behind c.engaged p.kept;
  long = p.kept.long;
  numbers = c.numbers;
  pair = waiting_pair c.waiting p;
  waiting = waiting_popped c.waiting p;
}

module _ {g : Engine} {x : ℕ} {prefix : List ℕ} {limit : ℕ} {ps : List (List ℕ)} {e : Candidate} {cs ds : List ℕ} (s : Headed g x prefix limit ps e cs ds) where
  -- what its functions ask
  pub head_pairing : (Pairing g.pairs ds) × (0 < e.key)
  head_pairing = (s.engaged.ok, pair_pos e.key s.pair)

  pub head_pair : OfPair e.key
  head_pair = s.pair

  pub head_turns : 1 ≤ g.turns
  head_turns = queued_turns s.waiting.queued

  head_known : (left_of e.key < x) × (right_of e.key < x)
  unfolding waits
  head_known =
      let k = queued_known s.waiting.queued in
      let n = s.numbers in
      (rw n at k.0, rw n at k.1)

  pub within_asks : {a b : ℕ} → a ≡ left_of e.key → b ≡ right_of e.key → (a < x) × (b < x)
  within_asks ea eb = (rw ea head_known.0, rw eb head_known.1)

  -- its count now
  head_exact : (v : ℕ) → v ≡ (state g.pairs ds e.key).count → v ≡ count (left_of e.key) (right_of e.key) (words_in g.words cs)
  head_exact v i = i ∙ live_exact e.key s.engaged.tracks s.pair ∙ ap (count (left_of e.key) (right_of e.key)) s.view

  module _ (v : ℕ) (i : v ≡ (state g.pairs ds e.key).count) where
    -- STALE: corrected
    pub turn-stale : (least : ℕ) {n : ℕ} {fs : List ℕ} {h : Engine} → (v ≡ e.count → ⊥) → Corrected g.queue (g.waiting - 1) v e.key ds fs n
        → h ≡ renewed g n (g.turns - 1) → TurnDone (Continue h) g x prefix limit least ps cs fs
    unfolding TurnDone waits
    turn-stale least {n} {fs} {h} ne k r =
        rw r (below_or_not 0 v (λ l. again (k.again l).0 (k.again l).1) (λ l. let z = k.gone (omega arith) in rw (z.0, z.1) (gone (omega arith))))
      where
        again : Pushed g.queue (g.waiting - 1) (record { count = v; key = e.key }) ds fs → n ≡ g.waiting - 1 + 1
            → Going g x prefix limit ps cs fs (renewed g n (g.turns - 1))
        again p z = record {
          can = record {
            engaged = engaged_behind s.engaged p.kept;
            numbers = s.numbers;
            waiting = rw (view_behind s.engaged p.kept, s.view, z) (waiting_again v s.pair ne (head_exact v i) p s.waiting);
          };
          view = view_behind s.engaged p.kept ∙ s.view;
          long = p.kept.long ∙ s.long;
          less = omega (arith, head_turns);
        }

        gone : v ≡ 0 → Going g x prefix limit ps cs ds (renewed g (g.waiting - 1) (g.turns - 1))
        gone z = record {
          can = record {
            engaged = s.engaged;
            numbers = s.numbers;
            waiting = rw s.view (waiting_drop (λ f o. omega (arith, head_exact v i, z)) s.waiting);
          };
          view = s.view;
          long = s.long;
          less = omega (arith, head_turns);
        }

    -- a pair that counts enough has a record
    pub head_counts : (least : ℕ) → 1 ≤ least → least ≤ v → Counts g.pairs e.key ds
    head_counts least o h = record { ok = head_pairing.0; pos = head_pairing.1; some = omega (arith, i) }

    module _ (fresh : v ≡ e.count) where
      -- BELOW THE MINIMUM: no pair may be merged
      pub turn_low : (least : ℕ) → v < least → TurnDone (Break None) g x prefix limit least ps cs ds
      unfolding TurnDone NextDone waits
      turn_low least l t = queued_low s.waiting.queued least (rw fresh at l) t

      module _ (least : ℕ) (enough : least ≤ v) (a b : ℕ) (ea : a ≡ left_of e.key) (eb : b ≡ right_of e.key) where
        -- WITHIN THE LIMIT: the pair of demand 3
        pub turn-pair : {h : Engine} → true ≡ within (limits prefix limit) ps a b → h ≡ renewed g (g.waiting - 1) g.turns
            → TurnDone (Break (Some (record { engine = h; left = a; right = b; count = v }))) g x prefix limit least ps cs ds
        unfolding TurnDone NextDone waits
        turn-pair {h} f r = rw r (record {
          engaged = s.engaged;
          view = s.view;
          long = s.long;
          times_is = rw (ea, eb) (head_exact v i);
          enough = enough;
          left = rw ea head_known.0;
          right = rw eb head_known.1;
          chosen = rw (ea, eb) (queued_chosen s.waiting.queued least (sym (head_exact v i) ∙ fresh) (rw fresh at enough) (rw (ea, eb) at (sym f)));
          entry = waits e;
          left_is = sym ea;
          right_is = sym eb;
          waiting = s.waiting;
        })

        -- OVER-LONG: skipped for good
        pub turn_long : {h : Engine} {fs : List ℕ} → false ≡ within (limits prefix limit) ps a b → Blocked g.pairs e.key ds fs
            → h ≡ renewed g (g.waiting - 1) (g.turns - 1) → TurnDone (Continue h) g x prefix limit least ps cs fs
        unfolding TurnDone waits
        turn_long {h} {fs} f k r = rw r (record {
          can = record {
            engaged = engaged_blocked s.engaged k;
            numbers = s.numbers;
            waiting =
                rw (view_blocked s.engaged k, s.view)
                (waiting_drop (λ y _. differ (within (limits prefix limit) ps (left_of e.key) (right_of e.key)) y (rw (ea, eb) at (sym f)))
                (waiting_kept g.pairs.base (behind g.pairs) k.kept (omega (arith, s.engaged.behind)) s.waiting));
          };
          view = view_blocked s.engaged k ∙ s.view;
          long = k.kept.long ∙ s.long;
          less = omega (arith, head_turns);
        })

-- THE RUN OF TURNS
module _ {g : Engine} {x : ℕ} {prefix : List ℕ} {limit : ℕ} {ps : List (List ℕ)} {cs : List ℕ} where
  pub run_start : CanChoose g x prefix limit ps cs → Run g x prefix limit ps cs g cs
  run_start c = record { can = c; view = refl; long = refl }

  module _ {h : Engine} {ds : List ℕ} (r : Run g x prefix limit ps cs h ds) where
    pub run_can : CanChoose h x prefix limit ps ds
    run_can = r.can

    pub run_on : (least : ℕ) (fs : List ℕ) (t : ControlFlow (Option Next) Engine) {k : Engine} → t ≡ Continue k → TurnDone t h x prefix limit least ps ds fs → Run g x prefix limit ps cs k fs
    unfolding TurnDone
    run_on least fs t {k} e d = go (rw e at d)
      where
        go : TurnDone (Continue k) h x prefix limit least ps ds fs → Run g x prefix limit ps cs k fs
        go w = record { can = w.can; view = w.view ∙ r.view; long = w.long ∙ r.long }

    answered : (least : ℕ) (fs : List ℕ) (n : Option Next) → NextDone n h x prefix limit least ps ds fs → NextDone n g x prefix limit least ps cs fs
    unfolding NextDone
    answered least fs (Some k) p = record {
      engaged = p.engaged;
      view = p.view ∙ r.view;
      long = p.long ∙ r.long;
      times_is = p.times_is ∙ ap (count k.left k.right) r.view;
      enough = p.enough;
      left = p.left;
      right = p.right;
      chosen = rw (← r.view) p.chosen;
      entry = p.entry;
      left_is = p.left_is;
      right_is = p.right_is;
      waiting = rw (← r.view) p.waiting;
    }
    answered least fs None p = rw (← r.view) p

    pub run_answer : (least : ℕ) (fs : List ℕ) (t : ControlFlow (Option Next) Engine) (n : Option Next) → t ≡ Break n → TurnDone t h x prefix limit least ps ds fs
        → NextDone n g x prefix limit least ps cs fs
    unfolding TurnDone
    run_answer least fs t n e d = answered least fs n (rw e at d)

    pub run_none : (least : ℕ) → h.waiting ≤ 0 → NextDone None g x prefix limit least ps cs ds
    unfolding NextDone
    run_none least z t l m = rw (← r.view) (waiting_none z r.can.waiting t l)

-- a turn less
pub turn-less : (g : Engine) (x : ℕ) (prefix : List ℕ) (limit least : ℕ) (ps : List (List ℕ)) (cs ds : List ℕ) (t : ControlFlow (Option Next) Engine) (h : Engine) → t ≡ Continue h
    → TurnDone t g x prefix limit least ps cs ds
    → h.turns < g.turns
unfolding TurnDone
turn-less g x prefix limit least ps cs ds t h e d = go (rw e at d)
  where
    go : Going g x prefix limit ps cs ds h → h.turns < g.turns
    go w = w.less
