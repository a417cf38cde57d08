-- A start, stage by stage: cleared, counted, settled. Assumes nothing.
use mathlib.Core.Path.{◌≡◌, sym, ap, ◌∙◌}
use mathlib.Core.List.{List, []}
use mathlib.Core.Logic.{inl, inr}
use Prim.Native.Nat.{ℕ, ◌+◌, ◌-◌, ◌*◌, ◌<◌, ◌≤◌}
use native.Mathlib.Omega.{arith}
use lib.ListN.{length}
use Rattle.runs.specs.Parts.{nth, laid, zeros, Kept}
use Rattle.runs.proofs.Parts.{nth-laid, length-zeros, nth-zeros}
use Rattle.runs.proofs.Frames.{kept-laid, kept_wide, kept_then}
use Rattle.rule.specs.Sums.{AllUnder, in_use}
use Rattle.queue.proofs.Holding.{holds_none}
use Rattle.rule.proofs.Counts.{all_under_more}
use Rattle.word.specs.Layout.{Words, words_in}
use Rattle.word.specs.declared.WordSet.{WordSet}
use Rattle.word.proofs.Sets.{words-kept, corpus-kept}
use Rattle.states.specs.State.{State, most, OfPair}
use Rattle.states.specs.Tracking.{Tracks, Calm, Settled}
use Rattle.states.proofs.Tracks.{tracks_settled}
use Rattle.pairs.specs.View.{lists_at, behind, state}
use Rattle.pairs.specs.declared.Pairs.{Pairs}
use Rattle.pairs.proofs.Clients.{pairs_empty}
use Rattle.reports.specs.Reports.{beyond, keys_of}
use Rattle.reports.proofs.Listed.{keys_length}
use Rattle.waiting.specs.Waiting.{gainers}
use Rattle.waiting.proofs.Entered.{few_gainers}
use Rattle.waiting.proofs.Gained.{queue-seeds}
use Rattle.census.specs.Census.{CanCount, CountDone}
use Rattle.settling.specs.Settling.{CanSettle, SettleDone}
use Rattle.engine.specs.Engine.{Waiting, CanStart, Started, CanClear, Cleared}
use Rattle.engine.proofs.Queues.{queued_start, gainer_keys}

-- CLEARED CELLS
module _ (xs : List ℕ) (at n : ℕ) (h : at + n ≤ length xs) where
  fits : at + length (zeros n) ≤ length xs
  fits = rw (length-zeros n) h

  kept_cleared : Kept at (at + n) xs (laid xs at (zeros n))
  kept_cleared = rw (length-zeros n) at (kept-laid xs at (zeros n) fits)

  nth_cleared : (j : ℕ) → at ≤ j → j < at + n → nth (laid xs at (zeros n)) j ≡ 0
  nth_cleared j a b =
      let k : at + (j - at) ≡ j = omega arith in
      ap (nth (laid xs at (zeros n))) (sym k) ∙ nth-laid xs at (zeros n) fits (j - at) (omega (arith, length-zeros n)) ∙ nth-zeros n (j - at)

-- THE INDEX, the head of the records and the head of the lists
pub cleared : (p : Pairs) (cs ds es : List ℕ) (lists : ℕ) → CanClear p cs
    → ds ≡ laid cs p.base (zeros (2 * p.cap + 3)) → lists ≡ lists_at p → es ≡ laid ds lists (zeros 2) → Cleared p cs es
cleared p cs ds es lists h u e v' = record {
  empty = pairs_empty p es (omega (arith, h.room, long)) h.wide h.narrow (omega (arith, h.small, long))
      (λ j a b. second.same j (inl (omega arith)) ∙ rw u (nth_cleared cs p.base (2 * p.cap + 3) (omega (arith, h.room)) j a (omega arith)))
      (rw v (nth_cleared ds (lists_at p) 2 (omega (arith, h.room, first.long)) (lists_at p) (omega arith) (omega arith)))
      (rw v (nth_cleared ds (lists_at p) 2 (omega (arith, h.room, first.long)) (lists_at p + 1) (omega arith) (omega arith)));
  kept = kept_then (kept_wide p.base (behind p) (omega arith) (omega arith) first) (kept_wide p.base (behind p) (omega arith) (omega arith) second);
}
  where
    v : es ≡ laid ds (lists_at p) (zeros 2)
    v = rw e at v'

    first : Kept p.base (p.base + (2 * p.cap + 3)) cs ds
    first = rw u (kept_cleared cs p.base (2 * p.cap + 3) (omega (arith, h.room)))

    second : Kept (lists_at p) (lists_at p + 2) ds es
    second = rw v (kept_cleared ds (lists_at p) 2 (omega (arith, h.room, first.long)))

    long : length es ≡ length cs
    long = second.long ∙ first.long

-- where no pair is merged, settled states are calm
settled_calm : {σ τ : ℕ → State} → Settled 0 σ τ → Calm τ
settled_calm s = record { untouched = λ c z. s.untouched c z (λ e. omega arith); ungained = λ c z. s.ungained c z (λ e. omega arith) }

module _ (w : WordSet) (p : Pairs) (x : ℕ) (cs ds : List ℕ) (s : CanStart w p x cs) (c : Cleared p cs ds) where
  words_cleared : Words w ds
  words_cleared = words-kept w cs ds p.base (behind p) s.words c.kept (inr s.apart)

  view_cleared : words_in w ds ≡ words_in w cs
  view_cleared = corpus-kept w cs ds p.base (behind p) s.words c.kept (inr s.apart)

  under_most : AllUnder most (words_in w cs)
  under_most = all_under_more x most (omega (arith, s.few)) (words_in w cs) s.under

  -- CLEARED: the pairs can be counted
  pub count_can : CanCount w p ds
  count_can = record {
    words = words_cleared;
    apart = s.apart;
    empty = c.empty;
    room = omega (arith, s.room, c.kept.long);
    light = rw view_cleared s.light;
    below = rw view_cleared under_most;
    space = omega (arith, s.space);
  }

  -- COUNTED: they can be settled
  module _ (es : List ℕ) (n : ℕ) (d : CountDone w p ds es n) where
    words_counted : Words w es
    words_counted = words-kept w ds es p.base (beyond p) words_cleared d.kept (inr s.apart)

    view_counted : words_in w es ≡ words_in w cs
    view_counted = corpus-kept w ds es p.base (beyond p) words_cleared d.kept (inr s.apart) ∙ view_cleared

    tracks_counted : Tracks (state p es) 0 (words_in w cs)
    tracks_counted = rw view_cleared at d.tracks

    long_counted : length es ≡ length cs
    long_counted = d.kept.long ∙ c.kept.long

    few_counted : length (gainers (state p es) (keys_of p n es)) ≤ n
    few_counted =
        let l = keys_length p n es (omega (arith, d.listing.room, d.listing.few)) in
        omega (arith, few_gainers (state p es) (keys_of p n es))

    pub settle_can : (q : ℕ) → q ≡ beyond p → CanSettle p q 0 n es
    settle_can q e = rw e (record {
      ok = d.ok;
      e = 0;
      listing = d.listing;
      apart = omega arith;
      heap = (holds_none (beyond p) es d.listing.room words_counted.small).heap;
      room = omega (arith, few_counted, d.few, s.space, s.room, long_counted);
    })

    -- SETTLED: the engine stands, and every pair waits
    module _ (fs : List ℕ) (m : ℕ) (t : SettleDone p (beyond p) 0 n es fs m) where
      view_settled : words_in w fs ≡ words_in w cs
      view_settled = corpus-kept w es fs p.base (beyond p + 2 * m) words_counted t.kept (inr s.apart) ∙ view_counted

      waiting : (prefix : List ℕ) (limit : ℕ) (ps : List (List ℕ)) → length ps ≡ x
          → Waiting (beyond p) m (5 * w.live) p.most prefix limit ps (words_in w cs) [] fs
      waiting prefix limit ps e = record {
        candidates = gainers (state p es) (keys_of p n es);
        holds = t.heap [] (holds_none (beyond p) es d.listing.room words_counted.small);
        pairs = gainer_keys (state p es) OfPair (keys_of p n es)
            (λ j l g. d.gained.pairs (nth (keys_of p n es) j) (d.listing.touching.some j l) g);
        queued = rw (live_is, queue-seeds d.gained tracks_counted d.listing.touching under_most)
            (queued_start prefix limit ps (words_in w cs) p.most (rw e s.under) (omega (arith, s.space, live_is)));
      }
        where
          live_is : w.live ≡ in_use (words_in w cs)
          live_is = s.words.used

      engine_started : Started w p x cs fs (record { words = w; pairs = p; queue = beyond p; waiting = m; turns = 5 * w.live })
      engine_started = record {
        engaged = record {
          words = words-kept w es fs p.base (beyond p + 2 * m) words_counted t.kept (inr s.apart);
          apart = s.apart;
          ok = t.ok;
          tracks = rw view_settled (tracks_settled s.weighed (t.settled 0 d.listing) tracks_counted);
          calm = settled_calm (t.settled 0 d.listing);
          few = s.few;
          under = rw view_settled s.under;
          light = rw view_settled s.light;
          weighed = rw view_settled s.weighed;
          space = omega (arith, t.same, d.made_few, s.space);
          behind = omega arith;
          room = omega (arith, s.room, t.kept.long, long_counted);
        };
        view = view_settled;
        long = t.kept.long ∙ long_counted;
        waiting = waiting;
      }

    -- as the code has where the queue begins
    pub started : (fs : List ℕ) (m q : ℕ) → q ≡ beyond p → SettleDone p q 0 n es fs m
        → Started w p x cs fs (record { words = w; pairs = p; queue = q; waiting = m; turns = 5 * w.live })
    started fs m q e t = rw e (engine_started fs m (rw e at t))
