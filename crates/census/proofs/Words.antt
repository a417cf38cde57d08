-- The words are counted one after the other. Assumes nothing.
use mathlib.Core.Path.{◌≡◌}
use mathlib.Core.List.{List}
use mathlib.Core.Logic.{inr}
use Prim.Native.Nat.{ℕ, ◌+◌, ◌*◌, ◌^◌, ◌<◌, ◌≤◌}
use native.Mathlib.Omega.{arith}
use lib.ListN.{length}
use Rattle.runs.proofs.Frames.{kept_none, kept_then}
use Rattle.rule.specs.Sums.{in_use}
use Rattle.word.specs.Layout.{words_in}
use Rattle.word.specs.declared.WordSet.{WordSet}
use Rattle.word.proofs.Views.{corpus-length}
use Rattle.word.proofs.Sets.{words-kept, corpus-kept}
use Rattle.marks.specs.Marks.{touched, gained}
use Rattle.marks.proofs.Marks.{marked_none}
use Rattle.states.specs.State.{State, blank, most, key}
use Rattle.states.specs.Tracking.{Reported, mores, up_to, Calm}
use Rattle.states.proofs.Keys.{key_pos}
use Rattle.states.proofs.Tracks.{tracked_light}
use Rattle.states.proofs.Gains.{gained_reported}
use Rattle.states.proofs.Counts.{up_to_all, tracks_blank, gained-blank, tracks_word}
use Rattle.states.proofs.Touches.{touching_none}
use Rattle.pairs.specs.View.{state}
use Rattle.pairs.specs.Pairs.{Empty}
use Rattle.pairs.specs.declared.Pairs.{Pairs}
use Rattle.reports.specs.Reports.{beyond, Listing}
use Rattle.reports.proofs.Listed.{keys_none}
use Rattle.census.specs.Census.{CanCount, Counting, CountDone, word_of, CanCountWord, WordCounted}
use Rattle.census.proofs.Sizes.{weight_word, used_word, used_most}

-- THE START: no pair is known, so none is touched

blank_calm : (σ : ℕ → State) → ((c : ℕ) → 0 < c → σ c ≡ blank) → Calm σ
blank_calm σ h = record { untouched = λ c z. rw (h c z) (marked_none touched); ungained = λ c z. rw (h c z) (marked_none gained) }

listing_none : (p : Pairs) (cs : List ℕ) → beyond p ≤ length cs → Empty p cs → Listing p 0 0 cs
listing_none p cs room empty =
    record {
      room = room;
      few = omega arith;
      link = λ j h. absurd (omega arith);
      touching = rw (keys_none p cs) (touching_none (blank_calm (state p cs) empty.states));
    }

module _ (w : WordSet) (p : Pairs) (cs : List ℕ) (can : CanCount w p cs) where
  pub count_start : Counting w p 0 cs cs 0
  count_start =
      record {
        ok = can.empty.ok;
        tracks = tracks_blank can.empty.states (words_in w cs);
        gained = gained-blank can.empty.states;
        listing = listing_none p cs can.room can.empty;
        made_few = omega (arith, can.empty.none);
        few = omega arith;
        kept = kept_none p.base (beyond p) cs;
      }

  -- A WORD
  module _ (k n : ℕ) (ds : List ℕ) (inv : Counting w p k cs ds n) where
    same : words_in w ds ≡ words_in w cs
    same = corpus-kept w cs ds p.base (beyond p) can.words inv.kept (inr can.apart)

    module _ (less : k < w.count) where
      known : k < length (words_in w cs)
      known = omega (arith, corpus-length cs w.starts w.count)

      space : in_use (up_to k (words_in w cs)) + length (word_of w k cs).symbols ≤ p.most
      space =
          omega (arith, used_word k (words_in w cs) known, used_most (k + 1) (words_in w cs), can.words.used, can.space)

      pub word_can : CanCountWord w p k n ds
      word_can =
          record {
            words = words-kept w cs ds p.base (beyond p) can.words inv.kept (inr can.apart);
            low = less;
            apart = can.apart;
            below = rw same can.below;
            ok = inv.ok;
            room = omega (arith, can.room, inv.kept.long);
            space = rw same (omega (arith, space, inv.made_few));
            few = rw same (omega (arith, space, inv.few));
            light = λ a b ha hb. rw same (light a b ha hb);
          }
        where
          light : (a b : ℕ) → a < most → b < most → (state p ds (key a b)).count + (word_of w k cs).frequency * length (word_of w k cs).symbols < 2 ^ 64
          light a b ha hb =
              omega (
                arith,
                tracked_light inv.tracks a b (λ z. let q = key_pos a b in omega arith) ha hb,
                weight_word k (words_in w cs) known,
                can.light,
              )

      pub word_turn : (es : List ℕ) (m : ℕ) → WordCounted w p k n ds es m → Counting w p (k + 1) cs es m
      word_turn es m d =
          record {
            ok = d.ok;
            tracks = tracks_word k (words_in w cs) known inv.tracks reported;
            gained = gained_reported inv.gained reported;
            listing = d.listing inv.listing;
            made_few = rw (used_word k (words_in w cs) known) (omega (arith, rw same at d.made_most, inv.made_few));
            few = rw (used_word k (words_in w cs) known) (omega (arith, rw same at d.most_listed, inv.few));
            kept = kept_then inv.kept d.kept;
          }
        where
          reported : Reported (word_of w k cs).frequency k (mores (word_of w k cs).symbols) (state p ds) (state p es)
          reported = rw same at d.reported

    -- THE END
    pub count_end : w.count ≤ k → CountDone w p cs ds n
    count_end h =
        record {
          ok = inv.ok;
          tracks = rw all at inv.tracks;
          gained = inv.gained;
          listing = inv.listing;
          made_few = omega (arith, rw all at inv.made_few, can.words.used);
          few = omega (arith, rw all at inv.few, can.words.used);
          kept = inv.kept;
        }
      where
        all : up_to k (words_in w cs) ≡ words_in w cs
        all = up_to_all k (words_in w cs) (omega (arith, corpus-length cs w.starts w.count))
