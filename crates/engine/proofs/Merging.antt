-- A merge, stage by stage: its pair is marked, the words rewritten, the touched pairs settled, the pair removed, the words tidied. Assumes nothing.
use mathlib.Core.Path.{◌≡◌, refl, ap, ◌∙◌}
use mathlib.Core.Bool.{true}
use mathlib.Core.List.{List, [], ◌∷◌, ◌++◌}
use mathlib.Core.Logic.{inr, ⊎_elim}
use Prim.Native.Nat.{ℕ, ◌+◌, ◌*◌, ◌<◌, ◌≤◌}
use native.Mathlib.Omega.{arith}
use lib.ListN.{length, length-append}
use Rattle.std.specs.Prelude.{Option, Some, None, MatchOption, IsSome}
use Rattle.std.proofs.lemmas.Option.{MatchOption-at_some}
use Rattle.runs.specs.Parts.{nth}
use Rattle.runs.proofs.Parts.{same_or_not}
use Rattle.rule.specs.Table.{Task}
use Rattle.rule.specs.Seeding.{Entry}
use Rattle.rule.specs.Training.{Choice, joined_of, rewrite_all}
use Rattle.rule.proofs.Counts.{count_gone, all_under_more}
use Rattle.lazy.specs.Lazy.{gained as gainedQueue}
use Rattle.queue.specs.declared.Candidate.{Candidate}
use Rattle.queue.specs.Holding.{In, Holds}
use Rattle.queue.proofs.Holding.{holds-kept, in_append}
use Rattle.marks.specs.Marks.{touched, gained, marking}
use Rattle.marks.proofs.Marks.{marked_other, marked_none}
use Rattle.word.specs.Layout.{Words, words_in}
use Rattle.word.specs.declared.WordSet.{WordSet}
use Rattle.word.proofs.Sets.{words-kept, corpus-kept}
use Rattle.states.specs.State.{State, blank, most, key, OfPair, Change}
use Rattle.states.specs.Tracking.{Tracks, Calm, Weighed, Settled}
use Rattle.states.proofs.Keys.{key_pos}
use Rattle.states.proofs.Tracks.{tracks_from, tracks_marked, tracks_settled, tracks_done, tracks_same}
use Rattle.states.proofs.Gains.{gaining_start, gaining_same}
use Rattle.states.proofs.Touches.{touching_merge}
use Rattle.pairs.specs.View.{behind, record_of, state}
use Rattle.pairs.specs.Pairs.{Pairing, Has, Removed, Updated, SamePairs}
use Rattle.pairs.proofs.Clients.{has_tied, counted_has, pairs_kept}
use Rattle.reports.specs.Reports.{beyond, keys_of, Listing}
use Rattle.reports.proofs.Listed.{keys_none}
use Rattle.waiting.specs.Waiting.{queue_of, gainers}
use Rattle.waiting.proofs.Queue.{queue-length}
use Rattle.waiting.proofs.Gained.{merged_older, queue-gained}
use Rattle.settling.specs.Settling.{CanSettle, SettleDone}
use Rattle.joining.specs.Joining.{Midway, JoinedAll}
use Rattle.joining.specs.declared.Joined.{Joined}
use Rattle.engine.specs.declared.Engine.{Engine}
use Rattle.engine.specs.Engine.{Limits, Queued, Waiting, Engaged, CanJoin, JoinDone, Tidied}
use Rattle.engine.proofs.Sums.{gone_entry}
use Rattle.engine.proofs.Queues.{queued_older, queued_join, queued_room, gainer_keys}

-- a state with the mark of a touch
abbrev touched_state : State → State
touched_state s = record { count = s.count; marks = marking touched true s.marks; words = s.words }

-- CALM STATES: settled ones without the merged pair, and those that are as they were
removed_calm : {e : ℕ} {σ τ υ : ℕ → State} → Settled e σ τ → Change e blank τ υ → Calm υ
removed_calm {e} s h = record {
  untouched = λ c z. same_or_not c e (λ i. rw (i, h.here) (marked_none touched)) (λ n. rw (h.others c z n) (s.untouched c z n));
  ungained = λ c z. same_or_not c e (λ i. rw (i, h.here) (marked_none gained)) (λ n. rw (h.others c z n) (s.ungained c z n));
}

pub same_calm : {σ τ : ℕ → State} → ((c : ℕ) → 0 < c → τ c ≡ σ c) → Calm σ → Calm τ
same_calm h m = record { untouched = λ c z. rw (h c z) (m.untouched c z); ungained = λ c z. rw (h c z) (m.ungained c z) }

module _ (g : Engine) (a b x : ℕ) (cs : List ℕ) (j : CanJoin g a b x cs) where
  left_small : a < most
  left_small = omega (arith, j.left, j.next)

  right_small : b < most
  right_small = omega (arith, j.right, j.next)

  counted : 1 ≤ (state g.pairs cs (key a b)).count
  counted = rw (j.engaged.tracks.exact a b left_small right_small (λ z. let h = key_pos a b in omega arith)) j.some

  -- THE PAIR HAS A RECORD
  module _ (k : ℕ) (e : k ≡ key a b) where
    pub join_finds : (Pairing g.pairs cs) × (0 < k)
    join_finds = (j.engaged.ok, rw e (key_pos a b))

    module _ (o : Option ℕ) (f : MatchOption o (record_of g.pairs cs k ≡ 0) (λ r. record_of g.pairs cs k ≡ r + 1)) where
      pub join_known : IsSome o
      join_known = go o f
        where
          go : (o : Option ℕ) → MatchOption o (record_of g.pairs cs k ≡ 0) (λ r. record_of g.pairs cs k ≡ r + 1) → IsSome o
          go None f' = absurd (let h = counted_has j.engaged.ok (key_pos a b) counted in omega (arith, rw e at f', h))
          go (Some r) f' = refl

      pub join_has : (r : ℕ) → o ≡ Some r → Has g.pairs k r cs
      join_has r i = has_tied j.engaged.ok (rw e (key_pos a b)) (MatchOption-at_some (record_of g.pairs cs k ≡ 0) (λ r. record_of g.pairs cs k ≡ r + 1) r i f)

    -- MARKED: the words can be rewritten
    module _ (r : ℕ) (ds : List ℕ)
        (u : Updated g.pairs k r
        (record { count = (state g.pairs cs k).count; marks = marking touched true (state g.pairs cs k).marks; words = (state g.pairs cs k).words }) cs ds) where
      marked : Updated g.pairs (key a b) r (touched_state (state g.pairs cs (key a b))) cs ds
      marked = rw e at u

      words_marked : Words g.words ds
      words_marked = words-kept g.words cs ds g.pairs.base (behind g.pairs) j.engaged.words u.kept (inr j.engaged.apart)

      view_marked : words_in g.words ds ≡ words_in g.words cs
      view_marked = corpus-kept g.words cs ds g.pairs.base (behind g.pairs) j.engaged.words u.kept (inr j.engaged.apart)

      listing_marked : Listing g.pairs (key a b) 0 ds
      listing_marked = record {
        room = omega (arith, j.engaged.behind, j.engaged.room, u.kept.long);
        few = omega arith;
        link = λ i h. absurd (omega arith);
        touching = rw (keys_none g.pairs ds) (touching_merge (key a b) j.engaged.calm (key_pos a b) marked.change);
      }

      pub join_midway : (Midway a b x g.words g.pairs 0 ds) × (Has g.pairs (key a b) r ds)
      join_midway = (
        record {
          words = words_marked;
          apart = j.engaged.apart;
          ok = marked.has.ok;
          tracks = rw view_marked (tracks_marked marked.change refl refl (tracks_from (key a b) j.engaged.tracks));
          gaining = gaining_same x marked.change refl (marked_other gained touched true (state g.pairs cs (key a b)).marks refl)
              (gaining_start x j.engaged.calm j.engaged.tracks j.engaged.under j.engaged.few);
          listing = listing_marked;
          left = j.left;
          right = j.right;
          new = j.engaged.few;
          under = rw view_marked (all_under_more x (x + 1) (omega arith) (words_in g.words cs) j.engaged.under);
          light = rw view_marked j.engaged.light;
          weighed = rw view_marked j.engaged.weighed;
          space = omega (arith, marked.same, j.engaged.space);
          places = omega (arith, j.engaged.space);
        },
        marked.has,
      )

      -- REWRITTEN: the touched pairs can be settled
      module _ (es : List ℕ) (d : Joined) (m : JoinedAll a b x g.words g.pairs ds es d) where
        view_joined : words_in d.words es ≡ rewrite_all a b x (words_in g.words cs)
        view_joined = m.view ∙ ap (rewrite_all a b x) view_marked

        long_joined : length es ≡ length cs
        long_joined = m.kept.long ∙ u.kept.long

        holds-joined : (fs : List Candidate) → Holds fs g.queue g.waiting cs → Holds fs g.queue g.waiting es
        holds-joined fs h =
            holds-kept fs g.queue g.waiting g.words.low (beyond g.pairs) ds es
            (holds-kept fs g.queue g.waiting g.pairs.base (behind g.pairs) cs ds h u.kept (inr (omega (arith, j.engaged.behind))))
            m.kept (inr j.engaged.behind)

        module _ {prefix : List ℕ} {limit : ℕ} {ps : List (List ℕ)} {places turns : ℕ} {f : Choice} (fs : List Candidate)
            (q : Queued prefix limit ps (words_in g.words cs) places turns (f ∷ queue_of fs)) (n : length ps ≡ x) where
          -- the candidates of the gainers make the queue of the rule
          queue_joined : queue_of (fs ++ gainers (state g.pairs es) (keys_of g.pairs d.touched es))
              ≡ gainedQueue x (rewrite_all a b x (words_in g.words cs)) (queue_of fs)
          queue_joined =
              queue-gained x fs m.midway.gaining m.midway.tracks m.midway.listing.touching m.midway.new m.midway.under
              (merged_older a b x refl j.left j.right m.midway.new) (queued_older q x n)
              ∙ ap (λ (l : List Entry). gainedQueue x l (queue_of fs)) view_joined

          few_joined : f.left ≡ a → f.right ≡ b → length fs + length (gainers (state g.pairs es) (keys_of g.pairs d.touched es)) ≤ places
          few_joined l r' =
              let gs = gainers (state g.pairs es) (keys_of g.pairs d.touched es) in
              omega (arith, length-append fs gs, queue-length (fs ++ gs), ap length queue_joined, queued_room q a b x n l r')

        pub join_settles : CanSettle g.pairs g.queue g.waiting d.touched es
        join_settles = record {
          ok = m.midway.ok;
          e = key a b;
          listing = m.midway.listing;
          apart = j.engaged.behind;
          heap = (holds-joined j.waiting.candidates j.waiting.holds).heap;
          room = omega (
            arith,
            few_joined j.waiting.candidates j.waiting.queued j.numbers j.left_is j.right_is,
            j.waiting.holds.long,
            j.engaged.room,
            long_joined,
          );
        }

        -- SETTLED
        module _ (fs : List ℕ) (n : ℕ) (t : SettleDone g.pairs g.queue g.waiting d.touched es fs n) where
          words_settled : Words d.words fs
          words_settled = words-kept d.words es fs g.pairs.base (g.queue + 2 * n) m.midway.words t.kept (inr m.midway.apart)

          view_settled : words_in d.words fs ≡ rewrite_all a b x (words_in g.words cs)
          view_settled = corpus-kept d.words es fs g.pairs.base (g.queue + 2 * n) m.midway.words t.kept (inr m.midway.apart) ∙ view_joined

          settled : Settled (key a b) (state g.pairs es) (state g.pairs fs)
          settled = t.settled (key a b) m.midway.listing

          -- REMOVED: the words can be tidied
          module _ (gs : List ℕ) (v : Removed g.pairs k fs gs) where
            removed : Removed g.pairs (key a b) fs gs
            removed = rw e at v

            pub join_words : Words d.words gs
            join_words = words-kept d.words fs gs g.pairs.base (behind g.pairs) words_settled v.kept (inr m.midway.apart)

            view_removed : words_in d.words gs ≡ rewrite_all a b x (words_in g.words cs)
            view_removed = corpus-kept d.words fs gs g.pairs.base (behind g.pairs) words_settled v.kept (inr m.midway.apart) ∙ view_settled

            tracks_removed : Tracks (state g.pairs gs) 0 (rewrite_all a b x (words_in g.words cs))
            tracks_removed =
                tracks_done (key a b) a b (key_pos a b) refl left_small right_small
                (gone_entry a b x not_left not_right (words_in g.words cs)) (count_gone a b x not_left not_right (words_in g.words cs))
                (tracks_settled weighed settled (rw view_joined at m.midway.tracks)) removed.change
              where
                not_left : x ≡ a → ⊥
                not_left z = omega (arith, j.left)

                not_right : x ≡ b → ⊥
                not_right z = omega (arith, j.right)

                weighed : Weighed (rewrite_all a b x (words_in g.words cs))
                weighed = rw view_joined at m.midway.weighed

            -- TIDIED: the engine stands again
            module _ (hs : List ℕ) (w : WordSet) (z : Tidied d.words gs hs w) where
              view_tidied : words_in w hs ≡ rewrite_all a b x (words_in g.words cs)
              view_tidied = z.view ∙ view_removed

              long_tidied : length hs ≡ length cs
              long_tidied = z.kept.long ∙ v.kept.long ∙ t.kept.long ∙ long_joined

              pairs_tidied : SamePairs g.pairs gs hs
              pairs_tidied = pairs_kept g.pairs gs hs v.ok z.kept (inr m.midway.apart)

              holds_tidied : (l : List Candidate) → Holds l g.queue n fs → Holds l g.queue n hs
              holds_tidied l h =
                  holds-kept l g.queue n d.words.starts d.words.top gs hs
                  (holds-kept l g.queue n g.pairs.base (behind g.pairs) fs gs h v.kept (inr (omega (arith, j.engaged.behind))))
                  z.kept (inr (omega (arith, j.engaged.behind, m.midway.apart)))

              engaged_tidied : Engaged w g.pairs g.queue (x + 1) hs
              engaged_tidied = record {
                words = z.set;
                apart = omega (arith, z.lower, m.midway.apart);
                ok = pairs_tidied.ok;
                tracks = rw view_tidied (tracks_same pairs_tidied.states tracks_removed);
                calm = same_calm pairs_tidied.states (removed_calm settled removed.change);
                few = j.next;
                under = rw view_tidied (rw view_joined at m.midway.under);
                light = rw view_tidied (rw view_joined at m.midway.light);
                weighed = rw view_tidied (rw view_joined at m.midway.weighed);
                space = omega (arith, pairs_tidied.same, v.same, t.same, z.live_is, m.midway.space);
                behind = j.engaged.behind;
                room = omega (arith, j.engaged.room, long_tidied);
              }

              waiting_tidied : (prefix : List ℕ) (limit : ℕ) (ps : List (List ℕ)) (f : Choice) (s : List ℕ) → length ps ≡ x → f.left ≡ a → f.right ≡ b
                  → ((t' : Task) → Limits t' prefix limit → joined_of t' ps a b ≡ s)
                  → Waiting g.queue g.waiting g.turns g.pairs.most prefix limit ps (words_in g.words cs) (f ∷ []) cs
                  → Waiting g.queue n g.turns g.pairs.most prefix limit (ps ++ (s ∷ [])) (rewrite_all a b x (words_in g.words cs)) [] hs
              waiting_tidied prefix limit ps f s y l r' o q = record {
                candidates = q.candidates ++ gainers (state g.pairs es) (keys_of g.pairs d.touched es);
                holds = holds_tidied (q.candidates ++ gainers (state g.pairs es) (keys_of g.pairs d.touched es))
                    (t.heap q.candidates (holds-joined q.candidates q.holds));
                pairs = λ c i. ⊎_elim (q.pairs c) (entered c)
                    (in_append c q.candidates (gainers (state g.pairs es) (keys_of g.pairs d.touched es)) i);
                queued = rw (queue_joined q.candidates q.queued y) (queued_join q.queued a b x y l r' s o);
              }
                where
                  entered : (c : Candidate) → In c (gainers (state g.pairs es) (keys_of g.pairs d.touched es)) → OfPair c.key
                  entered = gainer_keys (state g.pairs es) OfPair (keys_of g.pairs d.touched es)
                      (λ i h k'. (m.midway.gaining.holds (nth (keys_of g.pairs d.touched es) i) (m.midway.listing.touching.some i h) k').0)

              pub joined : JoinDone g a b x cs hs (record { words = w; pairs = g.pairs; queue = g.queue; waiting = n; turns = g.turns })
              joined = record { engaged = engaged_tidied; view = view_tidied; long = long_tidied; waiting = waiting_tidied }
