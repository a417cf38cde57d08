-- Pair states of which nothing changes but, where one is asked for, the number of entries. Assumes nothing.
use mathlib.Core.Path.{◌≡◌, ◌∙◌}
use mathlib.Core.List.{List}
use mathlib.Core.Logic.{inl, inr}
use Prim.Native.Nat.{ℕ, ◌+◌, ◌*◌, ◌^◌, ◌<◌, ◌≤◌}
use native.Mathlib.Omega.{arith}
use lib.ListN.{length}
use Rattle.runs.specs.Parts.{nth, put, Kept}
use Rattle.runs.proofs.Parts.{nth-put}
use Rattle.runs.proofs.Frames.{kept-put, kept_wide}
use Rattle.index.specs.Index.{SameIndex}
use Rattle.index.proofs.Clients.{index-kept}
use Rattle.records.specs.Records.{SameArena}
use Rattle.records.proofs.Frames.{arena_kept}
use Rattle.pairs.specs.View.{arena_at, lists_at, data_at, behind, many, place, state, top, made, credit, spent}
use Rattle.pairs.specs.Pairs.{Long, Pairing, Asked}
use Rattle.pairs.specs.declared.Pairs.{Pairs}
use Rattle.pairs.proofs.Moves.{Moved, sum-same, credit-same, moved_state, moved_ok}

-- the index, the records, the top and the words of every long list are as they were
module _ (p : Pairs) (was is : List ℕ) (ok : Pairing p was) (ix : SameIndex p.base p.cap was is) (ar : SameArena (arena_at p) p.most was is)
    (t : top p is ≡ top p was)
    (words : (s j : ℕ) → Long p was s → j < many p was s → nth is (data_at p + place p was s + j) ≡ nth was (data_at p + place p was s + j))
    (long : length is ≡ length was) where
  still_moved : Moved p 0 p.most was is
  still_moved =
      record {
        records = λ q h n. ix.values q;
        fields = λ s g h b n. ar.fields s g h b;
        lists = λ s j n l h. words s j l h;
        owner = λ q h w. absurd (omega (arith, (ok.tied q p.most h w).low));
        long = long;
      }

  pub still_states : (q : ℕ) → 0 < q → state p is q ≡ state p was q
  still_states q h = moved_state p 0 p.most was is ok still_moved q h (omega arith)

  pub still_spent : spent p is ≡ spent p was
  unfolding spent
  still_spent =
      omega (
        arith,
        t,
        sum-same p.most (credit p was) (credit p is)
            (λ j h. credit-same p was is j (ar.fields j 0 h (omega arith)) (ar.fields j 3 h (omega arith)) (ar.fields j 5 h (omega arith))),
      )

  pub still_ok : made p was ≤ made p is → made p is ≤ p.most → Pairing p is
  still_ok a b =
      moved_ok p 0 p.most was is ok still_moved ix.ok ar.ok (λ h s w. absurd (omega arith))
      (omega (arith, ok.even, ix.busy, ar.taken-same, ar.free-same)) (omega (arith, ok.few, ar.taken-same)) (omega (arith, ok.slots, ix.spent))
      (omega (arith, ok.cells, still_spent)) b (omega (arith, t)) (λ l. absurd (omega (arith, l.low))) (λ s n l o. absurd (omega (arith, l.low)))

-- AN ENTRY ASKED FOR: the number in its cell is one more
module _ (p : Pairs) (m : ℕ) (was : List ℕ) (ok : Pairing p was) (space : made p was < p.most)
    (e : m ≡ nth was (p.base + 2 * p.cap + 3 + p.most * 8 + 1)) where
  pub asked_small : m + 1 < 2 ^ 64
  unfolding made
  asked_small = omega (arith, space, ok.room, ok.ix.small)

  module _ (is : List ℕ) (u : is ≡ put was (p.base + 2 * p.cap + 3 + p.most * 8 + 1) (m + 1)) where
    asked_kept : Kept (lists_at p + 1) (lists_at p + 1 + 1) was is
    asked_kept = rw u (kept-put _ _ was (lists_at p + 1) (m + 1) (omega arith) (omega arith))

    asked_index : SameIndex p.base p.cap was is
    asked_index = index-kept p.base p.cap _ _ was is ok.ix asked_kept (inl (omega arith))

    asked_arena : SameArena (arena_at p) p.most was is
    asked_arena = arena_kept (arena_at p) p.most _ _ was is ok.ar asked_kept (inl (omega arith))

    asked_top : top p is ≡ top p was
    unfolding top
    asked_top = asked_kept.same (lists_at p) (inl (omega arith))

    asked_words : (s j : ℕ) → Long p was s → j < many p was s → nth is (data_at p + place p was s + j) ≡ nth was (data_at p + place p was s + j)
    asked_words s j l h = asked_kept.same _ (inr (omega arith))

    asked_more : made p is ≡ made p was + 1
    unfolding made
    asked_more = rw u (nth-put was (lists_at p + 1) (m + 1) (omega (arith, ok.room)) ∙ rw e)

    pub asked : Asked p was is
    asked =
        record {
          ok = still_ok p was is ok asked_index asked_arena asked_top asked_words asked_kept.long (omega (arith, asked_more)) (omega (arith, asked_more, space));
          states = still_states p was is ok asked_index asked_arena asked_top asked_words asked_kept.long;
          records = λ q h. asked_index.values q;
          kept = kept_wide p.base (behind p) (omega arith) (omega arith) asked_kept;
          more = asked_more;
          less = still_spent p was is ok asked_index asked_arena asked_top asked_words asked_kept.long;
          slots = omega (arith, ok.slots, asked_index.spent, asked_more);
          few = omega (arith, ok.few, asked_arena.taken-same, asked_more);
        }
