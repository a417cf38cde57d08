-- A key that loses its record. Assumes nothing.
use mathlib.Core.Path.{◌≡◌, refl, sym, ◌∙◌}
use mathlib.Core.List.{List}
use mathlib.Core.Logic.{inl, inr}
use Prim.Native.Nat.{ℕ, ◌+◌, ◌<◌, ◌≤◌}
use native.Mathlib.Omega.{arith}
use Rattle.runs.specs.Parts.{Kept}
use Rattle.runs.proofs.Frames.{kept_none, kept_then, kept_wide}
use Rattle.index.specs.Index.{Erased, SameIndex}
use Rattle.index.proofs.Clients.{index-kept, idle_lt}
use Rattle.records.specs.Records.{SameArena}
use Rattle.arena.specs.Claims.{CanRelease, Released}
use Rattle.records.proofs.Frames.{arena_kept}
use Rattle.pairs.specs.View.{arena_at, lists_at, behind, record_of, top, made, spent}
use Rattle.pairs.specs.Pairs.{Tied, Pairing, Removed}
use Rattle.pairs.specs.declared.Pairs.{Pairs}
use Rattle.pairs.proofs.Moves.{Moved, state_none, moved_state, moved_spent, moved_ok}
use Rattle.pairs.proofs.Entries.{credit-free}

module _ (p : Pairs) (k r : ℕ) (cs ds : List ℕ) (ok : Pairing p cs) (pos : 0 < k) (e : record_of p cs k ≡ r + 1) where
  gone_tied : Tied p k r cs
  gone_tied = ok.tied k r pos e

  module _ (x : Erased p.base p.cap k cs ds) where
    gone_arena : SameArena (arena_at p) p.most cs ds
    gone_arena = arena_kept (arena_at p) p.most _ _ cs ds ok.ar x.set.kept (inr (omega arith))

    pub can_release : CanRelease (arena_at p) p.most r ds
    can_release =
        record {
          at = record {
            ar = gone_arena.ok;
            low = gone_tied.low;
            live = rw (gone_arena.fields r 0 gone_tied.low (omega arith) ∙ gone_tied.key) pos;
          };
          more = omega (arith, gone_arena.taken-same, gone_arena.free-same, ok.even, idle_lt p.base p.cap cs ok.ix k (omega arith));
        }

    module _ (es : List ℕ) (d : Released (arena_at p) p.most r ds es) where
      gone_index : SameIndex p.base p.cap ds es
      gone_index = index-kept p.base p.cap _ _ ds es x.set.ok d.only.kept (inl (omega arith))

      -- nothing from the lists on has changed
      gone_kept : Kept p.base (lists_at p) cs es
      gone_kept =
          kept_then (kept_wide p.base (lists_at p) (omega arith) (omega arith) x.set.kept)
          (kept_wide p.base (lists_at p) (omega arith) (omega arith) d.only.kept)

      gone_top : top p es ≡ top p cs
      unfolding top
      gone_top = gone_kept.same (lists_at p) (inr (omega arith))

      gone_made : made p es ≡ made p cs
      unfolding made
      gone_made = gone_kept.same (lists_at p + 1) (inr (omega arith))

      gone_none : record_of p es k ≡ 0
      gone_none = gone_index.values k ∙ x.set.here

      gone_moved : Moved p k r cs es
      gone_moved =
          record {
            records = λ q h w. gone_index.values q ∙ x.set.others q w;
            fields = λ s g h b w. d.only.others s g b w ∙ gone_arena.fields s g h b;
            lists = λ s j w l h. gone_kept.same _ (inr (omega arith));
            owner = λ q h w. sym (ok.tied q r h w).key ∙ gone_tied.key;
            long = gone_kept.long;
          }

      gone_spent : spent p es ≤ spent p cs
      gone_spent = omega (arith, moved_spent p k r cs es ok gone_moved gone_tied.low, gone_top, credit-free p es r d.gone)

      pub removed : Removed p k cs es
      removed =
          record {
            ok = moved_ok p k r cs es ok gone_moved gone_index.ok d.ok (λ _ s w. absurd (omega (arith, w, gone_none)))
                (omega (arith, ok.even, x.freed, gone_index.busy, d.same, d.freed, gone_arena.taken-same, gone_arena.free-same))
                (omega (arith, ok.few, d.same, gone_arena.taken-same, gone_made)) (omega (arith, ok.slots, x.spent, gone_index.spent, gone_made))
                (omega (arith, ok.cells, gone_spent, gone_made)) (omega (arith, ok.bound, gone_made)) (omega (arith, gone_top))
                (λ l. absurd (omega (arith, l.live, d.gone))) (λ s w l o. absurd (omega (arith, l.live, d.gone)));
            gone = gone_none;
            change = record { here = state_none p es k gone_none; others = moved_state p k r cs es ok gone_moved };
            records = gone_moved.records;
            kept = kept_wide p.base (behind p) (omega arith) (omega arith) gone_kept;
            same = gone_made;
            less = gone_spent;
          }

-- a key that has none
pub removed_none : (p : Pairs) (k : ℕ) (cs : List ℕ) → Pairing p cs → record_of p cs k ≡ 0 → Removed p k cs cs
removed_none p k cs ok z =
    record {
      ok = ok;
      gone = z;
      change = record { here = state_none p cs k z; others = λ q h n. refl };
      records = λ q h n. refl;
      kept = kept_none _ _ cs;
      same = refl;
      less = omega arith;
    }
