-- A record taken for a key that has none, and an entry as a whole. Assumes nothing.
use mathlib.Core.Path.{◌≡◌, sym, ◌∙◌}
use mathlib.Core.List.{List, []}
use mathlib.Core.Logic.{inl, inr}
use Prim.Native.Nat.{ℕ, ◌+◌, ◌<◌}
use native.Mathlib.Omega.{arith}
use borrow.Author.Tests.{eq-eqb, ne_eqb}
use Rattle.runs.specs.Parts.{Kept}
use Rattle.runs.proofs.Parts.{same_or_not, part_none}
use Rattle.runs.proofs.Frames.{kept_then, kept_wide}
use Rattle.index.specs.Index.{CanInsert, Inserted, SameIndex}
use Rattle.index.proofs.Clients.{index-kept}
use Rattle.records.specs.Records.{field, SameArena}
use Rattle.arena.specs.Claims.{Alloc}
use Rattle.records.proofs.Frames.{arena_kept}
use Rattle.states.specs.State.{blank}
use Rattle.pairs.specs.View.{arena_at, lists_at, behind, record_of, key_in, many, words_of, record_state, state, top, made, credit, spent}
use Rattle.pairs.specs.Pairs.{Pairing, CanEnter, Entered, Asked, CanMake, Made}
use Rattle.pairs.specs.declared.Pairs.{Pairs}
use Rattle.pairs.proofs.Moves.{Moved, state_has, state_none, moved_state, moved_spent, moved_ok}

-- a record with no words, and one with no key, has no share of the cells
pub words_none : (p : Pairs) (cs : List ℕ) (r : ℕ) → many p cs r ≡ 0 → words_of p cs r ≡ []
unfolding words_of
words_none p cs r e = rw e (part_none _ cs)

pub credit_none : (p : Pairs) (cs : List ℕ) (r : ℕ) → many p cs r ≡ 0 → credit p cs r ≡ 0
unfolding credit
credit_none p cs r e = rw e (same_or_not (key_in p cs r) 0 (λ z. rw (eq-eqb _ _ z)) (λ n. rw (ne_eqb _ _ n)))

pub credit-free : (p : Pairs) (cs : List ℕ) (r : ℕ) → key_in p cs r ≡ 0 → credit p cs r ≡ 0
unfolding credit
credit-free p cs r e = rw e

-- A RECORD TAKEN AND ENTERED
module _ (p : Pairs) (k r : ℕ) (cs ds : List ℕ) (c : CanMake p k cs) where
  module _ (a : Alloc (arena_at p) p.most k r cs ds) where
    make_index : SameIndex p.base p.cap cs ds
    make_index = index-kept p.base p.cap _ _ cs ds c.ok.ix a.only.kept (inl (omega arith))

    pub can_insert : CanInsert p.base p.cap k (r + 1) ds
    can_insert =
        record {
          ix = make_index.ok;
          pos = c.pos;
          some = omega arith;
          none = make_index.values k ∙ c.none;
          space = omega (arith, make_index.spent, c.slots, c.ok.bound, c.ok.wide);
        }

    module _ (es : List ℕ) (i : Inserted p.base p.cap k (r + 1) ds es) where
      make_arena : SameArena (arena_at p) p.most ds es
      make_arena = arena_kept (arena_at p) p.most _ _ ds es a.live.ar i.set.kept (inr (omega arith))

      -- nothing from the lists on has changed
      make_kept : Kept p.base (lists_at p) cs es
      make_kept =
          kept_then (kept_wide p.base (lists_at p) (omega arith) (omega arith) a.only.kept)
          (kept_wide p.base (lists_at p) (omega arith) (omega arith) i.set.kept)

      make_top : top p es ≡ top p cs
      unfolding top
      make_top = make_kept.same (lists_at p) (inr (omega arith))

      make_made : made p es ≡ made p cs
      unfolding made
      make_made = make_kept.same (lists_at p + 1) (inr (omega arith))

      make_moved : Moved p k r cs es
      make_moved =
          record {
            records = λ q h n. i.set.others q n ∙ make_index.values q;
            fields = λ s g h b n. make_arena.fields s g h b ∙ a.only.others s g b n;
            lists = λ s j n l h. make_kept.same _ (inr (omega arith));
            owner = λ q h w. let t = c.ok.tied q r h w in absurd (omega (arith, h, t.key, a.idle));
            long = make_kept.long;
          }

      make_field : (g : ℕ) → 0 < g → g < 4 → field (arena_at p) es r g ≡ 0
      make_field g l h = make_arena.fields r g a.live.low (omega arith) ∙ a.blank g l h

      make_many : many p es r ≡ 0
      make_many = make_field 3 (omega arith) (omega arith)

      make_state : state p es k ≡ blank
      unfolding record_state
      make_state =
          state_has p es k r i.set.here ∙ rw (make_field 1 (omega arith) (omega arith), make_field 2 (omega arith) (omega arith), words_none p es r make_many)

      make_spent : spent p es ≡ spent p cs
      make_spent =
          omega (arith, moved_spent p k r cs es c.ok make_moved a.live.low, make_top, credit_none p es r make_many, credit-free p cs r a.idle)

      make_ok : Pairing p es
      make_ok =
          moved_ok p k r cs es c.ok make_moved i.set.ok make_arena.ok
          (λ _ s w.
          let q : s ≡ r = omega (arith, w, i.set.here) in
          rw q (record { low = a.live.low; key = make_arena.fields r 0 a.live.low (omega arith) ∙ a.key_is }))
          (omega (arith, c.ok.even, i.busy, make_index.busy, a.even, make_arena.taken-same, make_arena.free-same))
          (omega (arith, c.few, a.most, make_arena.taken-same, make_made))
          (omega (arith, c.slots, i.most, make_index.spent, make_made))
          (omega (arith, c.ok.cells, make_spent, make_made)) (omega (arith, c.ok.bound, make_made)) (omega (arith, make_top))
          (λ l. absurd (omega (arith, l.long, make_many))) (λ s n l o. absurd (omega (arith, l.long, make_many)))

      pub did_make : Made p k r cs es
      did_make =
          record {
            has = record { ok = make_ok; pos = c.pos; at = i.set.here; low = a.live.low };
            states = λ q h.
                same_or_not q k (λ w. rw w (make_state ∙ sym (state_none p cs k c.none))) (λ n. moved_state p k r cs es c.ok make_moved q h n);
            records = make_moved.records;
            kept = kept_wide p.base (behind p) (omega arith) (omega arith) make_kept;
            same = make_made;
            less = omega (arith, make_spent);
          }

-- AN ENTRY: it is counted, and a key that has a record keeps it
module _ (p : Pairs) (k : ℕ) (cs ds : List ℕ) (c : CanEnter p k cs) (a : Asked p cs ds) where
  pub entered_old : (r : ℕ) → record_of p ds k ≡ r + 1 → Entered p k r cs ds
  entered_old r e =
      record {
        has = record { ok = a.ok; pos = c.pos; at = e; low = (a.ok.tied k r c.pos e).low };
        states = a.states;
        records = λ q h w. a.records q h;
        old = λ w h. omega (arith, e, h, a.records k c.pos);
        kept = a.kept;
        more = a.more;
        less = omega (arith, a.less);
      }
