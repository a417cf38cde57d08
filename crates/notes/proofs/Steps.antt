-- What stays where one list changes: nothing, a field, cells behind the records. Assumes nothing.
use mathlib.Core.Path.{◌≡◌, refl, sym, ◌∙◌}
use mathlib.Core.List.{List}
use mathlib.Core.Logic.{◌⊎◌, inl, inr}
use Prim.Native.Nat.{ℕ, ◌+◌, ◌<◌, ◌≤◌}
use native.Mathlib.Omega.{arith}
use Rattle.runs.specs.Parts.{nth, Kept}
use Rattle.runs.proofs.Frames.{kept_none, kept_then, kept_wide}
use Rattle.records.specs.Records.{field, Live, FieldPut, SameArena}
use Rattle.records.proofs.Frames.{arena_kept}
use Rattle.pairs.specs.View.{arena_at, lists_at, behind, top, made}
use Rattle.pairs.specs.declared.Pairs.{Pairs}
use Rattle.notes.specs.Notes.{Still}

pub top_cell : (p : Pairs) (cs : List ℕ) → top p cs ≡ nth cs (lists_at p)
unfolding top
top_cell p cs = refl

made_cell : (p : Pairs) (cs : List ℕ) → made p cs ≡ nth cs (lists_at p + 1)
unfolding made
made_cell p cs = refl

pub still_none : (p : Pairs) (r : ℕ) (cs : List ℕ) → Live (arena_at p) p.most r cs → Still p r cs cs
still_none p r cs l =
    record { live = l; kept = kept_none _ _ cs; others = λ s g a b n. refl; mine = λ g b. refl; same = refl }

pub still_then : {p : Pairs} {r : ℕ} {cs ds es : List ℕ} → Still p r cs ds → Still p r ds es → Still p r cs es
still_then x y =
    record {
      live = y.live;
      kept = kept_then x.kept y.kept;
      others = λ s g a b n. y.others s g a b n ∙ x.others s g a b n;
      mine = λ g b. y.mine g b ∙ x.mine g b;
      same = y.same ∙ x.same;
    }

-- A FIELD
module _ (p : Pairs) (r f v : ℕ) (cs ds : List ℕ) (x : FieldPut (arena_at p) p.most r f v cs ds) where
  pub field_past : (j : ℕ) → lists_at p ≤ j → nth ds j ≡ nth cs j
  field_past j h = x.only.kept.same j (inr h)

  field_kept : Kept (arena_at p + 3) (behind p) cs ds
  field_kept = record { long = x.only.kept.long; same = same }
    where
      same : (j : ℕ) → (j < arena_at p + 3) ⊎ (behind p ≤ j) → nth ds j ≡ nth cs j
      same j (inl h) = x.head j h
      same j (inr h) = field_past j (omega arith)

  pub field_still : 3 ≤ f → Still p r cs ds
  field_still h =
      record {
        live = x.live;
        kept = field_kept;
        others = λ s g a b n. x.only.others s g b n;
        mine = λ g b. x.rest g (omega arith) (omega arith);
        same = made_cell p ds ∙ field_past (lists_at p + 1) (omega arith) ∙ sym (made_cell p cs);
      }

-- CELLS BEHIND THE RECORDS, but the one that counts the records asked for
module _ (p : Pairs) (r lo hi : ℕ) (cs ds : List ℕ) (l : Live (arena_at p) p.most r cs) (k : Kept lo hi cs ds) (a : lists_at p ≤ lo) where
  beyond_arena : SameArena (arena_at p) p.most cs ds
  beyond_arena = arena_kept (arena_at p) p.most lo hi cs ds l.ar k (inl a)

  pub beyond-field : (g : ℕ) → g < 8 → field (arena_at p) ds r g ≡ field (arena_at p) cs r g
  beyond-field g b = beyond_arena.fields r g l.low b

  pub beyond-live : Live (arena_at p) p.most r ds
  beyond-live = record { ar = beyond_arena.ok; low = l.low; live = rw (beyond-field 0 (omega arith)) l.live }

  pub beyond_still : hi ≤ behind p → (lists_at p + 1 < lo) ⊎ (hi ≤ lists_at p + 1) → Still p r cs ds
  beyond_still b o =
      record {
        live = beyond-live;
        kept = kept_wide (arena_at p + 3) (behind p) (omega arith) b k;
        others = λ s g c d n. beyond_arena.fields s g c d;
        mine = λ g b. beyond-field g (omega arith);
        same = made_cell p ds ∙ k.same (lists_at p + 1) o ∙ sym (made_cell p cs);
      }
