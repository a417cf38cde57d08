-- The laws that a client goes by: an arena that lies outside of what changed, and an empty one. Assumes nothing.
use mathlib.Core.Path.{◌≡◌, refl, sym}
use mathlib.Core.List.{List}
use mathlib.Core.Logic.{◌⊎◌, inl, inr}
use Prim.Native.Nat.{ℕ, ◌+◌, ◌*◌, ◌^◌, ◌<◌, ◌≤◌}
use native.Mathlib.Omega.{arith}
use lib.ListN.{length}
use Rattle.runs.specs.Parts.{nth, Kept}
use Rattle.records.specs.Records.{field, taken, free, Chain, Arena, SameArena}
use Rattle.records.proofs.Laws.{taken_is, free_is, field-same, chain_same}

-- an arena whose cells are as they were
module _ (base n : ℕ) (was is : List ℕ) (ar : Arena base n was) (long : length is ≡ length was)
    (f : (j : ℕ) → base ≤ j → j < base + 3 + n * 8 → nth is j ≡ nth was j) where
  same_taken : taken base is ≡ taken base was
  unfolding taken
  same_taken = f base (omega arith) (omega arith)

  same_first : nth is (base + 1) ≡ nth was (base + 1)
  same_first = f (base + 1) (omega arith) (omega arith)

  same_free : free base is ≡ free base was
  unfolding free
  same_free = f (base + 2) (omega arith) (omega arith)

  same_fields : (s g : ℕ) → s < n → g < 8 → field base is s g ≡ field base was s g
  same_fields s g a b = field-same base was is s g same_taken (f (base + 3 + s * 8 + g) (omega arith) (omega arith))

  pub arena_same : SameArena base n was is
  arena_same =
      record {
        ok = record {
          room = omega (arith, ar.room);
          small = omega (arith, ar.small);
          low = omega (arith, ar.low, same_taken);
          few = omega (arith, ar.few, same_taken, same_free);
          chain = rw (same_taken, same_free, same_first)
              (chain_same base (taken base was) (taken base was) (free base was) was is (omega arith)
              (λ s h z k g w. same_fields s g (omega (arith, ar.low)) (omega arith)) (free base was) (nth was (base + 1)) (omega arith) ar.chain);
        };
        fields = same_fields;
        taken-same = same_taken;
        free-same = same_free;
      }

pub arena_kept : (base n lo hi : ℕ) (was is : List ℕ) → Arena base n was → Kept lo hi was is → (base + 3 + n * 8 ≤ lo) ⊎ (hi ≤ base) → SameArena base n was is
arena_kept base n lo hi was is ar k o = arena_same base n was is ar k.long (λ j a b. k.same j (out j a b o))
  where
    out : (j : ℕ) → base ≤ j → j < base + 3 + n * 8 → (base + 3 + n * 8 ≤ lo) ⊎ (hi ≤ base) → (j < lo) ⊎ (hi ≤ j)
    out j a b (inl h) = inl (omega arith)
    out j a b (inr h) = inr (omega arith)

-- A HEAD OF 0, whatever the records hold: nothing is taken, nothing is free

pub empty_taken : (base : ℕ) (cs : List ℕ) → ((i : ℕ) → base ≤ i → i < base + 3 → nth cs i ≡ 0) → taken base cs ≡ 0
empty_taken base cs f = sym (taken_is base 0 cs (sym (f base (omega arith) (omega arith))))

pub empty_free : (base : ℕ) (cs : List ℕ) → ((i : ℕ) → base ≤ i → i < base + 3 → nth cs i ≡ 0) → free base cs ≡ 0
empty_free base cs f = sym (free_is base 0 cs (sym (f (base + 2) (omega arith) (omega arith))))

pub arena_empty : (base n : ℕ) (cs : List ℕ) → base + 3 + n * 8 ≤ length cs → length cs < 2 ^ 61 → ((i : ℕ) → base ≤ i → i < base + 3 → nth cs i ≡ 0)
    → Arena base n cs
unfolding Chain
arena_empty base n cs room small f =
    record {
      room = room;
      small = small;
      low = omega (arith, empty_taken base cs f);
      few = omega (arith, empty_free base cs f);
      chain = rw (empty_free base cs f, f (base + 1) (omega arith) (omega arith)) refl;
    }
