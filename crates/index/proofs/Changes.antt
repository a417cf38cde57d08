-- From what a lookup finds to what a function does. Assumes nothing.
use mathlib.Core.Path.{◌≡◌, refl, sym, ◌∙◌}
use mathlib.Core.List.{List}
use Prim.Native.Nat.{ℕ, ◌+◌, ◌*◌, ◌<◌}
use native.Mathlib.Omega.{arith}
use Rattle.runs.specs.Parts.{nth}
use Rattle.runs.proofs.Parts.{same_or_not}
use Rattle.runs.proofs.Frames.{kept_then}
use Rattle.index.specs.Index.{value_at, slot, value, Index, Set, CanInsert, Inserted, CanErase, Erased, AtSlot, NewSlot, PutValue, PutKey}
use Rattle.cells.specs.declared.Found.{Found}
use Rattle.cells.specs.declared.Found.TheVariants.{At, Vacant, Full}
use Rattle.index.proofs.Slots.{value_at_lem, value-vacant, value_full, slot_at, slot-vacant, slot_not_full, value_zero}

-- WHAT IS FOUND
module _ (base cap k : ℕ) (cs : List ℕ) (r : Found) where
  pub found_at : Index base cap cs → r ≡ slot base cap cs k → (j : ℕ) → r ≡ At j → AtSlot base cap k j cs
  found_at ix s j e = record { ix = ix; is = sym s ∙ e; low = (slot_at base cap cs ix k j (sym s ∙ e)).0 }

  pub found_vacant : Index base cap cs → 0 < k → r ≡ slot base cap cs k → (j : ℕ) → r ≡ Vacant j → NewSlot base cap k j cs
  found_vacant ix p s j e = record { ix = ix; pos = p; is = sym s ∙ e; low = (slot-vacant base cap cs ix k j (sym s ∙ e)).0 }

  pub get_vacant : r ≡ slot base cap cs k → (j : ℕ) → r ≡ Vacant j → value base cap cs k ≡ 0
  get_vacant s j e = value-vacant base cap k cs j (sym s ∙ e)

  pub get_full : r ≡ slot base cap cs k → r ≡ Full → value base cap cs k ≡ 0
  get_full s e = value_full base cap k cs (sym s ∙ e)

pub get_at : (base cap k j x : ℕ) (cs : List ℕ) → AtSlot base cap k j cs → x ≡ nth cs (base + 2 * j + 1) → value base cap cs k ≡ x
unfolding value_at
get_at base cap k j x cs a e = value_at_lem base cap k cs j a.is ∙ sym e

-- INSERTING
module _ (base cap k v : ℕ) where
  pub inserted_at : (cs ds : List ℕ) → CanInsert base cap k v cs → PutValue base cap k v cs ds → Inserted base cap k v cs ds
  inserted_at cs ds c p =
      record { set = p.set; least = omega (arith, p.spent); most = omega (arith, p.spent); busy = p.busy c.none c.some }

  set_then : (cs ds es : List ℕ) → Set base cap k 0 cs ds → Set base cap k v ds es → Set base cap k v cs es
  set_then cs ds es p q =
      record { ok = q.ok; kept = kept_then p.kept q.kept; here = q.here; others = λ x n. q.others x n ∙ p.others x n }

  pub inserted_new : (j : ℕ) (cs ds es : List ℕ) → CanInsert base cap k v cs → PutKey base cap k j cs ds → PutValue base cap k v ds es
      → Inserted base cap k v cs es
  inserted_new j cs ds es c p q =
      record {
        set = set_then cs ds es p.set q.set;
        least = omega (arith, p.spent, q.spent);
        most = omega (arith, p.spent, q.spent);
        busy = q.busy p.set.here c.some ∙ p.busy;
      }

  -- there is a vacant slot, so a lookup is not full
  pub inserted_full : (cs : List ℕ) (r : Found) → CanInsert base cap k v cs → r ≡ slot base cap cs k → r ≡ Full → Inserted base cap k v cs cs
  inserted_full cs r c s e = absurd (slot_not_full base cap cs c.ix k c.space (sym s ∙ e))

-- ERASING: a key with a value is found
module _ (base cap k : ℕ) where
  -- and is not 0
  pub erase_pos : (cs : List ℕ) → CanErase base cap k cs → 0 < k
  erase_pos cs c =
      same_or_not k 0
      (λ z. let w : 0 < value base cap cs 0 = rw z at c.some in absurd (omega (arith, w, value_zero base cap cs c.ix)))
      (λ z. omega arith)

  pub erased_at : (cs ds : List ℕ) → CanErase base cap k cs → PutValue base cap k 0 cs ds → Erased base cap k cs ds
  erased_at cs ds c p = record { set = p.set; spent = p.spent; freed = p.freed c.some refl }

  pub erased_vacant : (cs : List ℕ) (r : Found) → CanErase base cap k cs → r ≡ slot base cap cs k → (j : ℕ) → r ≡ Vacant j → Erased base cap k cs cs
  erased_vacant cs r c s j e = absurd (omega (arith, c.some, value-vacant base cap k cs j (sym s ∙ e)))

  pub erased_full : (cs : List ℕ) (r : Found) → CanErase base cap k cs → r ≡ slot base cap cs k → r ≡ Full → Erased base cap k cs cs
  erased_full cs r c s e = absurd (omega (arith, c.some, value_full base cap k cs (sym s ∙ e)))
