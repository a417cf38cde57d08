-- The laws that a client goes by: pair states that are not touched, pair states of which there are none, and when a key has a record. Assumes nothing.
use mathlib.Core.Path.{◌≡◌, refl, ap}
use mathlib.Core.List.{List}
use mathlib.Core.Logic.{◌⊎◌, inl, inr}
use Prim.Native.Nat.{ℕ, zero, suc, ◌+◌, ◌^◌, ◌<◌, ◌≤◌}
use native.Mathlib.Omega.{arith}
use lib.ListN.{length}
use Rattle.runs.specs.Parts.{nth, Kept}
use Rattle.index.specs.Index.{SameIndex, Empty as EmptyIndex}
use Rattle.index.proofs.Clients.{index-same, index_empty}
use Rattle.records.specs.Records.{taken, free, SameArena}
use Rattle.records.proofs.Frames.{arena_same, empty_taken, empty_free, arena_empty}
use Rattle.records.proofs.Laws.{field_none}
use Rattle.states.specs.State.{State}
use Rattle.pairs.specs.View.{arena_at, lists_at, data_at, behind, record_of, key_in, many, place, state, top, made, sum, credit, spent}
use Rattle.pairs.specs.Pairs.{Long, Pairing, Has, SamePairs, Empty}
use Rattle.pairs.specs.declared.Pairs.{Pairs}
use Rattle.pairs.proofs.Moves.{state_none, zero_or_more, long_fits}
use Rattle.pairs.proofs.Still.{still_states, still_spent, still_ok}
use Rattle.pairs.proofs.Entries.{credit-free}

-- WHEN A KEY HAS A RECORD

pub has_tied : {p : Pairs} {k r : ℕ} {cs : List ℕ} → Pairing p cs → 0 < k → record_of p cs k ≡ r + 1 → Has p k r cs
has_tied {p} {k} {r} {cs} ok pos e = record { ok = ok; pos = pos; at = e; low = (ok.tied k r pos e).low }

-- a pair that counts has one
pub counted_has : {p : Pairs} {k : ℕ} {cs : List ℕ} → Pairing p cs → 0 < k → 1 ≤ (state p cs k).count → 0 < record_of p cs k
counted_has {p} {k} {cs} ok pos c =
    zero_or_more (record_of p cs k)
    (λ e. let z : (state p cs k).count ≡ 0 = ap (λ (s : State). s.count) (state_none p cs k e) in absurd (omega (arith, c, z)))
    (λ r e. omega (arith, e))

-- PAIR STATES THAT ARE NOT TOUCHED
module _ (p : Pairs) (was is : List ℕ) (ok : Pairing p was) (long : length is ≡ length was)
    (f : (j : ℕ) → p.base ≤ j → j < behind p → nth is j ≡ nth was j) where
  same_index : SameIndex p.base p.cap was is
  same_index = index-same p.base p.cap was is ok.ix long (λ j a b. f j a (omega arith))

  same_arena : SameArena (arena_at p) p.most was is
  same_arena = arena_same (arena_at p) p.most was is ok.ar long (λ j a b. f j (omega arith) (omega arith))

  same_top : top p is ≡ top p was
  unfolding top
  same_top = f (lists_at p) (omega arith) (omega (arith, ok.ix.some, ok.wide))

  same_made : made p is ≡ made p was
  unfolding made
  same_made = f (lists_at p + 1) (omega arith) (omega arith)

  same_words : (s j : ℕ) → Long p was s → j < many p was s → nth is (data_at p + place p was s + j) ≡ nth was (data_at p + place p was s + j)
  same_words s j l h = f _ (omega arith) (omega (arith, h, long_fits p was s ok l))

  pub pairs_same : SamePairs p was is
  pairs_same =
      record {
        ok = still_ok p was is ok same_index same_arena same_top same_words long (omega (arith, same_made)) (omega (arith, same_made, ok.bound));
        states = still_states p was is ok same_index same_arena same_top same_words long;
        records = λ q h. same_index.values q;
        same = same_made;
        less = still_spent p was is ok same_index same_arena same_top same_words long;
      }

-- what changes lies outside of their cells
pub pairs_kept : {lo hi : ℕ} (p : Pairs) (was is : List ℕ) → Pairing p was → Kept lo hi was is → (behind p ≤ lo) ⊎ (hi ≤ p.base) → SamePairs p was is
pairs_kept {lo} {hi} p was is ok k o = pairs_same p was is ok k.long (λ j a b. k.same j (out j a b o))
  where
    out : (j : ℕ) → p.base ≤ j → j < behind p → (behind p ≤ lo) ⊎ (hi ≤ p.base) → (j < lo) ⊎ (hi ≤ j)
    out j a b (inl h) = inl (omega arith)
    out j a b (inr h) = inr (omega arith)

-- NO PAIR STATES: the index, the head of the records and the two cells behind them are 0. Records and words may be anything
sum_none : (n : ℕ) (f : ℕ → ℕ) → ((j : ℕ) → j < n → f j ≡ 0) → sum n f ≡ 0
unfolding sum
sum_none zero f e = refl
sum_none (suc n) f e = let i = sum_none n f (λ j h. e j (omega arith)) in omega (arith, i, e n (omega arith))

module _ (p : Pairs) (cs : List ℕ) (room : behind p ≤ length cs) (wide : p.most < p.cap) (few : p.cap ≤ 4294967296) (small : length cs < 2 ^ 61)
    (f : (j : ℕ) → p.base ≤ j → j < arena_at p + 3 → nth cs j ≡ 0) (t : nth cs (lists_at p) ≡ 0) (m : nth cs (lists_at p + 1) ≡ 0) where
  none_index : EmptyIndex p.base p.cap cs
  none_index = index_empty p.base p.cap cs (omega arith) small (omega arith) few (λ j a b. f j a (omega arith))

  none_head : (j : ℕ) → arena_at p ≤ j → j < arena_at p + 3 → nth cs j ≡ 0
  none_head j a b = f j (omega arith) b

  none_taken : taken (arena_at p) cs ≡ 0
  none_taken = empty_taken (arena_at p) cs none_head

  none_free : free (arena_at p) cs ≡ 0
  none_free = empty_free (arena_at p) cs none_head

  none_key : (r : ℕ) → key_in p cs r ≡ 0
  none_key r = field_none (arena_at p) cs r 0 (omega (arith, none_taken))

  none_made : made p cs ≡ 0
  unfolding made
  none_made = m

  none_spent : spent p cs ≡ 0
  unfolding spent top
  none_spent = omega (arith, t, sum_none p.most (credit p cs) (λ r h. credit-free p cs r (none_key r)))

  pub pairs_empty : Empty p cs
  pairs_empty =
      record {
        ok = record {
          ix = none_index.ok;
          ar = arena_empty (arena_at p) p.most cs (omega arith) small none_head;
          room = room;
          tied = λ k r h e. absurd (omega (arith, e, none_index.values k));
          even = omega (arith, none_index.busy, none_taken, none_free);
          few = omega (arith, none_taken);
          slots = omega (arith, none_index.spent);
          cells = omega (arith, none_spent);
          bound = omega (arith, none_made);
          wide = wide;
          runs = λ r l. absurd (omega (arith, l.live, none_key r));
          apart = λ r s n l o. absurd (omega (arith, l.live, none_key r));
        };
        states = λ q h. state_none p cs q (none_index.values q);
        none = none_made;
      }
