-- One pair is settled: it is released, or its marks go and it waits if it has gained. Assumes nothing.
use mathlib.Core.Path.{◌≡◌, refl, sym, ap, ◌∙◌}
use mathlib.Core.Bool.{Bool, true, false, cond, ◌&&◌}
use mathlib.Core.List.{List, [], ◌∷◌, append-nil}
use mathlib.Core.Logic.{inl, inr}
use Prim.Native.Nat.{ℕ, ◌+◌, ◌*◌, ◌<◌, ◌≤◌}
use native.Mathlib.Omega.{arith}
use borrow.Author.Tests.{eq-eqb, ne_eqb, lt-ltb}
use lib.ListN.{length}
use Rattle.runs.specs.Parts.{nth}
use Rattle.runs.proofs.Parts.{below_or_not}
use Rattle.runs.proofs.Frames.{kept_none, kept_then, kept_wide}
use Rattle.queue.specs.declared.Candidate.{Candidate}
use Rattle.queue.specs.Heap.{Heap, Pushed}
use Rattle.queue.proofs.Bag.{heap_same}
use Rattle.queue.proofs.Holding.{holds-kept, holds_last}
use Rattle.marks.specs.Marks.{touched, gained, marked, marking}
use Rattle.states.specs.State.{State, blank}
use Rattle.pairs.specs.View.{behind, key_in, state}
use Rattle.pairs.specs.Pairs.{Has, Removed, Updated, SamePairs}
use Rattle.pairs.specs.declared.Pairs.{Pairs}
use Rattle.pairs.proofs.Clients.{pairs_kept}
use Rattle.waiting.specs.Waiting.{gainers}
use Rattle.settling.specs.Settling.{cleared, settled, CanSettleOne, OneSettled, CanWait, Waits, gainer}

pub cleared_is : (v x r : ℕ) → x ≡ marking touched false v → r ≡ marking gained false x → r ≡ cleared v
unfolding cleared
cleared_is v x r e f = rw e at f

-- WAITING

module _ (q m v : ℕ) (e : Candidate) (b : Bool) (t : b ≡ marked gained v) where
  pub waits-gained : (was is : List ℕ) → b ≡ true → Pushed q m e was is → Waits q m (gainer v e) was is (m + 1)
  unfolding gainer
  waits-gained was is h p =
      let g : marked gained v ≡ true = sym t ∙ h in
      rw g (record { heap = p.ok; holds = λ es s. holds_last es q m e was is s p; count = omega arith; kept = kept_wide q (q + 2 * (m + 1)) (omega arith) (omega arith) p.kept })

  pub wait_room : (cs : List ℕ) → b ≡ true → CanWait q m (gainer v e) cs → (Heap q m cs) × (q + 2 * m + 2 ≤ length cs)
  unfolding gainer
  wait_room cs h c = let g : marked gained v ≡ true = sym t ∙ h in let r = rw g at c in (r.heap, omega (arith, r.room))

  pub waits_not : (cs : List ℕ) → b ≡ false → CanWait q m (gainer v e) cs → Waits q m (gainer v e) cs cs m
  unfolding gainer
  waits_not cs h c =
      let g : marked gained v ≡ false = sym t ∙ h in
      rw g (record { heap = c.heap; holds = λ es s. rw (append-nil es) s; count = omega arith; kept = kept_none q (q + 2 * m) cs })

-- THE CANDIDATES OF ONE PAIR

positive : (n : ℕ) → (n ≡ 0 → ⊥) → 0 < n
positive n h = below_or_not 0 n (λ l. l) (λ l. absurd (h (omega arith)))

one_not : (b : Bool) (e : Candidate) → cond (b && false) (e ∷ []) [] ≡ []
one_not true e = refl
one_not false e = refl

one_too : (b : Bool) (e : Candidate) → cond (b && true) (e ∷ []) [] ≡ cond b (e ∷ []) []
one_too true e = refl
one_too false e = refl

gainers_none : (σ : ℕ → State) (k : ℕ) → (σ k).count ≡ 0 → gainers σ (k ∷ []) ≡ []
unfolding gainers
gainers_none σ k e = rw e (one_not (marked gained (σ k).marks) (record { count = 0; key = k }))

gainers_one : (σ : ℕ → State) (k : ℕ) → 0 < (σ k).count → gainers σ (k ∷ []) ≡ gainer (σ k).marks (record { count = (σ k).count; key = k })
unfolding gainers gainer
gainers_one σ k h = rw (lt-ltb 0 (σ k).count h) (one_too (marked gained (σ k).marks) (record { count = (σ k).count; key = k }))

-- ITS STATE

pub settled_none : (s : State) → s.count ≡ 0 → settled s ≡ blank
unfolding settled
settled_none s e = rw (eq-eqb s.count 0 e)

pub settled_some : (s : State) → (s.count ≡ 0 → ⊥) → settled s ≡ record { count = s.count; marks = cleared s.marks; words = s.words }
unfolding settled
settled_some s n = rw (ne_eqb s.count 0 n)

-- ONE PAIR

module _ (p : Pairs) (q m j : ℕ) (cs : List ℕ) (can : CanSettleOne p q m j cs) (r : ℕ) (er : r ≡ nth cs (behind p + j)) where
  module _ (k : ℕ) (ek : k ≡ key_in p cs r) where
    key_is : k ≡ key_in p cs (nth cs (behind p + j))
    key_is = rw er at ek

    pub one_has : Has p k r cs
    one_has = rw (key_is, er) can.has

    pub one_pos : 0 < k
    one_pos = one_has.pos

    -- a pair without a count
    pub one_removed : (v : ℕ) → v ≡ (state p cs k).count → v ≡ 0 → (ds : List ℕ) → Removed p k cs ds
        → OneSettled p q m (key_in p cs (nth cs (behind p + j))) cs ds m
    one_removed v ev z ds d = rw (← key_is) (record {
      ok = d.ok;
      change = record { here = d.change.here ∙ sym gone; others = d.change.others };
      records = d.records;
      list = λ i a b. d.kept.same i (inr (omega arith));
      heap = heap_same q m cs ds can.heap d.kept.long (λ i a b. d.kept.same i (inr (omega (arith, can.apart))));
      holds = λ es s. rw (none, append-nil es) (holds-kept es q m p.base (behind p) cs ds s d.kept (inr (omega (arith, can.apart))));
      same = d.same;
      count = rw none (omega arith);
      kept = kept_wide p.base (q + 2 * m) (omega arith) (omega (arith, can.apart)) d.kept;
    })
      where
        zero_count : (state p cs k).count ≡ 0
        zero_count = sym ev ∙ z

        none : gainers (state p cs) (k ∷ []) ≡ []
        none = gainers_none (state p cs) k zero_count

        gone : settled (state p cs k) ≡ blank
        gone = settled_none (state p cs k) zero_count

    -- a pair with a count
    module _ (v l n : ℕ) (ev : v ≡ (state p cs k).marks) (el : l ≡ cleared v) (en : n ≡ (state p cs k).count) (ds : List ℕ)
        (u : Updated p k r (record { count = (state p cs k).count; marks = l; words = (state p cs k).words }) cs ds) where
      gives : (n ≡ 0 → ⊥) → gainers (state p cs) (k ∷ []) ≡ gainer v (record { count = n; key = k })
      gives some = rw (ev, en) (gainers_one (state p cs) k (positive (state p cs k).count (λ z. some (en ∙ z))))

      pub one_can_wait : (n ≡ 0 → ⊥) → CanWait q m (gainer v (record { count = n; key = k })) ds
      one_can_wait some =
          let r : q + 2 * (m + length (gainers (state p cs) (k ∷ []))) ≤ length cs = rw key_is can.room in
          record {
            heap = heap_same q m cs ds can.heap u.kept.long (λ i a b. u.kept.same i (inr (omega (arith, can.apart))));
            room = omega (arith, r, ap length (gives some), u.kept.long);
          }

      pub one_waits : (n ≡ 0 → ⊥) → (es : List ℕ) (m' : ℕ) → Waits q m (gainer v (record { count = n; key = k })) ds es m'
          → OneSettled p q m (key_in p cs (nth cs (behind p + j))) cs es m'
      one_waits some es m' w = rw (← key_is) (record {
        ok = same.ok;
        change = record { here = same.states k one_pos ∙ u.change.here ∙ sym new; others = λ d h o. same.states d h ∙ u.change.others d h o };
        records = λ d h o. same.records d h ∙ u.records d h;
        list = λ i a b. w.kept.same i (inl (omega (arith, can.apart))) ∙ u.kept.same i (inr (omega arith));
        heap = w.heap;
        holds = λ fs s. rw (gives some) (w.holds fs (holds-kept fs q m p.base (behind p) cs ds s u.kept (inr (omega (arith, can.apart)))));
        same = same.same ∙ u.same;
        count = rw (gives some) w.count;
        kept =
            kept_then (kept_wide p.base (q + 2 * m') (omega arith) (omega (arith, can.apart)) u.kept)
            (kept_wide p.base (q + 2 * m') (omega (arith, can.apart)) (omega arith) w.kept);
      })
        where
          same : SamePairs p ds es
          same = pairs_kept p ds es u.has.ok w.kept (inl (omega (arith, can.apart)))

          new : settled (state p cs k) ≡ record { count = (state p cs k).count; marks = l; words = (state p cs k).words }
          new =
              settled_some (state p cs k) (λ z. some (en ∙ z))
              ∙ ap (λ (x : ℕ). record { count = (state p cs k).count; marks = x; words = (state p cs k).words }) (sym (el ∙ ap cleared ev))
