-- The pairs on the list are settled one by one. Assumes nothing.
use mathlib.Core.Path.{◌≡◌, refl, sym, ap, ◌∙◌}
use mathlib.Core.Bool.{Bool, true, false}
use mathlib.Core.List.{List, [], ◌∷◌, ◌++◌, append-nil, append_assoc}
use mathlib.Core.Logic.{◌⊎◌, inl, inr}
use Prim.Native.Nat.{ℕ, ◌+◌, ◌-◌, ◌*◌, ◌<◌, ◌≤◌}
use native.Mathlib.Omega.{arith}
use lib.ListN.{length, length-append}
use Rattle.runs.specs.Parts.{nth, part}
use Rattle.runs.proofs.Parts.{same_or_not, below_or_not, part_none, part-more, part_split, part_all}
use Rattle.runs.proofs.Frames.{kept_none, kept_then, kept_wide}
use Rattle.marks.specs.Marks.{touched, gained, marked, marking}
use Rattle.marks.proofs.Marks.{marked-same, marked_other, marked_none}
use Rattle.states.specs.State.{State, Among}
use Rattle.states.specs.Tracking.{Settled}
use Rattle.states.proofs.Gains.{not_both}
use Rattle.pairs.specs.View.{behind, record_of, key_in, state}
use Rattle.pairs.specs.declared.Pairs.{Pairs}
use Rattle.reports.specs.Reports.{keys_of, Listing}
use Rattle.reports.proofs.Listed.{keys_length}
use Rattle.waiting.specs.Waiting.{gainers}
use Rattle.waiting.proofs.Gainers.{gainers-append}
use Rattle.settling.specs.Settling.{CanSettle, SettleDone, cleared, settled, CanSettleOne, OneSettled, Settling}
use Rattle.settling.proofs.One.{settled_none, settled_some}

listed-length : (p : Pairs) (e n : ℕ) (cs : List ℕ) → Listing p e n cs → length (keys_of p n cs) ≡ n
listed-length p e n cs l = keys_length p n cs (omega (arith, l.room, l.few))

pub settle_start : (p : Pairs) (q m n : ℕ) (cs : List ℕ) → CanSettle p q m n cs → Settling p q m n 0 cs cs m
unfolding gainers
settle_start p q m n cs can =
    record {
      ok = can.ok;
      done = λ i h. absurd (omega arith);
      rest = λ c a h. refl;
      records = λ c a h. refl;
      list = λ i a b. refl;
      heap = can.heap;
      holds = λ es s. rw (part_none 0 (keys_of p n cs), append-nil es) s;
      same = refl;
      count = rw (part_none 0 (keys_of p n cs)) (omega arith);
      kept = kept_none p.base (q + 2 * m) cs;
    }

gainers-same : (σ τ : ℕ → State) (k : ℕ) → σ k ≡ τ k → gainers σ (k ∷ []) ≡ gainers τ (k ∷ [])
unfolding gainers
gainers-same σ τ k e = rw e

-- A TURN

module _ (p : Pairs) (q m n : ℕ) (was : List ℕ) (can : CanSettle p q m n was) (j : ℕ) (ds : List ℕ) (w : ℕ) (inv : Settling p q m n j was ds w) (less : j < n) where
  long : length (keys_of p n was) ≡ n
  long = listed-length p can.e n was can.listing

  pos : 0 < nth (keys_of p n was) j
  pos = can.listing.touching.some j (omega (arith, long))

  other : (i : ℕ) → i < j → nth (keys_of p n was) i ≡ nth (keys_of p n was) j → ⊥
  other i h = can.listing.touching.once i j h (omega (arith, long))

  place : nth ds (behind p + j) ≡ nth was (behind p + j)
  place = inv.list (behind p + j) (omega arith) (omega (arith, can.listing.few))

  at : record_of p ds (nth (keys_of p n was) j) ≡ nth ds (behind p + j) + 1
  at = inv.records (nth (keys_of p n was) j) pos other ∙ can.listing.link j less ∙ sym (ap (λ (r : ℕ). r + 1) place)

  key_is : key_in p ds (nth ds (behind p + j)) ≡ nth (keys_of p n was) j
  key_is = (inv.ok.tied (nth (keys_of p n was) j) (nth ds (behind p + j)) pos at).key

  mine : state p ds (nth (keys_of p n was) j) ≡ state p was (nth (keys_of p n was) j)
  mine = inv.rest (nth (keys_of p n was) j) pos other

  more : gainers (state p was) (part 0 (j + 1) (keys_of p n was)) ≡ gainers (state p was) (part 0 j (keys_of p n was)) ++ gainers (state p was) (nth (keys_of p n was) j ∷ [])
  more =
      let zero-on : 0 + j ≡ j = omega arith in
      ap (gainers (state p was)) (part-more 0 j (keys_of p n was) (omega (arith, long)) ∙ ap (λ (i : ℕ). part 0 j (keys_of p n was) ++ (nth (keys_of p n was) i ∷ [])) zero-on)
      ∙ gainers-append (state p was) (part 0 j (keys_of p n was)) (nth (keys_of p n was) j ∷ [])

  one_more_lem : gainers (state p ds) (nth (keys_of p n was) j ∷ []) ≡ gainers (state p was) (nth (keys_of p n was) j ∷ [])
  one_more_lem = gainers-same (state p ds) (state p was) (nth (keys_of p n was) j) mine

  -- those up to the j-th are no more than all
  fewer : length (gainers (state p was) (part 0 j (keys_of p n was))) + length (gainers (state p was) (nth (keys_of p n was) j ∷ [])) ≤ length (gainers (state p was) (keys_of p n was))
  fewer =
      let z : (j + 1) + (n - (j + 1)) ≡ n = omega arith in
      let a : keys_of p n was ≡ part 0 (j + 1) (keys_of p n was) ++ part (0 + (j + 1)) (n - (j + 1)) (keys_of p n was)
      = sym (part_all n (keys_of p n was) (omega (arith, long))) ∙ ap (λ (i : ℕ). part 0 i (keys_of p n was)) (sym z) ∙ part_split 0 (j + 1) (n - (j + 1)) (keys_of p n was) in
      let b = ap (λ (l : List ℕ). length (gainers (state p was) l)) a in
      let d = ap length (gainers-append (state p was) (part 0 (j + 1) (keys_of p n was)) (part (0 + (j + 1)) (n - (j + 1)) (keys_of p n was))) in
      let e = length-append (gainers (state p was) (part 0 (j + 1) (keys_of p n was))) (gainers (state p was) (part (0 + (j + 1)) (n - (j + 1)) (keys_of p n was))) in
      let f = ap length more in
      let g = length-append (gainers (state p was) (part 0 j (keys_of p n was))) (gainers (state p was) (nth (keys_of p n was) j ∷ [])) in
      omega (arith, b, d, e, f, g)

  pub settle_can : CanSettleOne p q w j ds
  settle_can =
      record {
        has = rw key_is (record { ok = inv.ok; pos = pos; at = at; low = (inv.ok.tied (nth (keys_of p n was) j) (nth ds (behind p + j)) pos at).low });
        low = omega (arith, can.listing.few);
        apart = can.apart;
        heap = inv.heap;
        room = rw (key_is, one_more_lem) (omega (arith, can.room, inv.count, inv.kept.long, fewer));
      }

  pub settle_turn : (es : List ℕ) (v : ℕ) → OneSettled p q w (key_in p ds (nth ds (behind p + j))) ds es v → Settling p q m n (j + 1) was es v
  settle_turn es v one = go (rw key_is at one)
    where
      go : OneSettled p q w (nth (keys_of p n was) j) ds es v → Settling p q m n (j + 1) was es v
      go o =
          record {
            ok = o.ok;
            done = done;
            rest = λ c a h. o.change.others c a (λ e. h j (omega arith) (sym e)) ∙ inv.rest c a (λ i l. h i (omega arith));
            records = λ c a h. o.records c a (λ e. h j (omega arith) (sym e)) ∙ inv.records c a (λ i l. h i (omega arith));
            list = λ i a b. o.list i a b ∙ inv.list i a b;
            heap = o.heap;
            holds = λ fs s. rw (more, ← append_assoc fs (gainers (state p was) (part 0 j (keys_of p n was))) (gainers (state p was) (nth (keys_of p n was) j ∷ [])))
                (rw one_more_lem at (o.holds (fs ++ gainers (state p was) (part 0 j (keys_of p n was))) (inv.holds fs s)));
            same = o.same ∙ inv.same;
            count = rw more (omega (
              arith,
              o.count,
              inv.count,
              ap length one_more_lem,
              length-append (gainers (state p was) (part 0 j (keys_of p n was))) (gainers (state p was) (nth (keys_of p n was) j ∷ [])),
            ));
            kept = kept_then (kept_wide p.base (q + 2 * v) (omega arith) (omega (arith, o.count)) inv.kept) o.kept;
          }
        where
          done : (i : ℕ) → i < j + 1 → state p es (nth (keys_of p n was) i) ≡ settled (state p was (nth (keys_of p n was) i))
          done i h =
              below_or_not i j
              (λ l. o.change.others (nth (keys_of p n was) i) (can.listing.touching.some i (omega (arith, long))) (other i l) ∙ inv.done i l)
              (λ l. let e : i ≡ j = omega arith in rw e (o.change.here ∙ ap settled mine))

-- THE END

-- a settled pair: its count stays, its words if it has one; it has no marks
settled-count : (s : State) → (settled s).count ≡ s.count
settled-count s = same_or_not s.count 0 (λ e. rw (settled_none s e) (sym e)) (λ n. rw (settled_some s n))

settled-words : (s : State) → 1 ≤ s.count → (settled s).words ≡ s.words
settled-words s h = rw (settled_some s (λ e. omega arith))

settled_inside : (s : State) (j : ℕ) → Among j (settled s).words → Among j s.words
settled_inside s j a =
    same_or_not s.count 0
    (λ e. let b : Among j [] = rw (settled_none s e) at a in absurd (omega (arith, b.low)))
    (λ n. rw (settled_some s n) at a)

settled_marks : (s : State) (k : ℕ) → marked k (cleared s.marks) ≡ false → marked k (settled s).marks ≡ false
settled_marks s k h = same_or_not s.count 0 (λ e. rw (settled_none s e) (marked_none k)) (λ n. rw (settled_some s n) h)

clear_touched : (v : ℕ) → marked touched (cleared v) ≡ false
unfolding cleared
clear_touched v = marked_other touched gained false (marking touched false v) refl ∙ marked-same touched false v

clear_gained : (v : ℕ) → marked gained (cleared v) ≡ false
unfolding cleared
clear_gained v = marked-same gained false (marking touched false v)

module _ (p : Pairs) (q m n : ℕ) (was is : List ℕ) (w : ℕ) (inv : Settling p q m n n was is w) (e : ℕ) (l : Listing p e n was) where
  long_keys : length (keys_of p n was) ≡ n
  long_keys = listed-length p e n was l

  -- a pair that is not touched, and the one that is merged, are as they were; each other pair is settled
  off_list : (c : ℕ) → (c ≡ e) ⊎ (marked touched (state p was c).marks ≡ false) → (i : ℕ) → i < n → nth (keys_of p n was) i ≡ c → ⊥
  off_list c (inl f) i h g = l.touching.other i (omega (arith, long_keys)) (g ∙ f)
  off_list c (inr f) i h g = not_both touched (state p was c).marks f (rw g at (l.touching.touches i (omega (arith, long_keys))))

  merged_as_was : (c : ℕ) → 0 < c → (c ≡ e) ⊎ (marked touched (state p was c).marks ≡ false) → state p is c ≡ state p was c
  merged_as_was c h o = inv.rest c h (off_list c o)

  on_list : (c : ℕ) → 0 < c → (c ≡ e → ⊥) → marked touched (state p was c).marks ≡ true → state p is c ≡ settled (state p was c)
  on_list c h o t = let a = l.touching.listed c h o t in rw a.is at (inv.done a.at (omega (arith, a.low, long_keys)))

  each : {P : Type 0} (c : ℕ) → 0 < c → (state p is c ≡ settled (state p was c) → P)
      → (state p is c ≡ state p was c → (c ≡ e) ⊎ (marked touched (state p was c).marks ≡ false) → P)
      → P
  each {P} c h f g =
      same_or_not c e (λ o. g (merged_as_was c h (inl o)) (inl o)) (λ o. go o (marked touched (state p was c).marks) refl)
    where
      go : (c ≡ e → ⊥) → (b : Bool) → marked touched (state p was c).marks ≡ b → P
      go o true t = f (on_list c h o t)
      go o false t = g (merged_as_was c h (inr t)) (inr t)

  all_settled : Settled e (state p was) (state p is)
  all_settled =
      record {
        counts = λ c h. each c h (λ s. ap (λ (t : State). t.count) s ∙ settled-count (state p was c)) (λ s o. ap (λ (t : State). t.count) s);
        words = λ c h k. each c h (λ s. ap (λ (t : State). t.words) s ∙ settled-words (state p was c) k) (λ s o. ap (λ (t : State). t.words) s);
        inside = λ c j h a. each c h (λ s. settled_inside (state p was c) j (rw s at a)) (λ s o. rw s at a);
        untouched = λ c h n. each c h (λ s. rw s (settled_marks (state p was c) touched (clear_touched (state p was c).marks))) (λ s o. rw s (unmarked c n o));
        ungained = λ c h n. each c h (λ s. rw s (settled_marks (state p was c) gained (clear_gained (state p was c).marks))) (λ s o. rw s (ungained c h (unmarked c n o)));
        merged = λ h. merged_as_was e h (inl refl);
      }
    where
      unmarked : (c : ℕ) → (c ≡ e → ⊥) → (c ≡ e) ⊎ (marked touched (state p was c).marks ≡ false) → marked touched (state p was c).marks ≡ false
      unmarked c n (inl o) = absurd (n o)
      unmarked c n (inr o) = o

      ungained : (c : ℕ) → 0 < c → marked touched (state p was c).marks ≡ false → marked gained (state p was c).marks ≡ false
      ungained c h u = go (marked gained (state p was c).marks) refl
        where
          go : (b : Bool) → marked gained (state p was c).marks ≡ b → marked gained (state p was c).marks ≡ false
          go true t = not_both touched (state p was c).marks u (l.touching.gains c h t)
          go false t = t

  merged_record : 0 < e → record_of p is e ≡ record_of p was e
  merged_record h = inv.records e h (off_list e (inl refl))

pub settle_end : (p : Pairs) (q m n : ℕ) (was : List ℕ) → CanSettle p q m n was → (j : ℕ) (is : List ℕ) (w : ℕ) → Settling p q m n j was is w → j ≤ n → n ≤ j
    → SettleDone p q m n was is w
settle_end p q m n was can j is w inv a b = let x : j ≡ n = omega arith in go (rw x at inv)
  where
    go : Settling p q m n n was is w → SettleDone p q m n was is w
    go i =
        record {
          ok = i.ok;
          settled = λ e l. all_settled p q m n was is w i e l;
          heap = λ es s. rw (part_all n (keys_of p n was) (omega (arith, listed-length p can.e n was can.listing))) at (i.holds es s);
          merged = λ e l. merged_record p q m n was is w i e l;
          same = i.same;
          count = rw (part_all n (keys_of p n was) (omega (arith, listed-length p can.e n was can.listing))) at i.count;
          kept = i.kept;
        }
