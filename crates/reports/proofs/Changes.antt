-- A report: the steps of a raise and of a lowering, each from what those before it did, and what they come to. Assumes nothing.
use mathlib.Core.Path.{◌≡◌, sym, ap, ◌∙◌}
use mathlib.Core.Bool.{true, false}
use mathlib.Core.List.{List}
use Prim.Native.Nat.{ℕ, ◌+◌, ◌-◌, ◌^◌, ◌<◌, ◌≤◌}
use native.Mathlib.Omega.{arith}
use Rattle.std.specs.Prelude.{Option, Some, MatchOption, IsSome}
use Rattle.std.proofs.lemmas.Option.{MatchOption-at_some}
use Rattle.std.proofs.lemmas.Bool.{some_since}
use Rattle.runs.specs.Parts.{Kept}
use Rattle.runs.proofs.Parts.{same_or_not}
use Rattle.runs.proofs.Frames.{kept_then, kept_wide}
use Rattle.states.specs.State.{State, key, raise, lower}
use Rattle.states.proofs.Keys.{key_pos}
use Rattle.pairs.specs.View.{behind, record_of, state}
use Rattle.pairs.specs.Pairs.{Pairing, Has, CanEnter, Entered, Updated}
use Rattle.pairs.specs.declared.Pairs.{Pairs}
use Rattle.pairs.proofs.Clients.{has_tied, counted_has}
use Rattle.notes.specs.Notes.{with_note, Noted}
use Rattle.reports.specs.Reports.{beyond, Staying, touch, CanTouch, TouchDone, CanRaise, RaiseDone, CanLower, LowerDone}
use Rattle.reports.proofs.Listed.{listing_marks}

-- A RAISE of the pair (a,b), whose key is k: an entry, a count, a note, a touch
module _ {p : Pairs} {n a b f k : ℕ} {cs : List ℕ} (can : CanRaise p n a b f cs) (i : k ≡ key a b) where
  above : 0 < k
  above = rw i (key_pos a b)

  pub raise-enter : CanEnter p k cs
  raise-enter = record { ok = can.ok; pos = above; space = can.space }

  module _ {r : ℕ} {ds : List ℕ} (en : Entered p k r cs ds) where
    pub raise_fits : {c : ℕ} → c ≡ (state p ds k).count → c + f < 2 ^ 64
    raise_fits e =
        let h = ap (λ (s : State). s.count) (en.states k above) ∙ ap (λ (q : ℕ). (state p cs q).count) i in
        omega (arith, e, h, can.fits)

    module _ {s t : State} {es fs : List ℕ} (up : Updated p k r s ds es) (no : Noted p k r t es fs) where
      pub raise-touch : CanTouch p k r n fs
      raise-touch = record { has = no.has; room = omega (arith, can.room, en.kept.long, up.kept.long, no.kept.long); few = can.few }

  module _ (w : ℕ) {r c m : ℕ} {ds es fs gs : List ℕ} (en : Entered p k r cs ds) (e : c ≡ (state p ds k).count)
      (up : Updated p k r (record { count = c + f; marks = (state p ds k).marks; words = (state p ds k).words }) ds es)
      (no : Noted p k r (with_note w (state p es k)) es fs) (to : TouchDone p k r n true fs gs m) where
    counted : state p es k ≡ record { count = (state p cs k).count + f; marks = (state p cs k).marks; words = (state p cs k).words }
    counted = up.change.here ∙ rw (e, en.states k above)

    raised_here : state p gs k ≡ raise f w (state p cs k)
    unfolding touch raise
    raised_here = to.change.here ∙ ap (touch true) (no.change.here ∙ ap (with_note w) counted)

    raised_others : (d : ℕ) → 0 < d → (d ≡ k → ⊥) → state p gs d ≡ state p cs d
    raised_others d z h = to.change.others d z h ∙ no.change.others d z h ∙ up.change.others d z h ∙ en.states d z

    noted_marks : (d : ℕ) → 0 < d → (state p fs d).marks ≡ (state p cs d).marks
    noted_marks d z = same_or_not d k
        (λ j. rw (j, no.change.here, counted))
        (λ h. ap (λ (s : State). s.marks) (no.change.others d z h ∙ up.change.others d z h ∙ en.states d z))

    -- the key keeps the record that it had
    noted_stay : Staying p cs fs
    noted_stay q v z h = same_or_not q k
        (λ j. let o = en.old v (rw j at h) in rw (j, ← o) no.has.at)
        (λ x. no.records q z ∙ up.records q z ∙ en.records q z x ∙ h)

    noted_kept : Kept p.base (behind p) cs fs
    noted_kept = kept_then en.kept (kept_then up.kept no.kept)

    pub raise_done : RaiseDone p n a b f w cs gs m
    raise_done = record {
      ok = to.has.ok;
      change = record {
        here = rw (← i) raised_here;
        others = λ d z h. raised_others d z (λ j. h (j ∙ i));
      };
      listing = λ x h l. to.listing x (λ _ j. h (sym i ∙ j)) (listing_marks l no.has.ok noted_kept noted_stay noted_marks);
      records = λ q v z h. to.records q z ∙ noted_stay q v z h;
      more = to.same ∙ no.same ∙ up.same ∙ en.more;
      least = to.least;
      most = to.most;
      kept = kept_then (kept_wide p.base (beyond p) (omega arith) (omega arith) noted_kept) to.kept;
    }

-- A LOWERING: the pair has a record, since it counts; then a count and a touch
module _ {p : Pairs} {n a b f k : ℕ} {cs : List ℕ} (can : CanLower p n a b f cs) (i : k ≡ key a b) where
  over : 0 < k
  over = rw i (key_pos a b)

  pub lower_find : (Pairing p cs) × (0 < k)
  lower_find = (can.ok, over)

  counts : (state p cs k).count ≡ (state p cs (key a b)).count
  counts = ap (λ (q : ℕ). (state p cs q).count) i

  module _ (o : Option ℕ) (found : MatchOption o (record_of p cs k ≡ 0) (λ r. record_of p cs k ≡ r + 1)) where
    pub lower_some : IsSome o
    lower_some =
        some_since o (record_of p cs k ≡ 0) (λ r. record_of p cs k ≡ r + 1) found
        (λ z. absurd (omega (arith, z, counted_has can.ok over (omega (arith, counts, can.some)))))

    pub lower_has : (r : ℕ) → o ≡ Some r → Has p k r cs
    lower_has r i = has_tied can.ok over (MatchOption-at_some (record_of p cs k ≡ 0) (λ r. record_of p cs k ≡ r + 1) r i found)

  pub lower_enough : {c : ℕ} → c ≡ (state p cs k).count → f ≤ c
  lower_enough e = omega (arith, e, counts, can.enough)

  pub lower-touch : {r : ℕ} {s : State} {ds : List ℕ} → Updated p k r s cs ds → CanTouch p k r n ds
  lower-touch u = record { has = u.has; room = omega (arith, can.room, u.kept.long); few = can.few }

  module _ {r c m : ℕ} {ds es : List ℕ} (e : c ≡ (state p cs k).count)
      (u : Updated p k r (record { count = c - f; marks = (state p cs k).marks; words = (state p cs k).words }) cs ds) (to : TouchDone p k r n false ds es m) where
    lowered_here : state p es k ≡ lower f (state p cs k)
    unfolding touch lower
    lowered_here = to.change.here ∙ ap (touch false) (u.change.here ∙ rw e)

    lowered_marks : (d : ℕ) → 0 < d → (state p ds d).marks ≡ (state p cs d).marks
    lowered_marks d z = same_or_not d k
        (λ j. rw (j, u.change.here))
        (λ h. ap (λ (s : State). s.marks) (u.change.others d z h))

    pub lower_done : LowerDone p n a b f cs es m
    lower_done = record {
      ok = to.has.ok;
      change = record {
        here = rw (← i) lowered_here;
        others = λ d z h. let g : d ≡ k → ⊥ = λ j. h (j ∙ i) in to.change.others d z g ∙ u.change.others d z g;
      };
      listing = λ x l. to.listing x (λ g. let z : ◌≡◌ {A = ℕ} 0 1 = cc in absurd (omega arith))
          (listing_marks l u.has.ok u.kept (λ q v z h. u.records q z ∙ h) lowered_marks);
      records = λ q v z h. to.records q z ∙ u.records q z ∙ h;
      same = to.same ∙ u.same;
      least = to.least;
      most = to.most;
      kept = kept_then (kept_wide p.base (beyond p) (omega arith) (omega arith) u.kept) to.kept;
    }
