-- The laws of a list that is written over the front of a run, and of reports written at a place. Assumes nothing.
use mathlib.Core.Path.{◌≡◌, refl, sym, ap, ◌∙◌}
use mathlib.Core.List.{List, [], ◌∷◌, ◌++◌, append_assoc, append-nil, flat_map}
use mathlib.Core.Logic.{inr}
use Prim.Native.Nat.{ℕ, ◌+◌, ◌*◌, ◌≤◌}
use native.Mathlib.Omega.{arith}
use lib.ListN.{length, take, drop, length-append, length-drop}
use lib.Seq.{length-take-le, take-add, take_at, drop_at, drop-drop, take_all}
use Rattle.runs.specs.Parts.{part, laid}
use Rattle.runs.proofs.Parts.{laid_none, length-laid, laid-laid}
use Rattle.runs.proofs.Frames.{kept-laid, kept-part}
use Rattle.numbers.specs.Little.{spell, store}
use Rattle.numbers.proofs.Little.{length-spell}
use Rattle.rule.specs.Rewriting.{Report, less, more, before, after}
use Rattle.rule.specs.Outcome.{report_bytes}
use Rattle.rule.proofs.Lengths.{length-reports}
use Rattle.step.specs.Step.{standing, following, reports_of}
use Rattle.step.specs.declared.Step.{Step}
use Rattle.symbols.specs.Writing.{Writes, Wrote}

-- A LIST WRITTEN FROM THE FRONT

pub writes_start : (new old : List ℕ) → length new ≤ length old → Writes new old old 0 new
writes_start new old h = record { is = sym (laid_none old 0); todo = refl; inside = omega arith; fits = h }

module _ (new old now : List ℕ) (k : ℕ) where
  pub writes_long : (rest : List ℕ) → Writes new old now k rest → length now ≡ length old
  writes_long rest σ =
      ap length σ.is ∙ length-laid old 0 (take k new) (omega (arith, length-take-le k new σ.inside, σ.inside, σ.fits))

  -- there is room for what comes next
  pub writes_room : (ys rest : List ℕ) → Writes new old now k (ys ++ rest) → k + length ys ≤ length new
  writes_room ys rest σ =
      let l = ap length σ.todo in
      omega (arith, σ.inside, length-append ys rest, length-drop k new)

  pub writes_turn : (ys rest : List ℕ) (then : List ℕ) → Writes new old now k (ys ++ rest) → then ≡ laid now k ys → Writes new old then (k + length ys) rest
  writes_turn ys rest then σ e = record { is = is; todo = todo; inside = writes_room ys rest σ; fits = σ.fits }
    where
      more : take (k + length ys) new ≡ take k new ++ ys
      more = take-add k (length ys) new ∙ ap (λ (l : List ℕ). take k new ++ take (length ys) l) σ.todo ∙ ap (λ (l : List ℕ). take k new ++ l) (take_at ys rest (length ys) refl)

      todo : drop (k + length ys) new ≡ rest
      todo = sym (drop-drop (length ys) k new) ∙ ap (λ (l : List ℕ). drop (length ys) l) σ.todo ∙ drop_at ys rest (length ys) refl

      there : 0 + length (take k new) ≡ k
      there = omega (arith, length-take-le k new σ.inside)

      is : then ≡ laid old 0 (take (k + length ys) new)
      is =
          e
          ∙ ap (λ (l : List ℕ). laid l k ys) σ.is
          ∙ rw there at (laid-laid old 0 (take k new) ys (omega (arith, there, writes_room ys rest σ, σ.fits)))
          ∙ ap (λ (l : List ℕ). laid old 0 l) (sym more)

  -- what lies ahead is as it was
  pub writes_ahead : (rest : List ℕ) → Writes new old now k rest → (from n : ℕ) → k ≤ from → from + n ≤ length old → part from n now ≡ part from n old
  writes_ahead rest σ from n h f =
      let l = length-take-le k new σ.inside in
      rw σ.is (kept-part from n (kept-laid old 0 (take k new) (omega (arith, l, σ.inside, σ.fits))) f (inr (omega (arith, l))))

  pub writes_end : Writes new old now k [] → (now ≡ laid old 0 new) × (k ≡ length new)
  writes_end σ =
      let l = ap length σ.todo in
      let z : length new ≤ k = omega (arith, length-drop k new) in
      (σ.is ∙ ap (λ (l : List ℕ). laid old 0 l) (take_all k new z), omega (arith, σ.inside))

-- REPORTS AT A PLACE

pub reports-append : (l m : List Report) → flat_map report_bytes (l ++ m) ≡ flat_map report_bytes l ++ flat_map report_bytes m
unfolding flat_map
reports-append [] m = refl
reports-append (q ∷ l) m = rw (reports-append l m, append_assoc (report_bytes q) (flat_map report_bytes l) (flat_map report_bytes m))

-- three stores make a report
module _ (xs ys zs us : List ℕ) (at left right by : ℕ) where
  pub stored_report : at + 16 ≤ length xs → ys ≡ store 4 xs at left → zs ≡ store 4 ys (at + 4) right → us ≡ store 8 zs (at + 8) by
      → us ≡ laid xs at (spell 4 left ++ spell 4 right ++ spell 8 by)
  unfolding store
  stored_report h e f g =
      let p = spell 4 left in
      let q = spell 4 right in
      let lp = length-spell 4 left in
      let lq = length-spell 4 right in
      let lb = length-spell 8 by in
      let e₂ : zs ≡ laid xs at (p ++ q) =
      f ∙ ap (λ (l : List ℕ). laid l (at + 4) q) e ∙ rw lp at (laid-laid xs at p q (omega arith)) in
      let lpq : length (p ++ q) ≡ 8 = omega (arith, length-append p q) in
      g ∙ ap (λ (l : List ℕ). laid l (at + 8) (spell 8 by)) e₂ ∙ rw lpq at (laid-laid xs at (p ++ q) (spell 8 by) (omega (arith, lpq)))

-- one after the other
wrote_then : (qs rs : List Report) (was mid is-now : List ℕ) (at m n : ℕ) → at + 16 * length (qs ++ rs) ≤ length was
    → Wrote qs at was mid m → Wrote rs m mid is-now n → Wrote (qs ++ rs) at was is-now n
wrote_then qs rs was mid is-now at m n h p q = record { is = is; after = omega (arith, p.after, q.after, length-append qs rs); long = q.long ∙ p.long }
  where
    there : at + length (flat_map report_bytes qs) ≡ m
    there = omega (arith, length-reports qs, p.after)

    is : is-now ≡ laid was at (flat_map report_bytes (qs ++ rs))
    is =
        q.is
        ∙ ap (λ (l : List ℕ). laid l m (flat_map report_bytes rs)) p.is
        ∙ rw there at (laid-laid was at (flat_map report_bytes qs) (flat_map report_bytes rs) (omega (arith, length-reports qs, length-reports rs, length-append qs rs)))
        ∙ ap (λ (l : List ℕ). laid was at l) (sym (reports-append qs rs))

wrote_one : (q : Report) (was is-now : List ℕ) (at : ℕ) → at + 16 ≤ length was → is-now ≡ laid was at (report_bytes q) → Wrote (q ∷ []) at was is-now (at + 16)
unfolding flat_map
wrote_one q was is-now at h e =
    let z : flat_map report_bytes (q ∷ []) ≡ report_bytes q = append-nil (report_bytes q) in
    record {
      is = rw z e;
      after = omega arith;
      long = ap length e ∙ length-laid was at (report_bytes q) (omega (arith, ap length z, length-reports (q ∷ [])));
    }

-- two reports, or none
pub wrote_two : (l r p q at : ℕ) (was mid is-now : List ℕ) → at + 32 ≤ length was → mid ≡ laid was at (spell 4 l ++ spell 4 r ++ spell 8 18446744073709551615)
    → is-now ≡ laid mid (at + 16) (spell 4 p ++ spell 4 q ++ spell 8 1) → Wrote (less l r ∷ more p q ∷ []) at was is-now (at + 32)
unfolding report_bytes
wrote_two l r p q at was mid is-now h f g =
    let one = wrote_one (less l r) was mid at (omega arith) f in
    let two = wrote_one (more p q) mid is-now (at + 16) (omega (arith, one.long)) g in
    let z : at + 16 + 16 ≡ at + 32 = omega arith in
    rw z at (wrote_then (less l r ∷ []) (more p q ∷ []) was mid is-now at (at + 16) (at + 16 + 16) h one two)

pub wrote_none : (at : ℕ) (was : List ℕ) → Wrote [] at was was at
unfolding flat_map
wrote_none at was = record { is = sym (laid_none was at); after = omega arith; long = refl }

-- both sides are what the step tells
module _ (a b x : ℕ) (st : Step) where
  pub length_sides : length (reports_of a b x st) ≡ length (before a x (standing st.behind)) + length (after b x (following st.ahead))
  unfolding reports_of
  length_sides = length-append (before a x (standing st.behind)) (after b x (following st.ahead))

  module _ (at : ℕ) (was : List ℕ) (h : at + 16 * length (reports_of a b x st) ≤ length was) where
    pub room_behind : at + 16 * length (before a x (standing st.behind)) ≤ length was
    room_behind = omega (arith, length_sides)

    module _ (m : ℕ) (mid : List ℕ) (p : Wrote (before a x (standing st.behind)) at was mid m) where
      pub room_ahead : m + 16 * length (after b x (following st.ahead)) ≤ length mid
      room_ahead = omega (arith, length_sides, p.after, p.long)

      pub both_sides : (n : ℕ) (is-now : List ℕ) → Wrote (after b x (following st.ahead)) m mid is-now n → Wrote (reports_of a b x st) at was is-now n
      unfolding reports_of
      both_sides n is-now q = wrote_then _ _ was mid is-now at m n h p q
