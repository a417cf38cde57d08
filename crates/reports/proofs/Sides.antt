-- The reports of a step: those of one side, a pair lowered and a pair raised, and those of both. Assumes nothing.
use mathlib.Core.Path.{refl, sym, ap}
use mathlib.Core.Bool.{Bool, true, false}
use mathlib.Core.List.{List, [], ◌∷◌, ◌++◌}
use Prim.Native.Nat.{ℕ, ◌*◌, ◌<◌, ◌≤◌}
use native.Mathlib.Nat.{mul-le-mul_left}
use native.Mathlib.Omega.{arith}
use Rattle.runs.proofs.Parts.{same_or_not}
use Rattle.runs.proofs.Frames.{kept_none, kept_then}
use Rattle.rule.specs.Rewriting.{bit, is_pair, Report, less, more, before, after}
use Rattle.rule.specs.Sums.{raised, lowered}
use Rattle.rule.proofs.Rewriting.{pair_hit}
use Rattle.rule.proofs.Reports.{raised-append, lowered-append}
use Rattle.std.specs.Prelude.{Option, Some, None}
use Rattle.step.specs.Step.{standing, following, reports_of}
use Rattle.step.specs.declared.Step.{Step}
use Rattle.states.specs.State.{most, key, lower}
use Rattle.states.specs.Tracking.{Reported, Small}
use Rattle.states.proofs.Keys.{key_pos}
use Rattle.states.proofs.Reports.{reported_none, reported_then, reported_raise, reported_lower}
use Rattle.pairs.specs.View.{state}
use Rattle.pairs.specs.declared.Pairs.{Pairs}
use Rattle.reports.specs.Reports.{beyond, CanRaise, RaiseDone, CanLower, LowerDone, swapped, CanSide, SideDone, CanReport, ReportDone}

bit-most : (c : Bool) → bit c ≤ 1
bit-most true = omega arith
bit-most false = omega arith

-- WHAT A SIDE LOWERS AND RAISES
module _ (a b c d : ℕ) where
  side_lowers : 1 ≤ lowered a b (swapped a b c d)
  unfolding lowered
  side_lowers = omega (arith, ap bit (pair_hit a b a b refl refl))

  side_raises : 1 ≤ raised c d (swapped a b c d)
  unfolding raised
  side_raises = omega (arith, ap bit (pair_hit c d c d refl refl))

  -- no pair twice
  side_once : (p q : ℕ) → raised p q (swapped a b c d) ≤ 1
  unfolding raised
  side_once p q = omega (arith, bit-most (is_pair p q c d))

  side_small : Small (swapped a b c d) → (a < most) × (b < most) × (c < most) × (d < most)
  unfolding Small
  side_small s = (s.0, s.1, s.2.0, s.2.1)

none_once : (p q : ℕ) → raised p q [] ≤ 1
unfolding raised
none_once p q = omega arith

-- ONE SIDE: a lowering, then a raise
module _ (a b c d : ℕ) {p : Pairs} {n f : ℕ} {cs : List ℕ} (can : CanSide p n (swapped a b c d) f cs) where
  small : (a < most) × (b < most) × (c < most) × (d < most)
  small = side_small a b c d can.small

  swap_enough : f ≤ (state p cs (key a b)).count
  swap_enough = omega (arith, can.enough a b small.0 small.1, mul-le-mul_left f (side_lowers a b c d))

  pub swap-lower : CanLower p n a b f cs
  swap-lower = record {
    ok = can.ok;
    left = small.0;
    right = small.1;
    room = can.room;
    few = omega (arith, can.few);
    some = omega (arith, swap_enough, can.some);
    enough = swap_enough;
  }

  module _ {ds : List ℕ} {m : ℕ} (l : LowerDone p n a b f cs ds m) where
    -- no count is more than it was
    lowered_most : (q : ℕ) → 0 < q → (state p ds q).count ≤ (state p cs q).count
    unfolding lower
    lowered_most q z = same_or_not q (key a b)
        (λ i. rw (i, l.change.here) (omega arith))
        (λ h. rw (l.change.others q z h) (omega arith))

    pub swap-raise : CanRaise p m c d f ds
    swap-raise = record {
      ok = l.ok;
      left = small.2;
      right = small.3;
      space = omega (arith, l.same, can.space);
      room = omega (arith, l.kept.long, can.room);
      few = omega (arith, l.most, can.few);
      fits = omega (arith, can.fits c d small.2 small.3 (side_raises a b c d), lowered_most (key c d) (key_pos c d));
    }

    module _ (w : ℕ) {es : List ℕ} {m' : ℕ} (r : RaiseDone p m c d f w ds es m') where
      swap_reported : Reported f w (swapped a b c d) (state p cs) (state p es)
      swap_reported = reported_then f w (less a b ∷ []) (more c d ∷ [])
          (reported_lower f w a b small.0 small.1 swap_enough l.change)
          (reported_raise f w c d small.2 small.3 r.change)

      pub swap-done : SideDone p n (swapped a b c d) f w cs es m'
      swap-done = record {
        ok = r.ok;
        reported = swap_reported;
        listing = λ e h g. r.listing e
            (λ i. let z = h c d small.2 small.3 (sym i) in omega (arith, z, side_raises a b c d))
            (l.listing e g);
        records = λ q v z h. r.records q v z (l.records q v z h);
        least = omega (arith, l.same, r.more);
        more = omega (arith, l.same, r.more);
        most = omega (arith, l.most, r.most);
        kept = kept_then l.kept r.kept;
      }

-- where no symbol stands there, nothing is reported
pub side_none : (w : ℕ) {p : Pairs} {n f : ℕ} {cs : List ℕ} → CanSide p n [] f cs → SideDone p n [] f w cs cs n
side_none w {p} {n} {f} {cs} can = record {
  ok = can.ok;
  reported = reported_none f w (state p cs) (state p cs) (λ q z. refl);
  listing = λ e h g. g;
  records = λ q v z h. h;
  least = omega arith;
  more = omega arith;
  most = omega arith;
  kept = kept_none p.base (beyond p) cs;
}

-- BOTH SIDES: some reports, then others
small_left : (rs ss : List Report) → Small (rs ++ ss) → Small rs
unfolding Small
small_left [] ss s = tt
small_left (r ∷ rs) ss s = (s.0, s.1, small_left rs ss s.2)

small_right : (rs ss : List Report) → Small (rs ++ ss) → Small ss
unfolding Small
small_right [] ss s = s
small_right (r ∷ rs) ss s = small_right rs ss s.2

module _ {p : Pairs} {n f : ℕ} (rs ss : List Report) {cs : List ℕ} where
  two_first : CanReport p n (rs ++ ss) f cs → CanSide p n rs f cs
  two_first can = record {
    ok = can.ok;
    small = small_left rs ss can.small;
    some = can.some;
    space = omega (arith, can.space);
    room = can.room;
    few = omega (arith, can.few);
    enough = λ a b ha hb. let h : lowered a b rs ≤ lowered a b (rs ++ ss) = omega (arith, lowered-append a b rs ss) in
        omega (arith, can.enough a b ha hb, mul-le-mul_left f h);
    fits = λ a b ha hb o. let h : 1 ≤ raised a b (rs ++ ss) = omega (arith, raised-append a b rs ss, o) in omega (arith, can.fits a b ha hb h);
  }

  module _ (w : ℕ) {ds : List ℕ} {m : ℕ} (x : SideDone p n rs f w cs ds m) where
    two_second : ((a b : ℕ) → raised a b rs ≤ 1) → CanReport p n (rs ++ ss) f cs → CanSide p m ss f ds
    two_second once can = record {
      ok = x.ok;
      small = small_right rs ss can.small;
      some = can.some;
      space = omega (arith, x.more, can.space);
      room = omega (arith, x.kept.long, can.room);
      few = omega (arith, x.most, can.few);
      enough = λ a b ha hb. omega (arith, can.enough a b ha hb, x.reported.counts a b ha hb, ap (λ (v : ℕ). f * v) (lowered-append a b rs ss));
      fits = λ a b ha hb o. let h : 1 ≤ raised a b (rs ++ ss) = omega (arith, raised-append a b rs ss, o) in
          omega (arith, can.fits a b ha hb h, x.reported.counts a b ha hb, mul-le-mul_left f (once a b));
    }

    two_done : {es : List ℕ} {m' : ℕ} → SideDone p m ss f w ds es m' → ReportDone p n (rs ++ ss) f w cs es m'
    two_done y = record {
      ok = y.ok;
      reported = reported_then f w rs ss x.reported y.reported;
      listing = λ e h l. y.listing e (λ a b ha hb i. omega (arith, h a b ha hb i, raised-append a b rs ss))
          (x.listing e (λ a b ha hb i. omega (arith, h a b ha hb i, raised-append a b rs ss)) l);
      records = λ q v z h. y.records q v z (x.records q v z h);
      least = omega (arith, x.least, y.least);
      more = omega (arith, x.more, y.more);
      most = omega (arith, x.most, y.most);
      kept = kept_then x.kept y.kept;
    }

-- A STEP tells of the side before it and of the side after it
before_once : (a x : ℕ) (previous : Option ℕ) (p q : ℕ) → raised p q (before a x (standing previous)) ≤ 1
unfolding before
before_once a x None = none_once
before_once a x (Some s) = side_once s a s x

module _ (a b x : ℕ) (st : Step) where
  abbrev first : List Report
  first = before a x (standing st.behind)

  abbrev second : List Report
  second = after b x (following st.ahead)

  module _ {p : Pairs} {n f : ℕ} {cs : List ℕ} where
    pub report_first : CanReport p n (reports_of a b x st) f cs → CanSide p n first f cs
    unfolding reports_of
    report_first can = two_first first second can

    module _ (w : ℕ) {ds : List ℕ} {m : ℕ} where
      pub report_second : CanReport p n (reports_of a b x st) f cs → SideDone p n first f w cs ds m → CanSide p m second f ds
      unfolding reports_of
      report_second can d = two_second first second w d (before_once a x st.behind) can

      pub report_done : {es : List ℕ} {m' : ℕ} → SideDone p n first f w cs ds m → SideDone p m second f w ds es m'
          → ReportDone p n (reports_of a b x st) f w cs es m'
      unfolding reports_of
      report_done d e = two_done first second w d e
