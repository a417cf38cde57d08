-- A pair is touched: its marks, and the list, on which it stands then once. Assumes nothing.
use mathlib.Core.Path.{◌≡◌, refl, sym, ap, ◌∙◌}
use mathlib.Core.Bool.{Bool, true, false, cond}
use mathlib.Core.List.{List, [], ◌∷◌, ◌++◌}
use mathlib.Core.Logic.{inl, inr}
use Prim.Native.Nat.{ℕ, ◌+◌, ◌<◌}
use native.Mathlib.Omega.{arith}
use lib.ListN.{length}
use Rattle.runs.specs.Parts.{nth, put}
use Rattle.runs.proofs.Parts.{below_or_not, length-put, nth-put, nth-put_other}
use Rattle.runs.proofs.Frames.{kept_then, kept_wide, kept-put}
use Rattle.marks.specs.Marks.{touched, gained, marked, marking}
use Rattle.marks.proofs.Marks.{marked-same, marked_other}
use Rattle.states.specs.State.{State}
use Rattle.states.proofs.Notes.{nth_old, nth_new}
use Rattle.states.proofs.Gains.{not_both}
use Rattle.states.proofs.Touches.{touching_old, touching_new}
use Rattle.pairs.specs.View.{behind, record_of, key_in, state}
use Rattle.pairs.specs.Pairs.{Updated, SamePairs}
use Rattle.pairs.specs.declared.Pairs.{Pairs}
use Rattle.pairs.proofs.Clients.{pairs_kept}
use Rattle.reports.specs.Reports.{beyond, keys_of, Listing, Staying, touch, CanTouch, TouchDone}
use Rattle.reports.proofs.Listed.{keys_length, keys_more, links_kept, keys_kept, listing_moves, touching_same}

-- THE MARKS OF A TOUCH
module _ (s : State) where
  touch_touched : (gain : Bool) → marked touched (touch gain s).marks ≡ true
  unfolding touch
  touch_touched true = marked_other touched gained true (marking touched true s.marks) refl ∙ marked-same touched true s.marks
  touch_touched false = marked-same touched true s.marks

  -- without a gain, what has gained had gained
  touch_gained : marked gained (touch false s).marks ≡ marked gained s.marks
  unfolding touch
  touch_gained = marked_other gained touched true s.marks refl

-- the marks are put
module _ {p : Pairs} {k r m w : ℕ} (gain : Bool) {cs ds : List ℕ} where
  touch_put : w ≡ (state p cs k).marks → m ≡ cond gain (marking gained true (marking touched true w)) (marking touched true w)
      → Updated p k r (record { count = (state p cs k).count; marks = m; words = (state p cs k).words }) cs ds → Updated p k r (touch gain (state p cs k)) cs ds
  unfolding touch
  touch_put e f u = rw (← e, ← f) u

module _ (p : Pairs) (k r n : ℕ) (gain : Bool) (cs ds : List ℕ) (can : CanTouch p k r n cs) (u : Updated p k r (touch gain (state p cs k)) cs ds) where
  -- AGAIN: the list is as it was
  again_list : (e : ℕ) → marked touched (state p cs k).marks ≡ true → (gain ≡ true → k ≡ e → ⊥) → Listing p e n cs → Listing p e n ds
  again_list e t g l =
      listing_moves l u.has.ok u.kept (λ q v z h. u.records q z ∙ h)
      (touching_old l.touching can.has.pos t u.change (touch_touched (state p cs k) gain) (free gain g))
    where
      free : (b : Bool) → (b ≡ true → k ≡ e → ⊥) → marked gained (touch b (state p cs k)).marks ≡ true → k ≡ e → ⊥
      free true h m i = h refl i
      free false h m i =
          let z : 0 < e = omega (arith, can.has.pos, i) in
          not_both gained (state p cs k).marks (rw i (l.touching.ungained z)) (sym (touch_gained (state p cs k)) ∙ m)

  touched_again : marked touched (state p cs k).marks ≡ true → TouchDone p k r n gain cs ds n
  touched_again t = record {
    has = u.has;
    change = u.change;
    listing = λ e g l. again_list e t g l;
    records = u.records;
    same = u.same;
    least = omega arith;
    most = omega arith;
    kept = kept_wide p.base (beyond p) (omega arith) (omega arith) u.kept;
  }

  -- FOR THE FIRST TIME: its record is put behind the others
  module _ (es : List ℕ) (i : es ≡ put ds (behind p + n) r) where
    -- the pair states lie before it
    unmoved : SamePairs p ds es
    unmoved =
        pairs_kept {lo = behind p} {hi = beyond p} p ds es u.has.ok
        (rw i (kept-put (behind p) (beyond p) ds (behind p + n) r (omega arith) (omega (arith, can.few))))
        (inl (omega arith))

    place : behind p + n < length ds
    place = omega (arith, can.room, can.few, u.kept.long)

    last_cell : nth es (behind p + n) ≡ r
    last_cell = ap (λ (l : List ℕ). nth l (behind p + n)) i ∙ nth-put ds (behind p + n) r place

    cell : (j : ℕ) → j < n → nth es (behind p + j) ≡ nth cs (behind p + j)
    cell j h =
        ap (λ (l : List ℕ). nth l (behind p + j)) i
        ∙ nth-put_other ds (behind p + n) r (behind p + j) (λ e. omega arith)
        ∙ u.kept.same (behind p + j) (inr (omega arith))

    long : length es ≡ length cs
    long = ap length i ∙ length-put ds (behind p + n) r ∙ u.kept.long

    record_of_lem : (q : ℕ) → 0 < q → record_of p es q ≡ record_of p cs q
    record_of_lem q z = unmoved.records q z ∙ u.records q z

    first_at : record_of p es k ≡ r + 1
    first_at = record_of_lem k can.has.pos ∙ can.has.at

    first_list : (e : ℕ) → marked touched (state p cs k).marks ≡ false → Listing p e n cs → Listing p e (n + 1) es
    first_list e t l = record {
      room = omega (arith, long, l.room);
      few = omega (arith, can.few);
      link = λ j h. below_or_not j n
          (λ b. rw (keys, nth_old ks k j (omega (arith, many))) (links_kept p e n cs es l unmoved.ok long cell stay j b))
          (λ b. let x : j ≡ length ks = omega (arith, many) in let y : behind p + j ≡ behind p + n = omega arith in
          rw (keys, y, last_cell, x, nth_new ks k) first_at);
      touching = rw keys (touching_same (λ c z. ap (λ (v : State). v.marks) (unmoved.states c z))
          (touching_new l.touching can.has.pos other t u.change (touch_touched (state p cs k) gain)));
    }
      where
        ks : List ℕ
        ks = keys_of p n cs

        many : length ks ≡ n
        many = keys_length p n cs (omega (arith, l.room, can.few))

        stay : Staying p cs es
        stay q v z h = record_of_lem q z ∙ h

        keys : keys_of p (n + 1) es ≡ ks ++ (k ∷ [])
        keys =
            keys_more p n es (omega (arith, place, long, u.kept.long))
            ∙ ap (λ (l : List ℕ). l ++ (key_in p es (nth es (behind p + n)) ∷ [])) (keys_kept p e n cs es l unmoved.ok long cell stay)
            ∙ ap (λ (c : ℕ). ks ++ (c ∷ [])) (ap (key_in p es) last_cell ∙ (unmoved.ok.tied k r can.has.pos first_at).key)

        other : k ≡ e → ⊥
        other g =
            let z : 0 < e = omega (arith, can.has.pos, g) in
            not_both touched (state p cs k).marks t (rw g (l.touching.merging z))

    touched_first : marked touched (state p cs k).marks ≡ false → TouchDone p k r n gain cs es (n + 1)
    touched_first t = record {
      has = record { ok = unmoved.ok; pos = can.has.pos; at = first_at; low = can.has.low };
      change = record {
        here = unmoved.states k can.has.pos ∙ u.change.here;
        others = λ d z h. unmoved.states d z ∙ u.change.others d z h;
      };
      listing = λ e g l. first_list e t l;
      records = record_of_lem;
      same = unmoved.same ∙ u.same;
      least = omega arith;
      most = omega arith;
      kept = kept_then (kept_wide p.base (beyond p) (omega arith) (omega arith) u.kept)
          (rw i (kept-put p.base (beyond p) ds (behind p + n) r (omega arith) (omega (arith, can.few))));
    }

-- by the test of the code
module _ {p : Pairs} {k r n w m : ℕ} (gain : Bool) {t : Bool} {cs ds : List ℕ} (can : CanTouch p k r n cs) (e : w ≡ (state p cs k).marks)
    (f : m ≡ cond gain (marking gained true (marking touched true w)) (marking touched true w))
    (u : Updated p k r (record { count = (state p cs k).count; marks = m; words = (state p cs k).words }) cs ds) (g : t ≡ marked touched w) where
  test : {b : Bool} → t ≡ b → marked touched (state p cs k).marks ≡ b
  test h = ap (marked touched) (sym e) ∙ sym g ∙ h

  pub touch_again : t ≡ true → TouchDone p k r n gain cs ds n
  touch_again h = touched_again p k r n gain cs ds can (touch_put gain e f u) (test h)

  pub touch-first : {es : List ℕ} → t ≡ false → es ≡ put ds (behind p + n) r → TouchDone p k r n gain cs es (n + 1)
  touch-first {es} h i = touched_first p k r n gain cs ds can (touch_put gain e f u) es i (test h)
