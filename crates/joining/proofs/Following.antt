-- The states follow a word: at its start, when a rewrite is reported, when a cell below them is put. Assumes nothing.
use mathlib.Core.Path.{◌≡◌, refl, sym, ap, ◌∙◌}
use mathlib.Core.List.{List, ◌∷◌, ◌++◌}
use mathlib.Core.Logic.{inr}
use Prim.Native.Nat.{ℕ, suc, ◌+◌, ◌<◌, ◌≤◌}
use native.Mathlib.Nat.{mul-le-mul_left}
use native.Mathlib.Omega.{arith}
use lib.ListN.{length, length-append}
use Rattle.runs.specs.Parts.{put, Kept}
use Rattle.runs.proofs.Frames.{kept_none, kept_then, kept_wide, kept-put}
use Rattle.rule.specs.Rewriting.{Report, before, after}
use Rattle.rule.specs.Seeding.{Entry}
use Rattle.rule.specs.Sums.{raised, symbols_in}
use Rattle.word.specs.Layout.{words_in}
use Rattle.word.specs.declared.WordSet.{WordSet}
use Rattle.word.proofs.Views.{corpus-length}
use Rattle.marks.specs.Marks.{gained, marked}
use Rattle.states.specs.State.{State, most, key}
use Rattle.states.specs.Tracking.{last_of, with_word, Gaining}
use Rattle.states.proofs.Keys.{key_pos, key_single}
use Rattle.states.proofs.Tracks.{hit_enough, tracks_hit, tracks_same, tracked_light}
use Rattle.states.proofs.Gains.{gaining_same, gaining_reported, hit_holds}
use Rattle.pairs.specs.View.{behind, state}
use Rattle.pairs.specs.Pairs.{SamePairs}
use Rattle.pairs.specs.declared.Pairs.{Pairs}
use Rattle.pairs.proofs.Clients.{pairs_kept}
use Rattle.reports.specs.Reports.{beyond, Listing, CanReport, ReportDone}
use Rattle.reports.proofs.Listed.{listing_kept, touching_same}
use Rattle.joining.specs.Joining.{Midway}
use Rattle.joining.specs.Running.{word_of, Following}
use Rattle.joining.proofs.Steps.{under_hit, hit_small, hit_unraised}
use Rattle.joining.proofs.Words.{with_same, weight_with, weight_share, use_share, under_entry}

module _ (a b x : ℕ) (w : WordSet) (p : Pairs) (k n : ℕ) (cs : List ℕ) (σ : Midway a b x w p n cs) (hk : k < w.count) where
  abbrev words : List Entry
  words = words_in w cs

  inside : k < length words
  inside = omega (arith, corpus-length cs w.starts w.count)

  -- the words lie below the states
  pub words-below : w.low ≤ p.base
  words-below = omega (arith, σ.words.in_line.span, σ.apart)

  pub follow_start : Following a b x w p k n n (word_of w k cs).symbols cs cs
  follow_start = record {
    ok = σ.ok;
    tracks = rw (with_same k words) σ.tracks;
    gaining = σ.gaining;
    listing = σ.listing;
    under = under_entry (x + 1) k words σ.under;
    fewer = omega arith;
    space = omega arith;
    places = omega arith;
    list = refl;
    records = λ q v h e. e;
    kept = kept_none w.low (beyond p) cs;
  }

  -- the frequency, which is at least 1, is no more than all symbols are
  weight_some : 1 ≤ (word_of w k cs).frequency
  weight_some = σ.weighed k inside

  -- A REWRITE of the pair behind P and before R
  module _ (m : ℕ) (P R ds : List ℕ) (τ : Following a b x w p k n m (P ++ (a ∷ b ∷ R)) cs ds) where
    abbrev told : List Report
    told = before a x (last_of P) ++ after b x R

    long : length (P ++ (a ∷ b ∷ R)) ≡ length P + suc (suc (length R))
    long = length-append P (a ∷ b ∷ R)

    long_then : length (P ++ (x ∷ R)) ≡ length P + suc (length R)
    long_then = length-append P (x ∷ R)

    -- the word is no longer than it was, and so no heavier
    light : symbols_in (with_word k (P ++ (a ∷ b ∷ R)) words) ≤ symbols_in words
    light = omega (arith, weight_with k (P ++ (a ∷ b ∷ R)) words inside, mul-le-mul_left (word_of w k cs).frequency τ.fewer)

    frequency_light : (word_of w k cs).frequency ≤ symbols_in words
    frequency_light =
        let one : 1 ≤ length (word_of w k cs).symbols = omega (arith, τ.fewer, long) in
        omega (arith, weight_share k words, mul-le-mul_left (word_of w k cs).frequency one)

    -- a pair that is raised holds x, and so is not the merged one
    other : (p' q' : ℕ) → q' < most → 1 ≤ raised p' q' told → key p' q' ≡ key a b → ⊥
    other p' q' hq l e =
        let s = key_single p' q' a b hq (omega (arith, σ.right, σ.new)) e in
        let m = rw (s.0, s.1) at l in
        omega (arith, hit_unraised a b x σ.left σ.right σ.new P R)

    pub can_report : CanReport p m told (word_of w k cs).frequency ds
    can_report = record {
      ok = τ.ok;
      small = hit_small a b x σ.left σ.right σ.new P R τ.under;
      some = weight_some;
      space = omega (arith, τ.space, τ.fewer, long, σ.space, live);
      room = τ.listing.room;
      few = omega (arith, τ.places, τ.fewer, long, σ.places, live);
      enough = hit_enough a b x k P R words inside τ.tracks;
      fits = λ p' q' hp hq l. omega (arith, tracked_light τ.tracks p' q' (other p' q' hq l) hp hq, light, frequency_light, σ.light);
    }
      where
        live : length (word_of w k cs).symbols ≤ w.live
        live = omega (arith, use_share k words, σ.words.used)

    module _ (m' : ℕ) (es : List ℕ) (d : ReportDone p m told (word_of w k cs).frequency k ds es m') where
      unraised : (p' q' : ℕ) → p' < most → q' < most → key a b ≡ key p' q' → raised p' q' told ≡ 0
      unraised p' q' hp hq e =
          let s = key_single p' q' a b hq (omega (arith, σ.right, σ.new)) (sym e) in
          rw (s.0, s.1) (hit_unraised a b x σ.left σ.right σ.new P R)

      pub follow_hit : Following a b x w p k n m' (P ++ (x ∷ R)) cs es
      follow_hit = record {
        ok = d.ok;
        tracks = tracks_hit a b x k P R words inside τ.tracks refl (omega (arith, σ.left, σ.new)) (omega (arith, σ.right, σ.new)) d.reported;
        gaining = gaining_reported x τ.gaining σ.new d.reported (λ p' q' l. hit_holds a b x (last_of P) R p' q' l);
        listing = d.listing (key a b) unraised τ.listing;
        under = under_hit (x + 1) a b x P R (omega arith) τ.under;
        fewer = omega (arith, τ.fewer, long, long_then);
        space = omega (arith, τ.space, long, long_then, d.more);
        places = omega (arith, τ.places, long, long_then, d.most);
        list = d.reported.still a b (omega (arith, σ.left, σ.new)) (omega (arith, σ.right, σ.new))
            (hit_unraised a b x σ.left σ.right σ.new P R) ∙ τ.list;
        records = λ q v h e. d.records q v h (τ.records q v h e);
        kept = kept_then τ.kept (kept_wide w.low (beyond p) words-below (omega arith) d.kept);
      }

  -- A CELL PUT below the states, which are as they were, and so is their list
  module _ (m : ℕ) (l ds : List ℕ) (τ : Following a b x w p k n m l cs ds) (i v : ℕ) (lo : w.low ≤ i) (hi : i < p.base) (es : List ℕ) (e : es ≡ put ds i v) where
    put_kept : Kept i (i + 1) ds es
    put_kept = rw e (kept-put i (i + 1) ds i v (omega arith) (omega arith))

    same : SamePairs p ds es
    same = pairs_kept p ds es τ.ok put_kept (inr (omega arith))

    listed : Listing p (key a b) m es
    listed =
        listing_kept p (key a b) m ds es τ.listing same.ok put_kept.long (λ j _. put_kept.same (behind p + j) (inr (omega arith)))
        (λ q r z d. same.records q z ∙ d)
        (touching_same (λ q z. ap (λ (s : State). s.marks) (same.states q z)) τ.listing.touching)

    gaining : Gaining (state p es) x
    gaining =
        gaining_same x {c = key a b} {s = state p es (key a b)}
        (record { here = refl; others = λ c z _. same.states c z })
        (ap (λ (s : State). s.count) (same.states (key a b) (key_pos a b)))
        (ap (λ (s : State). marked gained s.marks) (same.states (key a b) (key_pos a b)))
        τ.gaining

    pub follow-put : Following a b x w p k n m l cs es
    follow-put = record {
      ok = same.ok;
      tracks = tracks_same same.states τ.tracks;
      gaining = gaining;
      listing = listed;
      under = τ.under;
      fewer = τ.fewer;
      space = omega (arith, τ.space, same.same);
      places = τ.places;
      list = ap (λ (s : State). s.words) (same.states (key a b) (key_pos a b)) ∙ τ.list;
      records = λ q z h r. same.records q h ∙ τ.records q z h r;
      kept = kept_then τ.kept (kept_wide w.low (beyond p) lo (omega arith) put_kept);
    }
