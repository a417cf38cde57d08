-- The laws of a word that is rewritten and whose length is put: the set, its words and the states. Assumes nothing.
use mathlib.Core.Path.{◌≡◌, refl, sym, ◌∙◌}
use Rattle.std.specs.Prelude.{Option}
use mathlib.Core.List.{List}
use Prim.Native.Nat.{ℕ, ◌+◌, ◌-◌, ◌<◌, ◌≤◌}
use native.Mathlib.Omega.{arith}
use lib.ListN.{length}
use Rattle.runs.specs.Parts.{nth, put, Kept}
use Rattle.runs.proofs.Frames.{kept-put}
use Rattle.rule.specs.Rewriting.{rewrite}
use Rattle.rule.specs.Seeding.{Entry}
use Rattle.rule.proofs.Rewriting.{length-rewrite}
use Rattle.word.specs.Layout.{SameIn, Words, words_in}
use Rattle.word.specs.declared.WordSet.{WordSet}
use Rattle.word.proofs.Sets.{placed, corpus_as_it_was, words_as_they_were}
use Rattle.merge.specs.Cells.{RewrittenWord}
use Rattle.merge.specs.Merging.{change_at, MergedWord}
use Rattle.merge.proofs.Runs.{word_rewritten}
use Rattle.merge.proofs.Merging.{rewrites-live, word_merged}
use Rattle.merge.proofs.Joined.{merge_weight}
use Rattle.pairs.specs.declared.Pairs.{Pairs}
use Rattle.joining.specs.Joining.{Midway, JoinedWord}
use Rattle.joining.specs.Running.{spot, size, word_of, beneath, Following, Running, Ran, CanShorten, Shortened}
use Rattle.joining.specs.declared.Joined.{Joined}
use Rattle.joining.proofs.Beneath.{beneath-length, beneath_in, beneath-put}
use Rattle.joining.proofs.Words.{with_change, under_with, weighed_change}
use Rattle.joining.proofs.Following.{follow-put}
use Rattle.joining.proofs.Running.{running_end}

module _ (a b x : ℕ) (w : WordSet) (p : Pairs) (k n kept m : ℕ) (cs ds : List ℕ) (σ : Midway a b x w p n cs) (hk : k < w.count)
    (r : Ran a b x w p k n kept m cs ds) where
  abbrev place : ℕ
  place = spot w k cs

  abbrev words : List Entry
  words = words_in w cs

  -- the cells once the length is put, and as they are seen below the states
  abbrev after : List ℕ
  after = put ds (place + 1) kept

  abbrev seen : List ℕ
  seen = beneath p.base cs after

  fits : p.base ≤ length cs
  fits = omega (arith, σ.ok.room)

  ends : place + 2 + size w k cs ≤ p.base
  ends = omega (arith, σ.words.in_line.last k hk, σ.apart)

  long : length ds ≡ length cs
  long = r.follows.kept.long

  put_kept : Kept (place + 1) (place + 2) ds after
  put_kept = kept-put (place + 1) (place + 2) ds (place + 1) kept (omega arith) (omega arith)

  after_long : length after ≡ length cs
  after_long = put_kept.long ∙ long

  rewritten : RewrittenWord a b x place (size w k cs) cs seen kept
  rewritten =
      word_rewritten a b x place (size w k cs) kept cs (beneath p.base cs ds) seen (omega (arith, ends, fits)) r.cells_are
      (beneath-put p.base cs ds long fits (place + 1) kept (omega (arith, ends)))

  -- the set, its words as they are seen
  abbrev shorter : WordSet
  shorter = record { starts = w.starts; count = w.count; low = w.low; top = w.top; live = w.live - (size w k cs - kept) }

  merged : MergedWord a b x w k cs seen (record { words = shorter; rewrites = size w k cs - kept })
  merged =
      word_merged a b x w k place (size w k cs) kept cs seen σ.words hk (placed w cs σ.words k hk place refl) refl rewritten (omega (arith, σ.new))

  fewer_live : size w k cs - kept ≤ w.live
  fewer_live =
      rewrites-live a b x w k place (size w k cs) kept cs seen σ.words hk (placed w cs σ.words k hk place refl) refl rewritten (omega (arith, σ.new))

  -- and as they are
  same_in : (j : ℕ) → j < p.base → nth after j ≡ nth seen j
  same_in j l = sym (beneath_in p.base cs after after_long fits j l)

  same_long : length after ≡ length seen
  same_long = after_long ∙ sym (beneath-length p.base cs after after_long fits)

  same_places : SameIn w.starts (w.starts + w.count) seen after
  same_places j lo hi = same_in j (omega (arith, σ.words.apart, σ.words.in_line.span, σ.apart))

  same_words : SameIn w.low w.top seen after
  same_words j lo hi = same_in j (omega (arith, σ.apart))

  set : Words shorter after
  set = words_as_they_were shorter seen after merged.set same_long same_places same_words

  view : words_in w after ≡ change_at (rewrite a b x) k words
  view = corpus_as_it_was shorter seen after merged.set same_long same_places same_words ∙ merged.view

  follows : Following a b x w p k n m (rewrite a b x (word_of w k cs).symbols) cs after
  follows =
      follow-put a b x w p k n cs σ hk m (rewrite a b x (word_of w k cs).symbols) ds r.follows (place + 1) kept
      (omega (arith, σ.words.in_line.first k hk)) (omega (arith, ends)) after refl

  -- what is gone pays
  gone : length (rewrite a b x (word_of w k cs).symbols) + (size w k cs - kept) ≡ length (word_of w k cs).symbols
  gone = rw merged.rewritten (length-rewrite a b x (word_of w k cs).symbols)

  midway : Midway a b x shorter p m after
  midway = record {
    words = set;
    apart = σ.apart;
    ok = follows.ok;
    tracks = rw (view, ← with_change (rewrite a b x) k words) follows.tracks;
    gaining = follows.gaining;
    listing = follows.listing;
    left = σ.left;
    right = σ.right;
    new = σ.new;
    under = rw (view, ← with_change (rewrite a b x) k words) (under_with (x + 1) k (rewrite a b x (word_of w k cs).symbols) words follows.under σ.under);
    light = rw (view ∙ sym merged.view) (omega (arith, merge_weight a b x w k cs seen _ merged, σ.light));
    weighed = rw view (weighed_change (rewrite a b x) k words σ.weighed);
    space = omega (arith, follows.space, σ.space, gone, fewer_live);
    places = omega (arith, follows.places, σ.places, gone, fewer_live);
  }

  joined : JoinedWord a b x w p k cs after (record { words = shorter; touched = m })
  joined = record {
    midway = midway;
    view = view;
    numbers = record { starts_is = refl; count_is = refl; low_is = refl; top_is = refl; live_is = refl };
    list = follows.list;
    records = follows.records;
    kept = follows.kept;
  }

  pub ran_shorten : (start long : ℕ) → start ≡ spot w k cs + 2 → long ≡ size w k cs → CanShorten w start long kept ds
  ran_shorten start long' es el = record {
    some = omega arith;
    room = omega (arith, ends, fits, long);
    fewer = omega (arith, r.cells_are.fewer);
    live = rw el fewer_live;
  }

  pub ran_joined : (start long : ℕ) → start ≡ spot w k cs + 2 → long ≡ size w k cs → (fs : List ℕ) (j : Joined) → Shortened w start long kept m ds fs j
      → JoinedWord a b x w p k cs fs j
  ran_joined start long' es el fs j s =
      let z : start - 1 ≡ spot w k cs + 1 = omega arith in
      rw (s.is, z, s.joined, el) joined

-- as the loop ends
module _ {a b x : ℕ} {w : WordSet} {p : Pairs} {k n start long f kept at left m : ℕ} {previous : Option ℕ} {cs ds : List ℕ}
    (σ : Running a b x w p k n start long f kept at left m previous cs ds) (h : left ≤ 0) where
  ran : Ran a b x w p k n kept m cs ds
  ran = running_end σ h

  pub running_shorten : CanShorten w start long kept ds
  running_shorten = ran_shorten a b x w p k n kept m cs ds σ.midway σ.low ran start long σ.place σ.many

  pub running_joined : {fs : List ℕ} {j : Joined} → Shortened w start long kept m ds fs j → JoinedWord a b x w p k cs fs j
  running_joined {fs} {j} s = ran_joined a b x w p k n kept m cs ds σ.midway σ.low ran start long σ.place σ.many fs j s
