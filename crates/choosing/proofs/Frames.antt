-- What the rooms hold between two merges goes on to hold where only the queue changes, or where a pair is blocked. Assumes nothing.
use mathlib.Core.Path.{◌≡◌, refl, sym, ap, ◌∙◌}
use mathlib.Core.Bool.{true, false}
use mathlib.Core.List.{List}
use mathlib.Core.Logic.{inl, inr}
use Prim.Native.Nat.{ℕ, ◌<◌}
use native.Mathlib.Omega.{arith}
use lib.Dec.{eqb}
use lib.ListN.{length}
use Rattle.runs.specs.Parts.{Kept}
use Rattle.runs.proofs.Parts.{same_or_not}
use Rattle.rule.specs.Training.{count}
use Rattle.rule.specs.Seeding.{Entry}
use Rattle.word.specs.Layout.{Words, words_in}
use Rattle.word.specs.declared.WordSet.{WordSet}
use Rattle.word.proofs.Sets.{words-kept, corpus-kept}
use Rattle.marks.specs.Marks.{touched, gained, blocked, marked}
use Rattle.marks.proofs.Marks.{marked_other}
use Rattle.states.specs.State.{State, left_of, right_of, OfPair, Change}
use Rattle.states.specs.Tracking.{Tracks, Calm}
use Rattle.states.proofs.Keys.{key_pos}
use Rattle.states.proofs.Tracks.{tracks_same, tracks_marked}
use Rattle.pairs.specs.View.{behind, state, made}
use Rattle.pairs.specs.Pairs.{Pairing}
use Rattle.pairs.specs.declared.Pairs.{Pairs}
use Rattle.pairs.proofs.Clients.{pairs_kept}
use Rattle.engine.specs.Engine.{Engaged}
use Rattle.engine.proofs.Merging.{same_calm}
use Rattle.choosing.specs.Turns.{Blocked, barred}

-- THE COUNT OF A PAIR is the one that a recount finds, where no pair is being merged
pub live_exact : {σ : ℕ → State} {es : List Entry} (c : ℕ) → Tracks σ 0 es → OfPair c → (σ c).count ≡ count (left_of c) (right_of c) es
live_exact {σ} c t p =
    ap (λ (d : ℕ). (σ d).count) (sym p.is)
    ∙ t.exact (left_of c) (right_of c) p.left p.right (λ z. omega (arith, key_pos (left_of c) (right_of c), z))

-- no pair is touched where one is blocked
calm_barred : {σ τ : ℕ → State} (k : ℕ) → Change k (barred (σ k)) σ τ → Calm σ → Calm τ
calm_barred {σ} {τ} k h s = record { untouched = λ c z. other touched refl c z (s.untouched c z); ungained = λ c z. other gained refl c z (s.ungained c z) }
  where
    other : (j : ℕ) → eqb j blocked ≡ false → (c : ℕ) → 0 < c → marked j (σ c).marks ≡ false → marked j (τ c).marks ≡ false
    other j n c z e = same_or_not c k
        (λ (i : c ≡ k). rw (i, h.here) (marked_other j blocked true (σ k).marks n ∙ rw i at e))
        (λ n'. ap (λ (v : State). marked j v.marks) (h.others c z n') ∙ e)

module _ {w : WordSet} {p : Pairs} {q x : ℕ} {cs ds : List ℕ} (s : Engaged w p q x cs) where
  -- the words as they were, and states that track them
  engaged_on : words_in w ds ≡ words_in w cs → length ds ≡ length cs → Words w ds → Pairing p ds → made p ds ≡ made p cs
      → Tracks (state p ds) 0 (words_in w cs) → Calm (state p ds) → Engaged w p q x ds
  engaged_on view long words ok same tracks calm = record {
    words = words;
    apart = s.apart;
    ok = ok;
    tracks = rw view tracks;
    calm = calm;
    few = s.few;
    under = rw view s.under;
    light = rw view s.light;
    weighed = rw view s.weighed;
    space = rw same s.space;
    behind = s.behind;
    room = rw long s.room;
  }

  -- THE QUEUE CHANGES, which lies behind all else
  module _ {hi : ℕ} (k : Kept q hi cs ds) where
    pub view_behind : words_in w ds ≡ words_in w cs
    view_behind = corpus-kept w cs ds q hi s.words k (inr (omega (arith, s.apart, s.behind)))

    pub engaged_behind : Engaged w p q x ds
    engaged_behind =
        let same = pairs_kept p cs ds s.ok k (inl (omega (arith, s.behind))) in
        engaged_on view_behind k.long (words-kept w cs ds q hi s.words k (inr (omega (arith, s.apart, s.behind)))) same.ok same.same
        (tracks_same same.states s.tracks) (same_calm same.states s.calm)

  -- A PAIR IS BLOCKED
  module _ {c : ℕ} (b : Blocked p c cs ds) where
    pub view_blocked : words_in w ds ≡ words_in w cs
    view_blocked = corpus-kept w cs ds p.base (behind p) s.words b.kept (inr s.apart)

    pub engaged_blocked : Engaged w p q x ds
    engaged_blocked =
        engaged_on view_blocked b.kept.long (words-kept w cs ds p.base (behind p) s.words b.kept (inr s.apart)) b.ok b.same
        (tracks_marked b.change refl refl s.tracks) (calm_barred c b.change s.calm)
