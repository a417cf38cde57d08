-- The laws of visiting the words of a pair's list: how many at a time, a word, one stretch of the list behind another, the end, where no word holds the
-- pair. Assumes nothing.
use mathlib.Core.Path.{◌≡◌, refl, sym, ap, ◌∙◌}
use mathlib.Core.List.{List}
use Prim.Native.Nat.{ℕ, ◌+◌, ◌^◌, ◌<◌, ◌≤◌}
use native.Mathlib.Omega.{arith}
use lib.ListN.{length}
use Rattle.runs.specs.Parts.{nth, put}
use Rattle.runs.proofs.Parts.{same_or_not, below_or_not, nth-put, nth-put_other}
use Rattle.runs.proofs.Frames.{kept_then, kept_wide}
use Rattle.rule.specs.Rewriting.{rewrite, count_in}
use Rattle.rule.specs.Seeding.{Entry}
use Rattle.rule.specs.Training.{rewrite_all}
use Rattle.rule.proofs.Rewriting.{gone}
use Rattle.word.specs.Layout.{entry_at, words_in}
use Rattle.word.specs.declared.WordSet.{WordSet}
use Rattle.word.proofs.Views.{corpus-length}
use Rattle.merge.specs.Merging.{change_at}
use Rattle.merge.proofs.Changes.{change_this, change_other}
use Rattle.states.specs.State.{key, Among}
use Rattle.states.proofs.Keys.{key_pos}
use Rattle.pairs.specs.View.{state}
use Rattle.pairs.specs.Pairs.{Has}
use Rattle.pairs.specs.declared.Pairs.{Pairs}
use Rattle.lists.proofs.Reading.{words_fit}
use Rattle.reports.specs.Reports.{beyond}
use Rattle.joining.specs.Joining.{Midway, JoinedWord, JoinedAll}
use Rattle.joining.specs.Running.{word_of}
use Rattle.joining.specs.Visiting.{together, CanLook, Weights, holds, Visiting}
use Rattle.joining.specs.declared.Joined.{Joined}
use Rattle.joining.proofs.Words.{frequency_change, rewrite_twice, rewrite_all_none}

-- HOW MANY AT A TIME
module _ {n : ℕ} where
  pub together-within : {m : ℕ} → m ≡ together n → (m ≤ n) × (m ≤ 16) × (0 < n → 0 < m)
  together-within e = (omega arith, omega arith, λ h. omega arith)

-- as the code has the pair's key, c, and how many words its list has
module _ {k c : ℕ} (e : c ≡ k) (p : Pairs) (cs : List ℕ) where
  pub has_key : {r : ℕ} → Has p k r cs → Has p c r cs
  has_key h = rw e h

-- THE FREQUENCIES, one word after the other
module _ {w : WordSet} {p : Pairs} {c r i n : ℕ} {cs : List ℕ} (h : CanLook w p c r i n cs) where
  -- a word's place in the list is a number of the machine
  pub look_small : i + n < 2 ^ 61
  look_small = omega (arith, h.low, words_fit p c r cs h.has, h.words.small)

  module _ {j : ℕ} (l : j < n) where
    pub look_at : i + j < length (state p cs c).words
    look_at = omega (arith, h.low)

    pub weights_more : {k f : ℕ} (fs : List ℕ) → length fs ≡ 16 → Weights w p c i j cs fs → k ≡ nth (state p cs c).words (i + j) → f ≡ (word_of w k cs).frequency
        → Weights w p c i (j + 1) cs (put fs j f)
    weights_more fs long ws ek ef s m =
        same_or_not s j
        (λ (e : s ≡ j). rw e (nth-put fs j _ (omega (arith, h.few)) ∙ ef ∙ rw ek))
        (λ d. nth-put_other fs j _ s d ∙ ws s (omega arith))

-- A WORD OF THE LIST
module _ {a b x : ℕ} {w : WordSet} {p : Pairs} {n : ℕ} {cs : List ℕ} (σ : Midway a b x w p n cs) where
  abbrev list : List ℕ
  list = (state p cs (key a b)).words

  pub listed_low : (i : ℕ) → i < length list → nth list i < w.count
  listed_low i l =
      let q : Among (nth list i) list = record { at = i; low = l; is = refl } in
      omega (arith, σ.tracks.inside (key a b) (nth list i) (key_pos a b) q, corpus-length cs w.starts w.count)

  -- the frequencies of some can be looked up
  pub can_look : {c r i some : ℕ} → c ≡ key a b → Has p (key a b) r cs → i + some ≤ length list → some ≤ 16 → CanLook w p c r i some cs
  can_look {c} {r} {i} {some} e h l f =
      let k : CanLook w p (key a b) r i some cs = record { words = σ.words; has = h; low = l; few = f; inside = λ j m. listed_low (i + j) (omega arith) } in
      rw e k

  module _ {r : ℕ} (h : Has p (key a b) r cs) {i k : ℕ} (l : i < length list) (next : k ≡ nth list i) {es : List ℕ} {d : Joined} (g : JoinedWord a b x w p k cs es d) where
    abbrev words : List Entry
    words = words_in w cs

    new_left : x ≡ a → ⊥
    new_left e = omega (arith, σ.left)

    new_right : x ≡ b → ⊥
    new_right e = omega (arith, σ.right)

    inside : k < length words
    inside = rw next (omega (arith, listed_low i l, corpus-length cs w.starts w.count))

    -- the word visited holds the pair no more; the others are as they were
    this : count_in a b (entry_at (change_at (rewrite a b x) k words) k).symbols ≡ 0
    this = rw (change_this (rewrite a b x) k words inside) (gone a b x new_left new_right (entry_at words k).symbols)

    still : (s : ℕ) → holds a b w s cs ≡ 0 → count_in a b (entry_at (change_at (rewrite a b x) k words) s).symbols ≡ 0
    still s z = same_or_not s k (λ (e : s ≡ k). rw e this) (λ d. rw (change_other (rewrite a b x) k s words d) z)

    pub visiting_word : Visiting a b x w p r i (i + 1) d.touched d.words cs es
    visiting_word = record {
      midway = g.midway;
      has = record { ok = g.midway.ok; pos = key_pos a b; at = g.records (key a b) r (key_pos a b) h.at; low = h.low };
      numbers = g.numbers;
      view = ap (rewrite_all a b x) g.view ∙ rewrite_twice a b x new_left new_right k words;
      weights = λ s. rw g.view (frequency_change (rewrite a b x) k s words);
      done = λ s lo hi. let z : s ≡ i = omega arith in rw (z, sym next, g.view) this;
      still = rw g.view still;
      list = g.list;
      records = g.records;
      kept = g.kept;
    }

-- ONE STRETCH BEHIND ANOTHER
module _ {a b x : ℕ} {w : WordSet} {p : Pairs} {r i j m : ℕ} {v : WordSet} {cs ds : List ℕ} (σ : Visiting a b x w p r i j m v cs ds) where
  abbrev visited : List ℕ
  visited = (state p cs (key a b)).words

  pub visiting_then : {j' m' : ℕ} {v' : WordSet} {es : List ℕ} → Visiting a b x v p r j j' m' v' ds es → Visiting a b x w p r i j' m' v' cs es
  visiting_then {j'} {m'} {v'} {es} τ = record {
    midway = τ.midway;
    has = τ.has;
    numbers = record {
      starts_is = τ.numbers.starts_is ∙ σ.numbers.starts_is;
      count_is = τ.numbers.count_is ∙ σ.numbers.count_is;
      low_is = τ.numbers.low_is ∙ σ.numbers.low_is;
      top_is = τ.numbers.top_is ∙ σ.numbers.top_is;
      live_is = refl;
    };
    view = τ.view ∙ σ.view;
    weights = λ k. τ.weights k ∙ σ.weights k;
    done = λ s lo hi. below_or_not s j
        (λ l. τ.still (nth visited s) (σ.done s lo l))
        (λ l. rw σ.list at (τ.done s l hi));
    still = λ k z. τ.still k (σ.still k z);
    list = τ.list ∙ σ.list;
    records = λ q u z e. τ.records q u z (σ.records q u z e);
    kept = kept_then σ.kept (kept_wide w.low (beyond p) (omega (arith, σ.numbers.low_is)) (omega arith) τ.kept);
  }

  -- the word that is next, as the code reads it; c is the pair's key
  module _ {c : ℕ} (ec : c ≡ key a b) (l : j < length visited) where
    module _ {k : ℕ} (ek : k ≡ nth (state p ds c).words j) where
      next : k ≡ nth (state p ds (key a b)).words j
      next = rw ec at ek

      pub visiting_count : k < v.count
      visiting_count = rw next (listed_low σ.midway j (rw σ.list l))

      pub visiting_weight : {f : ℕ} → f ≡ (word_of w (nth (state p cs c).words j) cs).frequency → f ≡ (word_of v k ds).frequency
      visiting_weight ef = (rw (ec, ← σ.list, ← next) at ef) ∙ sym (σ.weights k)

      pub visiting_turn : {es : List ℕ} {d : Joined} → JoinedWord a b x v p k ds es d → Visiting a b x w p r i (j + 1) d.touched d.words cs es
      visiting_turn g = visiting_then (visiting_word σ.midway σ.has (rw σ.list l) next g)

  -- where the whole list is visited, no word holds the pair
  pub visiting_end : i ≡ 0 → length visited ≤ j → JoinedAll a b x w p cs ds (record { words = v; touched = m })
  visiting_end first all = record { midway = σ.midway; view = sym (rewrite_all_none a b x (words_in v ds) none) ∙ σ.view; numbers = σ.numbers; records = σ.records; kept = σ.kept }
    where
      -- a word that held the pair would stand in the list
      listed : (k : ℕ) → Among k (state p ds (key a b)).words → holds a b v k ds ≡ 0
      listed k q =
          let e : nth visited q.at ≡ k = rw σ.list at q.is in
          let l : q.at < length visited = rw σ.list at q.low in
          rw e at (σ.done q.at (omega arith) (omega arith))

      none : (k : ℕ) → holds a b v k ds ≡ 0
      none k =
          below_or_not 0 (holds a b v k ds)
          (λ l. listed k (σ.midway.tracks.covers a b k (omega (arith, σ.midway.left, σ.midway.new)) (omega (arith, σ.midway.right, σ.midway.new)) l))
          (λ l. omega arith)
