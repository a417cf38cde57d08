-- The laws of pushing a word. Assumes nothing.
use mathlib.Core.Path.{◌≡◌, refl, sym, ap, ◌∙◌}
use mathlib.Core.Bool.{Bool, true, false}
use mathlib.Core.List.{List, [], ◌∷◌, ◌++◌, append-nil}
use mathlib.Core.Logic.{inl, inr}
use Prim.Native.Nat.{ℕ, ◌+◌, ◌^◌, ◌≤◌, ◌<◌}
use native.Mathlib.Omega.{arith}
use lib.Dec.{ltb}
use lib.ListN.{length}
use borrow.Author.Tests.{ltb-false, lt-ltb, le-ltb}
use Rattle.runs.specs.Parts.{nth, put, part, Kept}
use Rattle.runs.proofs.Parts.{below_or_not, length-put, nth-put, nth-put_other, part_ext}
use Rattle.runs.proofs.Frames.{kept-put, kept-part}
use Rattle.rule.specs.Seeding.{keep}
use Rattle.rule.specs.Sums.{in_use}
use Rattle.word.specs.Layout.{symbol_in, symbols_at, end_at, line, by_symbols, corpus, SameIn, InLine, Words, words_in}
use Rattle.pushing.specs.Pushing.{longer, pushed, pushed_cells, Takes, Opened, Added, Pushed}
use Rattle.word.specs.declared.WordSet.{WordSet}
use Rattle.word.proofs.Views.{symbol_alone, symbols_length, symbols_more, symbols_same, corpus-more, in_use-append}
use Rattle.word.proofs.Sets.{words-kept, corpus-kept, corpus_as_it_was, in_line_same}

-- A WORD IS OPEN

pub opened : (w : WordSet) (f : ℕ) (cs ds : List ℕ) → Words w cs → w.top < length cs → ds ≡ put cs w.top f → Opened w f cs ds
opened w f cs ds σ h e =
    record {
      is = e;
      set = words-kept w cs ds _ _ σ kept (inr (omega arith));
      view = corpus-kept w cs ds _ _ σ kept (inr (omega arith));
      frequency = rw e (nth-put cs w.top f h);
      kept = kept;
    }
  where
    kept : Kept w.top (w.top + 1) cs ds
    kept = rw e (kept-put w.top (w.top + 1) cs w.top f (omega arith) (omega arith))

pub added : (w : WordSet) (n s : ℕ) (cs ds : List ℕ) → Words w cs → w.top + 2 + n < length cs → s < 2 ^ 32 → ds ≡ put cs (w.top + 2 + n) s → Added w n s cs ds
added w n s cs ds σ h l e =
    record {
      is = e;
      set = words-kept w cs ds _ _ σ kept (inr (omega arith));
      view = corpus-kept w cs ds _ _ σ kept (inr (omega arith));
      frequency = kept.same w.top (inl (omega arith));
      symbols = symbols;
      kept = kept;
    }
  where
    at : ℕ
    at = w.top + 2

    kept : Kept (at + n) (at + n + 1) cs ds
    kept = rw e (kept-put (at + n) (at + n + 1) cs (at + n) s (omega arith) (omega arith))

    value : symbol_in (nth ds (at + n)) ≡ s
    value = ap symbol_in (rw e (nth-put cs (at + n) s h)) ∙ symbol_alone s l

    symbols : symbols_at (w.top + 2) (n + 1) ds ≡ symbols_at (w.top + 2) n cs ++ (s ∷ [])
    symbols =
        symbols_more at n ds (omega (arith, kept.long))
        ∙ ap (λ (v : ℕ). symbols_at at n ds ++ (v ∷ [])) value
        ∙ ap (λ (l : List ℕ). l ++ (s ∷ [])) (symbols_same at n cs ds (kept-part at n kept (omega arith) (inl (omega arith))))

-- WHAT A PUSH TAKES
takes : (w r : WordSet) (n : ℕ) → r ≡ pushed w n → Takes w n r
unfolding pushed
takes w r n e = go (ltb n 2) refl
  where
    go : (t : Bool) → ltb n 2 ≡ t → Takes w n r
    go true h = let z : r ≡ w = rw h at e in rw z (record { starts_is = refl; low_is = refl; top-most = omega arith; count_most = omega arith })
    go false h =
        let z : r ≡ longer w n = rw h at e in
        let l = ltb-false n 2 h in
        rw z (record { starts_is = refl; low_is = refl; top-most = omega arith; count_most = omega arith })

-- A WORD OF FEWER THAN TWO SYMBOLS IS DROPPED, any other is kept

keep_few : (f : ℕ) (l : List ℕ) → length l < 2 → keep f l [] ≡ []
unfolding keep
keep_few f [] h = refl
keep_few f (s ∷ []) h = refl
keep_few f (s ∷ t ∷ l) h = absurd (omega arith)

keep_word : (f : ℕ) (l : List ℕ) → 2 ≤ length l → keep f l [] ≡ record { frequency = f; symbols = l } ∷ []
unfolding keep
keep_word f [] h = absurd (omega arith)
keep_word f (s ∷ []) h = absurd (omega arith)
keep_word f (s ∷ t ∷ l) h = refl

pub dropped : (w : WordSet) (n : ℕ) (cs : List ℕ) → Words w cs → n < 2 → w.top + 2 + n ≤ length cs → Pushed w n cs cs w
unfolding pushed pushed_cells
dropped w n cs σ h r = record {
  is = rw (lt-ltb n 2 h);
  numbers = rw (lt-ltb n 2 h);
  takes = takes w w n (rw (lt-ltb n 2 h));
  set = σ;
  view =
      rw (keep_few (nth cs w.top) (symbols_at (w.top + 2) n cs) (omega (arith, symbols_length (w.top + 2) n cs r)))
      (sym (append-nil (words_in w cs)));
  long = refl;
  same = λ j a b. refl;
}

module _ (w : WordSet) (n : ℕ) (cs ds es : List ℕ) (σ : Words w cs) (more : 2 ≤ n) (free : w.starts + w.count < w.low)
    (r : w.top + 2 + n ≤ length cs) (d : ds ≡ put cs (w.top + 1) n) (e : es ≡ put ds (w.starts + w.count) w.top) where
  long : length es ≡ length cs
  long = ap length e ∙ length-put ds (w.starts + w.count) w.top ∙ ap length d ∙ length-put cs (w.top + 1) n

  -- each cell but one is as the first put left it, and that as it came but for one
  second : (j : ℕ) → (j ≡ w.starts + w.count → ⊥) → nth es j ≡ nth ds j
  second j a = rw e (nth-put_other ds (w.starts + w.count) w.top j a)

  first : (j : ℕ) → (j ≡ w.top + 1 → ⊥) → nth ds j ≡ nth cs j
  first j a = rw d (nth-put_other cs (w.top + 1) n j a)

  same : (j : ℕ) → (j ≡ w.starts + w.count → ⊥) → (j ≡ w.top + 1 → ⊥) → nth es j ≡ nth cs j
  same j a b = second j a ∙ first j b

  start_is : nth es (w.starts + w.count) ≡ w.top
  start_is =
      rw e (nth-put ds (w.starts + w.count) w.top (omega (arith, ap length d ∙ length-put cs (w.top + 1) n, σ.in_line.span)))

  length_is : nth es (w.top + 1) ≡ n
  length_is = second (w.top + 1) (omega (arith, σ.in_line.span)) ∙ put_in
    where
      put_in : nth ds (w.top + 1) ≡ n
      put_in = rw d (nth-put cs (w.top + 1) n (omega arith))

  places : SameIn w.starts (w.starts + w.count) cs es
  places j a b = same j (omega arith) (omega (arith, σ.in_line.span))

  inside : SameIn w.low w.top cs es
  inside j a b = same j (omega arith) (omega arith)

  -- the new word
  entry_is : by_symbols (line es (nth es (w.starts + w.count))) ≡ record { frequency = nth cs w.top; symbols = symbols_at (w.top + 2) n cs }
  unfolding symbols_at
  entry_is = rw (start_is, length_is, frequency_is, rest)
    where
      frequency_is : nth es w.top ≡ nth cs w.top
      frequency_is = same w.top (omega (arith, σ.in_line.span)) (omega arith)

      rest : part (w.top + 2) n es ≡ part (w.top + 2) n cs
      rest = part_ext (w.top + 2) n es cs (omega (arith, long)) long (λ j h. same (w.top + 2 + j) (omega (arith, σ.in_line.span)) (omega arith))

  view : corpus es w.starts (w.count + 1) ≡ words_in w cs ++ keep (nth cs w.top) (symbols_at (w.top + 2) n cs) []
  view =
      corpus-more es w.starts w.count
      ∙ rw (corpus_as_it_was w cs es σ long places inside, entry_is, keep_word (nth cs w.top) (symbols_at (w.top + 2) n cs) (omega (arith, symbols_length (w.top + 2) n cs r)))

  in_line : InLine es w.starts (w.count + 1) w.low (w.top + 2 + n)
  in_line = record { span = omega (arith, σ.in_line.span); first = first; last = last; order = order }
    where
      old : InLine es w.starts w.count w.low w.top
      old = in_line_same cs es w.starts w.count w.low w.top σ.in_line places inside

      end_is : end_at es (nth es (w.starts + w.count)) ≡ w.top + 2 + n
      end_is = rw (start_is, length_is)

      first : (k : ℕ) → k < w.count + 1 → w.low ≤ nth es (w.starts + k)
      first k h = below_or_not k w.count (λ l. old.first k l) (λ l. let z : k ≡ w.count = omega arith in rw z (omega (arith, start_is, old.span)))

      last : (k : ℕ) → k < w.count + 1 → end_at es (nth es (w.starts + k)) ≤ w.top + 2 + n
      last k h = below_or_not k w.count (λ l. omega (arith, old.last k l)) (λ l. let z : k ≡ w.count = omega arith in rw z (omega (arith, end_is)))

      order : (i j : ℕ) → i < j → j < w.count + 1 → end_at es (nth es (w.starts + i)) ≤ nth es (w.starts + j)
      order i j h k =
          below_or_not j w.count (λ l. old.order i j h l) (λ l. let z : j ≡ w.count = omega arith in rw (z, start_is) (old.last i (omega arith)))

  pub pushed_word : Pushed w n cs es (longer w n)
  unfolding pushed pushed_cells in_use
  pushed_word = record {
    is = rw (le-ltb n 2 more, ← d) e;
    numbers = rw (le-ltb n 2 more);
    takes = takes w (longer w n) n (rw (le-ltb n 2 more));
    set = record { small = rw long σ.small; room = rw long r; apart = omega arith; in_line = in_line; used = used };
    view = view;
    long = long;
    same = same;
  }
    where
      used : w.live + n ≡ in_use (corpus es w.starts (w.count + 1))
      used =
          rw (view, keep_word (nth cs w.top) (symbols_at (w.top + 2) n cs) (omega (arith, symbols_length (w.top + 2) n cs r)), in_use-append)
          (omega (arith, σ.used, symbols_length (w.top + 2) n cs r))
