-- The laws of the loops over the positions of a word and over the words: what is done and what is to come give the whole. Assumes nothing.
use mathlib.Core.Path.{◌≡◌, refl, sym, ap, ◌∙◌}
use mathlib.Core.Bool.{Bool, true, false, cond, not}
use mathlib.Core.List.{List, [], ◌∷◌, ◌++◌}
use Prim.Native.Nat.{ℕ, ◌+◌, ◌-◌, ◌≤◌, ◌<◌}
use native.Mathlib.Omega.{arith}
use lib.ListN.{length, drop, drop_of_length-le}
use borrow.Author.Tests.{not-true, not-false}
use Rattle.std.specs.Prelude.{Option, Some, None}
use Rattle.std.proofs.lemmas.Option.{same_Some}
use Rattle.runs.specs.Parts.{nth}
use Rattle.rule.specs.Table.{Task}
use Rattle.rule.specs.Seeding.{Entry}
use Rattle.rule.specs.Sums.{Under, AllUnder}
use Rattle.rule.specs.Training.{count, within, better, best, candidates_in, candidates, choose, limits}
use Rattle.rule.specs.Training as rule
use Rattle.word.specs.Layout.{symbol_in, symbols_at, entry_at, Found, words_in}
use Rattle.word.specs.declared.WordSet.{WordSet}
use Rattle.word.specs.declared.Span.{Span}
use Rattle.word.proofs.Views.{symbols_length, symbols_two, symbols_next, corpus-length, drop_entry, under_at}
use Rattle.recount.specs.Recount.{ruled, told, pick, known, Weighed, Tried, Chosen}
use Rattle.recount.specs.declared.Choice.{Choice}
use Rattle.recount.proofs.Picking.{pick-best, better_some, Same, known-same}
use Rattle.rule.proofs.Choosing.{choose-limits}

-- THE BEST OF MANY, and of many more
pub best-append : (c : rule.Choice) (ds es : List rule.Choice) → best c (ds ++ es) ≡ best (best c ds) es
unfolding best
best-append c [] es = refl
best-append c (d ∷ ds) es = best-append (cond (better d c) d c) ds es

-- and of a choice and itself
best_itself : (c : rule.Choice) → best c (c ∷ []) ≡ c
unfolding best
best_itself c = go (better c c)
  where
    go : (b : Bool) → cond b c c ≡ c
    go true = refl
    go false = refl

-- ONE POSITION
abbrev here : List Entry → ℕ → ℕ → Choice
here es s t = record { left = s; right = t; times = count s t es }

module _ (p : List ℕ) (limit : ℕ) (ps : List (List ℕ)) (es : List Entry) (s t : ℕ) where
  pair_in : within (limits p limit) ps s t ≡ true → candidates_in (limits p limit) ps es (s ∷ t ∷ []) ≡ ruled (here es s t) ∷ []
  unfolding candidates_in ruled
  pair_in h = rw h

  pair_out : within (limits p limit) ps s t ≡ false → candidates_in (limits p limit) ps es (s ∷ t ∷ []) ≡ []
  unfolding candidates_in
  pair_out h = rw h

  module _ (d : Option Choice) (w : Weighed es d) where
    over : within (limits p limit) ps s t ≡ false → Tried p limit ps es (s ∷ t ∷ []) d d
    unfolding best
    over h = record { is = rw (pair_out h); weighed = w }

    pub try_over : (b : Bool) → b ≡ within (limits p limit) ps s t → not b ≡ true → Tried p limit ps es (s ∷ t ∷ []) d d
    try_over b e h = over (sym e ∙ not-true b h)

    -- a pair that is the best so far is no better than itself
    try_again : (c : Choice) → d ≡ Some c → Same s t c → Tried p limit ps es (s ∷ t ∷ []) d d
    unfolding told ruled
    try_again c q same = go (within (limits p limit) ps s t) refl
      where
        is_here : ruled (here es s t) ≡ told d
        is_here =
            let n : count s t es ≡ c.times = rw (← same.left, ← same.right) (sym (w.counted c q)) in
            rw (q, n, same.left, same.right)

        go : (x : Bool) → within (limits p limit) ps s t ≡ x → Tried p limit ps es (s ∷ t ∷ []) d d
        go true q = record { is = sym (ap (best (told d)) (pair_in q ∙ ap (λ (c : rule.Choice). c ∷ []) is_here) ∙ best_itself (told d)); weighed = w }
        go false q = over q

    pub try_known : (b : Bool) → b ≡ known d s t → b ≡ true → Tried p limit ps es (s ∷ t ∷ []) d d
    try_known b e h = known-same s t d (sym e ∙ h) _ try_again

    pub try_this : (b : Bool) → b ≡ within (limits p limit) ps s t → not b ≡ false → (n : ℕ) → n ≡ count s t es → (r : Option Choice)
        → r ≡ pick d (record { left = s; right = t; times = n }) → Tried p limit ps es (s ∷ t ∷ []) d r
    unfolding pick
    try_this b e h n en r er = record { is = is; weighed = weighed }
      where
        r_is : r ≡ pick d (here es s t)
        r_is = rw en at er

        is : told r ≡ best (told d) (candidates_in (limits p limit) ps es (s ∷ t ∷ []))
        is = rw (r_is, pair_in (sym e ∙ not-false b h)) (pick-best d (here es s t))

        go : (x : Bool) → better (ruled (here es s t)) (told d) ≡ x → Weighed es (cond x (Some (here es s t)) d)
        go true q = record {
          some = λ c z. let y = same_Some (here es s t) c z in rw (← y) (better_some (here es s t) d w.some q);
          counted = λ c z. let y = same_Some (here es s t) c z in rw (← y);
        }
        go false q = w

        weighed : Weighed es r
        weighed = rw r_is (go (better (ruled (here es s t)) (told d)) refl)

-- THE POSITIONS OF A WORD

pair-first : (t : Task) (ps : List (List ℕ)) (es : List Entry) (a b : ℕ) (l : List ℕ)
    → candidates_in t ps es (a ∷ b ∷ l) ≡ candidates_in t ps es (a ∷ b ∷ []) ++ candidates_in t ps es (b ∷ l)
unfolding candidates_in
pair-first t ps es a b l = go (within t ps a b)
  where
    go : (x : Bool) → cond x (record { left = a; right = b; times = count a b es } ∷ candidates_in t ps es (b ∷ l)) (candidates_in t ps es (b ∷ l))
        ≡ cond x (record { left = a; right = b; times = count a b es } ∷ []) [] ++ candidates_in t ps es (b ∷ l)
    go true = refl
    go false = refl

none_in : (t : Task) (ps : List (List ℕ)) (es : List Entry) (l : List ℕ) → length l ≤ 1 → candidates_in t ps es l ≡ []
unfolding candidates_in
none_in t ps es [] h = refl
none_in t ps es (a ∷ []) h = refl
none_in t ps es (a ∷ b ∷ l) h = absurd (omega arith)

-- every symbol is the number of a piece
module _ (m at n : ℕ) (cs : List ℕ) (b : Under m (symbols_at at n cs)) (h : 1 < n) (l : at + n ≤ length cs) where
  under_two : Under m (symbol_in (nth cs at) ∷ symbol_in (nth cs (at + 1)) ∷ symbols_at (at + 1 + 1) (n - 2) cs)
  under_two = rw (symbols_two at n cs h l) at b

  under_here : (s : ℕ) → s ≡ symbol_in (nth cs at) → s < m
  unfolding Under
  under_here s e = rw e under_two.0

  under_next : (s : ℕ) → s ≡ symbol_in (nth cs (at + 1)) → s < m
  unfolding Under
  under_next s e = rw e under_two.1.0

  under_rest : Under m (symbols_at (at + 1) (n - 1) cs)
  unfolding Under
  under_rest = rw (symbols_next at n cs h l) under_two.1

-- the loop, at the i-th symbol: what is to come begins with the symbol before it
module _ (w : WordSet) (k : ℕ) (cs : List ℕ) (r : Span) (f : Found w k cs r) where
  one : r.start + 1 - 1 ≡ r.start
  one = omega arith

  all : r.length + 1 - 1 ≡ r.length
  all = omega arith

  pub under_start : (m : ℕ) → AllUnder m (words_in w cs) → k < w.count → Under m (symbols_at (r.start + 1 - 1) (r.length + 1 - 1) cs)
  under_start m b h =
      rw (one, all, f.symbols) (under_at m (words_in w cs) k b (omega (arith, corpus-length cs w.starts w.count)))

  pub scan_start : (t : Task) (ps : List (List ℕ)) (c : rule.Choice)
      → best c (candidates_in t ps (words_in w cs) (entry_at (words_in w cs) k).symbols)
      ≡ best c (candidates_in t ps (words_in w cs) (symbols_at (r.start + 1 - 1) (r.length + 1 - 1) cs))
  scan_start t ps c = rw (one, all, f.symbols)

module _ (start n : ℕ) (cs : List ℕ) (room : start + n ≤ length cs) (i : ℕ) (low : 1 ≤ i) where
  next_at : start + (i + 1) - 1 ≡ start + i - 1 + 1
  next_at = omega arith

  next_left : n + 1 - (i + 1) ≡ n + 1 - i - 1
  next_left = omega arith

  this_at : start + i - 1 + 1 ≡ start + i
  this_at = omega arith

  module _ (m : ℕ) (b : Under m (symbols_at (start + i - 1) (n + 1 - i) cs)) (h : i < n) where
    pub under_before : (s : ℕ) → s ≡ symbol_in (nth cs (start + i - 1)) → s < m
    under_before s e = under_here m (start + i - 1) (n + 1 - i) cs b (omega arith) (omega arith) s e

    pub under_this : (t : ℕ) → t ≡ symbol_in (nth cs (start + i)) → t < m
    under_this t e = under_next m (start + i - 1) (n + 1 - i) cs b (omega arith) (omega arith) t (rw this_at e)

    pub under_more : Under m (symbols_at (start + (i + 1) - 1) (n + 1 - (i + 1)) cs)
    under_more = rw (next_at, next_left) (under_rest m (start + i - 1) (n + 1 - i) cs b (omega arith) (omega arith))

  module _ (p : List ℕ) (limit : ℕ) (ps : List (List ℕ)) (es : List Entry) (l : List ℕ) (c d : Option Choice)
      (inv : best (told c) (candidates_in (limits p limit) ps es l)
      ≡ best (told d) (candidates_in (limits p limit) ps es (symbols_at (start + i - 1) (n + 1 - i) cs))) where
    pub scan_turn : i < n → (s t : ℕ) → s ≡ symbol_in (nth cs (start + i - 1)) → t ≡ symbol_in (nth cs (start + i)) → (r : Option Choice) → Tried p limit ps es (s ∷ t ∷ []) d r
        → best (told c) (candidates_in (limits p limit) ps es l)
        ≡ best (told r) (candidates_in (limits p limit) ps es (symbols_at (start + (i + 1) - 1) (n + 1 - (i + 1)) cs))
    scan_turn h s t e f r tr =
        let at : ℕ = start + i - 1 in
        let left : ℕ = n + 1 - i in
        let g : t ≡ symbol_in (nth cs (at + 1)) = rw this_at f in
        let two : symbols_at at left cs ≡ s ∷ t ∷ symbols_at (at + 1 + 1) (left - 2) cs = rw (e, g) (symbols_two at left cs (omega arith) (omega arith)) in
        let one : symbols_at (at + 1) (left - 1) cs ≡ t ∷ symbols_at (at + 1 + 1) (left - 2) cs = rw g (symbols_next at left cs (omega arith) (omega arith)) in
        inv
        ∙ rw (next_at, next_left, two, one, pair-first (limits p limit) ps es s t (symbols_at (at + 1 + 1) (left - 2) cs), tr.is)
        (best-append (told d) (candidates_in (limits p limit) ps es (s ∷ t ∷ [])) (candidates_in (limits p limit) ps es (t ∷ symbols_at (at + 1 + 1) (left - 2) cs)))

    pub scan_end : n ≤ i → i ≤ n + 1 → Weighed es d → Tried p limit ps es l c d
    unfolding best
    scan_end h m w =
        let e = none_in (limits p limit) ps es (symbols_at (start + i - 1) (n + 1 - i) cs)
        (omega (arith, symbols_length (start + i - 1) (n + 1 - i) cs (omega arith))) in
        record { is = sym (inv ∙ ap (best (told d)) e); weighed = w }

-- THE WORDS

pub nothing-weighed : (es : List Entry) → Weighed es None
nothing-weighed es = record { some = λ d e. cc; counted = λ d e. cc }

-- the loop
module _ (p : List ℕ) (limit : ℕ) (ps : List (List ℕ)) (w : WordSet) (cs : List ℕ) where
  pub choose_start : choose (limits p limit) ps (words_in w cs)
      ≡ best (told None) (candidates (limits p limit) ps (words_in w cs) (drop 0 (words_in w cs)))
  unfolding choose told
  choose_start = refl

  module _ (k : ℕ) (d : Option Choice)
      (inv : choose (limits p limit) ps (words_in w cs)
      ≡ best (told d) (candidates (limits p limit) ps (words_in w cs) (drop k (words_in w cs)))) where
    pub choose-turn : k < w.count → (r : Option Choice)
        → Tried p limit ps (words_in w cs) (entry_at (words_in w cs) k).symbols d r
        → choose (limits p limit) ps (words_in w cs)
        ≡ best (told r) (candidates (limits p limit) ps (words_in w cs) (drop (k + 1) (words_in w cs)))
    unfolding candidates
    choose-turn h r tr =
        inv
        ∙ rw (drop_entry (words_in w cs) k (omega (arith, corpus-length cs w.starts w.count)), tr.is)
        (best-append (told d) (candidates_in (limits p limit) ps (words_in w cs) (entry_at (words_in w cs) k).symbols)
        (candidates (limits p limit) ps (words_in w cs) (drop (k + 1) (words_in w cs))))

    pub choose_end : w.count ≤ k → Weighed (words_in w cs) d → Chosen p limit ps (words_in w cs) d
    unfolding candidates best
    choose_end h v =
        let l : length (words_in w cs) ≤ k = omega (arith, corpus-length cs w.starts w.count) in
        let e : choose (limits p limit) ps (words_in w cs) ≡ told d = rw (drop_of_length-le (words_in w cs) l) at inv in
        record { is = λ t ep el. choose-limits t p limit ep el ps (words_in w cs) ∙ e; some = v.some }
