-- What stays where at most one record, its key's entry in the index and cells of no other list change. Assumes nothing.
use mathlib.Core.Path.{◌≡◌, refl, sym, ap, ◌∙◌}
use mathlib.Core.Bool.{Bool, true, false, cond}
use mathlib.Core.List.{List}
use mathlib.Core.Logic.{◌⊎◌, inl, inr}
use Prim.Native.Nat.{ℕ, zero, suc, ◌+◌, ◌*◌, ◌<◌, ◌≤◌}
use native.Mathlib.Omega.{arith}
use native.Mathlib.Numerals.{add-one}
use lib.Dec.{ltb}
use borrow.Author.Tests.{ltb-true, ltb-false}
use lib.ListN.{length}
use Rattle.runs.specs.Parts.{nth, part}
use Rattle.runs.proofs.Parts.{same_or_not, part_ext}
use Rattle.index.specs.Index.{Index, vacant, idle}
use Rattle.records.specs.Records.{Arena, field, taken, free}
use Rattle.records.proofs.Laws.{field_of, field_low}
use Rattle.states.specs.State.{blank}
use Rattle.pairs.specs.View.{arena_at, data_at, behind, record_of, key_in, many, place, capacity, words_of, record_state, state, top, made, sum, credit, spent}
use Rattle.pairs.specs.Pairs.{Tied, Run, Long, Pairing}
use Rattle.pairs.specs.declared.Pairs.{Pairs}

-- SUMS

pub sum-same : (n : ℕ) (f g : ℕ → ℕ) → ((j : ℕ) → j < n → g j ≡ f j) → sum n g ≡ sum n f
unfolding sum
sum-same zero f g e = refl
sum-same (suc n) f g e = let i = sum-same n f g (λ j h. e j (omega arith)) in omega (arith, i, e n (omega arith))

-- where only one term differs
pub sum_change : (n : ℕ) (f g : ℕ → ℕ) (r : ℕ) → r < n → ((j : ℕ) → j < n → (j ≡ r → ⊥) → g j ≡ f j) → sum n g + f r ≡ sum n f + g r
unfolding sum
sum_change zero f g r h e = absurd (omega arith)
sum_change (suc n) f g r h e =
    same_or_not n r
    (λ w. let i = sum-same n f g (λ j l. e j (omega arith) (omega arith)) in omega (arith, i, ap f w, ap g w))
    (λ w. let i = sum_change n f g r (omega arith) (λ j l m. e j (omega arith) m) in omega (arith, i, e n (omega arith) w))

-- THE VIEW OF A KEY

pub state_has : (p : Pairs) (cs : List ℕ) (k r : ℕ) → record_of p cs k ≡ r + 1 → state p cs k ≡ record_state p cs r
unfolding state
state_has p cs k r e = rw (e ∙ add-one r)

pub state_none : (p : Pairs) (cs : List ℕ) (k : ℕ) → record_of p cs k ≡ 0 → state p cs k ≡ blank
unfolding state
state_none p cs k e = rw e

-- a number is 0 or one more than another
pub zero_or_more : {P : Type 0} (v : ℕ) → (v ≡ 0 → P) → ((r : ℕ) → v ≡ r + 1 → P) → P
zero_or_more zero f g = f refl
zero_or_more (suc r) f g = g r (sym (add-one r))

-- the used cells of the lists are no more than those that they may take
pub top-most : (p : Pairs) (cs : List ℕ) → Pairing p cs → top p cs ≤ 4 * p.most
unfolding spent
top-most p cs ok = omega (arith, ok.cells, ok.bound)

-- a long list lies in the room
pub long_fits : (p : Pairs) (cs : List ℕ) (r : ℕ) → Pairing p cs → Long p cs r → data_at p + place p cs r + many p cs r ≤ behind p
long_fits p cs r ok l = let u = ok.runs r l in omega (arith, u.fits, u.below, top-most p cs ok)

-- A RECORD whose fields are the same, and the cells of its list
module _ (p : Pairs) (was is : List ℕ) (r : ℕ) (long : length is ≡ length was) (room : behind p ≤ length was) (low : r < p.most) where
  pub words-same : ((g : ℕ) → 3 ≤ g → g < 8 → field (arena_at p) is r g ≡ field (arena_at p) was r g)
      → (4 < many p was r → data_at p + place p was r + many p was r ≤ behind p)
      → (4 < many p was r → (j : ℕ) → j < many p was r → nth is (data_at p + place p was r + j) ≡ nth was (data_at p + place p was r + j))
      → words_of p is r ≡ words_of p was r
  unfolding words_of
  words-same f fits l = rw (f 3 (omega arith) (omega arith), f 4 (omega arith) (omega arith)) (go (ltb 4 (many p was r)) refl)
    where
      go : (b : Bool) → ltb 4 (many p was r) ≡ b
          → cond b (part (data_at p + place p was r) (many p was r) is) (part (arena_at p + 3 + r * 8 + 4) (many p was r) is)
          ≡ cond b (part (data_at p + place p was r) (many p was r) was) (part (arena_at p + 3 + r * 8 + 4) (many p was r) was)
      go true e = let h = ltb-true 4 (many p was r) e in part_ext _ _ is was (omega (arith, fits h)) long (l h)
      go false e =
          let h = ltb-false 4 (many p was r) e in
          part_ext _ _ is was (omega (arith, h)) long
          (λ j a.
          let s : arena_at p + 3 + r * 8 + 4 + j ≡ arena_at p + 3 + r * 8 + (4 + j) = omega arith in
          rw s
          (sym (field_of (arena_at p) is r (4 + j) (field_low (arena_at p) is r 3 (omega (arith, a, f 3 (omega arith) (omega arith)))))
          ∙ f (4 + j) (omega arith) (omega (arith, h))
          ∙ field_of (arena_at p) was r (4 + j) (field_low (arena_at p) was r 3 (omega (arith, a)))))

  pub record_same : ((g : ℕ) → g < 8 → field (arena_at p) is r g ≡ field (arena_at p) was r g)
      → (4 < many p was r → data_at p + place p was r + many p was r ≤ behind p)
      → (4 < many p was r → (j : ℕ) → j < many p was r → nth is (data_at p + place p was r + j) ≡ nth was (data_at p + place p was r + j))
      → record_state p is r ≡ record_state p was r
  unfolding record_state
  record_same f fits l = rw (f 1 (omega arith), f 2 (omega arith), words-same (λ g _ h. f g h) fits l)

-- its share of the cells is told by its key, how many words it has, and its capacity
pub credit-same : (p : Pairs) (was is : List ℕ) (r : ℕ) → key_in p is r ≡ key_in p was r → many p is r ≡ many p was r → capacity p is r ≡ capacity p was r
    → credit p is r ≡ credit p was r
unfolding credit
credit-same p was is r a b c = rw (a, b, c)

-- A CHANGE: at most the record r, the entry of the key k, and cells of no other list
pub record Moved (p : Pairs) (k r : ℕ) (was is : List ℕ) : Type 0 where
  pub records : (q : ℕ) → 0 < q → (q ≡ k → ⊥) → record_of p is q ≡ record_of p was q
  pub fields : (s g : ℕ) → s < p.most → g < 8 → (s ≡ r → ⊥) → field (arena_at p) is s g ≡ field (arena_at p) was s g
  pub lists : (s j : ℕ) → (s ≡ r → ⊥) → Long p was s → j < many p was s → nth is (data_at p + place p was s + j) ≡ nth was (data_at p + place p was s + j)
  pub owner : (q : ℕ) → 0 < q → record_of p was q ≡ r + 1 → q ≡ k
  pub long : length is ≡ length was

module _ (p : Pairs) (k r : ℕ) (was is : List ℕ) (ok : Pairing p was) (mv : Moved p k r was is) where
  -- the record of another key is another
  pub moved_apart : (q s : ℕ) → 0 < q → (q ≡ k → ⊥) → record_of p was q ≡ s + 1 → s ≡ r → ⊥
  moved_apart q s h n e w = n (mv.owner q h (e ∙ rw w))

  pub moved_state : (q : ℕ) → 0 < q → (q ≡ k → ⊥) → state p is q ≡ state p was q
  moved_state q h n =
      zero_or_more (record_of p was q)
      (λ e. state_none p is q (mv.records q h n ∙ e) ∙ sym (state_none p was q e))
      (λ s e. state_has p is q s (mv.records q h n ∙ e) ∙ same s e ∙ sym (state_has p was q s e))
    where
      same : (s : ℕ) → record_of p was q ≡ s + 1 → record_state p is s ≡ record_state p was s
      same s e =
          let t = ok.tied q s h e in
          let w = moved_apart q s h n e in
          let l : 4 < many p was s → Long p was s = λ m. record { low = t.low; live = rw t.key h; long = m } in
          record_same p was is s mv.long ok.room t.low (λ g b. mv.fields s g t.low b w)
          (λ m. long_fits p was s ok (l m)) (λ m j a. mv.lists s j w (l m) a)

  -- how the cells spent change with the record's share
  pub moved_spent : r < p.most → spent p is + top p was + credit p was r ≡ spent p was + top p is + credit p is r
  unfolding spent
  moved_spent low = omega (arith, sum_change p.most (credit p was) (credit p is) r low same)
    where
      same : (j : ℕ) → j < p.most → (j ≡ r → ⊥) → credit p is j ≡ credit p was j
      same j h n =
          credit-same p was is j (mv.fields j 0 h (omega arith) n) (mv.fields j 3 h (omega arith) n) (mv.fields j 5 h (omega arith) n)

  moved_long : (s : ℕ) → (s ≡ r → ⊥) → Long p is s → Long p was s
  moved_long s n l =
      record {
        low = l.low;
        live = rw (mv.fields s 0 l.low (omega arith) n) at l.live;
        long = rw (mv.fields s 3 l.low (omega arith) n) at l.long;
      }

  -- THE INVARIANT, from what is left to say of k and r
  pub moved_ok : Index p.base p.cap is → Arena (arena_at p) p.most is
      → (0 < k → (s : ℕ) → record_of p is k ≡ s + 1 → Tied p k s is)
      → idle p.base p.cap is + taken (arena_at p) is ≡ p.cap + free (arena_at p) is
      → taken (arena_at p) is ≤ made p is
      → p.cap ≤ vacant p.base p.cap is + made p is
      → spent p is ≤ 4 * made p is
      → made p is ≤ p.most
      → top p was ≤ top p is
      → (Long p is r → Run p is r)
      → ((s : ℕ) → (s ≡ r → ⊥) → Long p is r → Long p was s
      → (place p is r + capacity p is r ≤ place p was s) ⊎ (place p was s + capacity p was s ≤ place p is r))
      → Pairing p is
  moved_ok ix ar ti ev fe sl ce bo grown ru ap =
      record {
        ix = ix;
        ar = ar;
        room = omega (arith, ok.room, mv.long);
        tied = tied;
        even = ev;
        few = fe;
        slots = sl;
        cells = ce;
        bound = bo;
        wide = ok.wide;
        runs = runs;
        apart = apart;
      }
    where
      tied : (q s : ℕ) → 0 < q → record_of p is q ≡ s + 1 → Tied p q s is
      tied q s h e =
          same_or_not q k (λ w. rw w (ti (rw w at h) s (rw w at e)))
          (λ n.
          let d : record_of p was q ≡ s + 1 = sym (mv.records q h n) ∙ e in
          let t = ok.tied q s h d in
          record { low = t.low; key = mv.fields s 0 t.low (omega arith) (moved_apart q s h n d) ∙ t.key })

      runs : (s : ℕ) → Long p is s → Run p is s
      runs s l =
          same_or_not s r (λ w. rw w (ru (rw w at l)))
          (λ n.
          let u = ok.runs s (moved_long s n l) in
          let a = mv.fields s 3 l.low (omega arith) n in
          let b = mv.fields s 4 l.low (omega arith) n in
          let c = mv.fields s 5 l.low (omega arith) n in
          record { fits = omega (arith, u.fits, a, c); below = omega (arith, u.below, b, c, grown) })

      -- r against another
      one : (s : ℕ) → (s ≡ r → ⊥) → Long p is r → Long p is s
          → (place p is r + capacity p is r ≤ place p is s) ⊎ (place p is s + capacity p is s ≤ place p is r)
      one s n a b = rw (mv.fields s 4 b.low (omega arith) n, mv.fields s 5 b.low (omega arith) n) (ap s n a (moved_long s n b))

      turn : {A B : Type 0} → A ⊎ B → B ⊎ A
      turn (inl a) = inr a
      turn (inr b) = inl b

      apart : (s t : ℕ) → (s ≡ t → ⊥) → Long p is s → Long p is t
          → (place p is s + capacity p is s ≤ place p is t) ⊎ (place p is t + capacity p is t ≤ place p is s)
      apart s t n a b =
          same_or_not s r (λ w. rw w (one t (λ v. n (w ∙ sym v)) (rw w at a) b))
          (λ m.
          same_or_not t r (λ w. rw w (turn (one s m (rw w at b) a)))
          (λ o.
          rw (mv.fields s 4 a.low (omega arith) m, mv.fields s 5 a.low (omega arith) m, mv.fields t 4 b.low (omega arith) o, mv.fields t 5 b.low (omega arith) o)
          (ok.apart s t n (moved_long s m a) (moved_long t o b))))
