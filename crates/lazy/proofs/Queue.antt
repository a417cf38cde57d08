-- Laws of the queue: sums over it, what holds of every entry, its order, and what entering keeps.
use mathlib.Core.Path.{◌≡◌, refl, ap}
use mathlib.Core.Bool.{Bool, true, false, cond, ◌&&◌}
use mathlib.Core.List.{List, [], ◌∷◌}
use Prim.Native.Nat.{ℕ, suc, ◌+◌, ◌≤◌}
use native.Mathlib.Omega.{arith}
use lib.Dec.{eqb, leb}
use lib.ListN.{length}
use borrow.Author.Tests.{eqb-true, eqb-false, leb-false}
use Rattle.rule.specs.Seeding.{Entry}
use Rattle.rule.specs.Rewriting.{bit, is_pair}
use Rattle.rule.specs.Training.{count, Choice, better}
use Rattle.rfc3629.proofs.Rows.{cond_elim}
use Rattle.rule.proofs.Rewriting.{pair_true, pair_hit}
use Rattle.lazy.specs.Lazy.{insert, total, is_of, entries, Pair, live, enter, enter_all}
use Rattle.lazy.specs.Invariant.{First, Every, Sorted}
use Rattle.lazy.proofs.Order.{Says, better-says, first_trans}
use Rattle.lazy.proofs.Spots.{In, here, there}

-- SUMS
pub total-insert : (g : Choice → ℕ) (e : Choice) (qu : List Choice) → total g (insert e qu) ≡ g e + total g qu
unfolding total insert
total-insert g e [] = refl
total-insert g e (f ∷ qu) = cond_elim (λ l. total g l ≡ g e + total g (f ∷ qu)) (better e f) (λ b. refl) (λ b. omega (arith, total-insert g e qu))

pub length-insert : (e : Choice) (qu : List Choice) → length (insert e qu) ≡ suc (length qu)
unfolding insert
length-insert e [] = refl
length-insert e (f ∷ qu) = cond_elim (λ (l : List Choice). length l ≡ suc (suc (length qu))) (better e f) (λ b. refl) (λ b. ap suc (length-insert e qu))

-- WHAT HOLDS OF EVERY ENTRY
pub every_map : {P Q : Choice → Type 0} → ((e : Choice) → P e → Q e) → (qu : List Choice) → Every P qu → Every Q qu
every_map f [] h = tt
every_map f (e ∷ qu) h = (f e h.0, every_map f qu h.1)

pub every_two : {P Q R : Choice → Type 0} → ((e : Choice) → P e → Q e → R e) → (qu : List Choice) → Every P qu → Every Q qu → Every R qu
every_two f [] h k = tt
every_two f (e ∷ qu) h k = (f e h.0 k.0, every_two f qu h.1 k.1)

pub every_insert : (P : Choice → Type 0) (e : Choice) (qu : List Choice) → P e → Every P qu → Every P (insert e qu)
unfolding insert
every_insert P e [] h k = (h, tt)
every_insert P e (f ∷ qu) h k = cond_elim (Every P) (better e f) (λ b. (h, k)) (λ b. (k.0, every_insert P e qu h k.1))

-- IN THE ORDER OF CHOICE
pub sorted_insert : (e : Choice) (qu : List Choice) → Sorted qu → Sorted (insert e qu)
unfolding insert
sorted_insert e [] h = (tt, tt)
sorted_insert e (f ∷ qu) h = go (better e f) (better-says e f) (sorted_insert e qu h.1)
  where
    go : (b : Bool) → Says b e f → Sorted (insert e qu) → Sorted (cond b (e ∷ f ∷ qu) (f ∷ insert e qu))
    go true k m = ((k, every_map (λ g l. first_trans k l) qu h.0), h)
    go false k m = (every_insert (First f) e qu k h.0, m)

-- AN ENTRY OF A PAIR that has one
pub record Found (P : Choice → Type 0) (p q : ℕ) : Type 0 where
  pub it : Choice
  pub left : it.left ≡ p
  pub right : it.right ≡ q
  pub holds : P it

pub find : (P : Choice → Type 0) (p q : ℕ) (qu : List Choice) → 1 ≤ entries p q qu → Every P qu → Found P p q
unfolding entries total
find P p q [] h k = absurd (omega arith)
find P p q (e ∷ qu) h k = go (is_pair p q e.left e.right) refl (λ m. find P p q qu m k.1) h
  where
    go : (b : Bool) → is_pair p q e.left e.right ≡ b → (1 ≤ entries p q qu → Found P p q) → 1 ≤ bit b + entries p q qu → Found P p q
    go true x f m = let y = pair_true p q e.left e.right x in record { it = e; left = y.0; right = y.1; holds = k.0 }
    go false x f m = f (omega arith)

-- a pair that has none
pub none_of : (p q : ℕ) (qu : List Choice) → entries p q qu ≡ 0 → Every (λ f. f.left ≡ p → f.right ≡ q → ⊥) qu
unfolding entries total
none_of p q [] h = tt
none_of p q (e ∷ qu) h =
    ((λ a b. let z = ap bit (pair_hit p q e.left e.right a b) in omega arith), none_of p q qu (omega arith))

pub entries_cons : (p q : ℕ) (e : Choice) (qu : List Choice) → entries p q (e ∷ qu) ≡ is_of p q e + entries p q qu
unfolding entries total
entries_cons p q e qu = refl

pub entries-insert : (p q : ℕ) (e : Choice) (qu : List Choice) → entries p q (insert e qu) ≡ is_of p q e + entries p q qu
unfolding entries
entries-insert p q e qu = total-insert (is_of p q) e qu

pub is_of-same : (e : Choice) → is_of e.left e.right e ≡ 1
is_of-same e = ap bit (pair_hit e.left e.right e.left e.right refl refl)

pub is_of-live : (p q : ℕ) (es : List Entry) (l r : ℕ) → is_of p q (live es l r) ≡ bit (is_pair p q l r)
unfolding live
is_of-live p q es l r = refl

-- ENTERING
module _ (es : List Entry) where
  -- by cases: the pair has an entry or does not occur, or it gets one
  pub enter_case : (P : List Choice → Type 0) (c : Pair) (qu : List Choice)
      → ((1 ≤ count c.left c.right es → 1 ≤ entries c.left c.right qu) → P qu)
      → (entries c.left c.right qu ≡ 0 → P (insert (live es c.left c.right) qu)) → P (enter es c qu)
  unfolding enter
  enter_case P c qu f g = go (leb 1 (count c.left c.right es)) (eqb (entries c.left c.right qu) 0) refl refl
    where
      go : (a b : Bool) → leb 1 (count c.left c.right es) ≡ a → eqb (entries c.left c.right qu) 0 ≡ b
          → P (cond (a && b) (insert (live es c.left c.right) qu) qu)
      go true true h k = g (eqb-true _ _ k)
      go true false h k = let z = eqb-false (entries c.left c.right qu) 0 k in f (λ _. omega arith)
      go false b h k = let z = leb-false 1 (count c.left c.right es) h in f (λ m. absurd (omega arith))

  -- what each new entry keeps, all keep
  pub enter_all-keeps : (P : List Choice → Type 0) (cs : List Pair)
      → ((c : Pair) → In c cs → (qu : List Choice) → entries c.left c.right qu ≡ 0 → P qu → P (insert (live es c.left c.right) qu))
      → (qu : List Choice) → P qu → P (enter_all es cs qu)
  unfolding enter_all
  enter_all-keeps P [] k qu h = h
  enter_all-keeps P (c ∷ cs) k qu h =
      enter_all-keeps P cs (λ d m. k d (there m)) (enter es c qu) (enter_case P c qu (λ _. h) (λ z. k c here qu z h))

  -- an entry stays, and each pair entered that occurs has one
  pub enter_all_stay : (p q : ℕ) (cs : List Pair) (qu : List Choice) → 1 ≤ entries p q qu → 1 ≤ entries p q (enter_all es cs qu)
  enter_all_stay p q cs qu h =
      enter_all-keeps (λ l. 1 ≤ entries p q l) cs (λ c m l z k. rw (entries-insert p q (live es c.left c.right) l) (omega arith)) qu h

  pub enter_has : (c : Pair) (qu : List Choice) → 1 ≤ count c.left c.right es → 1 ≤ entries c.left c.right (enter es c qu)
  enter_has c qu o = enter_case (λ l. 1 ≤ entries c.left c.right l) c qu (λ h. h o)
      (λ z. rw (entries-insert c.left c.right (live es c.left c.right) qu, is_of-live c.left c.right es c.left c.right)
      (let k = ap bit (pair_hit c.left c.right c.left c.right refl refl) in omega arith))

  pub enter_all_has : {c : Pair} {cs : List Pair} (qu : List Choice) → 1 ≤ count c.left c.right es → In c cs → 1 ≤ entries c.left c.right (enter_all es cs qu)
  unfolding enter_all
  enter_all_has {c} qu o (here {cs = cs}) = enter_all_stay c.left c.right cs (enter es c qu) (enter_has c qu o)
  enter_all_has qu o (there {d = d} m) = enter_all_has (enter es d qu) o m

  pub length-enter_all : (cs : List Pair) (qu : List Choice) → length (enter_all es cs qu) ≤ length qu + length cs
  unfolding enter_all
  length-enter_all [] qu = omega arith
  length-enter_all (c ∷ cs) qu =
      let h = length-enter_all cs (enter es c qu) in
      let k : length (enter es c qu) ≤ suc (length qu) =
      enter_case (λ l. length l ≤ suc (length qu)) c qu (λ _. omega arith) (λ _. omega (arith, length-insert (live es c.left c.right) qu)) in
      omega arith
