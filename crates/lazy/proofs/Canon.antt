-- The queue in the order of choice is a canonical form: the order in which entries came in does not matter, nor the place where a heap keeps them.
use mathlib.Core.Path.{◌≡◌, refl, sym, ap, ◌∙◌, subst}
use mathlib.Core.Bool.{Bool, true, false, cond, ◌&&◌}
use mathlib.Core.List.{List, [], ◌∷◌, ◌++◌, append-nil}
use Prim.Native.Nat.{ℕ, zero, suc, ◌≤◌}
use native.Mathlib.Omega.{arith}
use lib.Dec.{eqb, leb}
use borrow.Author.Tests.{lt-leb}
use Rattle.rule.specs.Seeding.{Entry}
use Rattle.rule.specs.Rewriting.{bit, is_pair}
use Rattle.rule.specs.Training.{count, Choice, better}
use Rattle.rule.proofs.Rewriting.{pair_true}
use Rattle.lazy.specs.Lazy.{insert, entries, Pair, live, enter, enter_all}
use Rattle.lazy.specs.Invariant.{First, Every, Sorted, ordered}
use Rattle.lazy.proofs.Order.{Says, better-says, first_trans, first_anti, differ}
use Rattle.lazy.proofs.Spots.{In, here, there}
use Rattle.lazy.proofs.Queue.{every_insert, sorted_insert, entries-insert, is_of-live, enter_case, enter_has}
use Rattle.lazy.proofs.Stale.{is_pair_sym}

-- TWO ENTRIES MAY CHANGE TURNS
swap_front : (e f : Choice) (qu : List Choice) → cond (better e f) (e ∷ f ∷ qu) (f ∷ e ∷ qu) ≡ cond (better f e) (f ∷ e ∷ qu) (e ∷ f ∷ qu)
swap_front e f qu = go (better e f) (better f e) (better-says e f) (better-says f e)
  where
    go : (b c : Bool) → Says b e f → Says c f e → cond b (e ∷ f ∷ qu) (f ∷ e ∷ qu) ≡ cond c (f ∷ e ∷ qu) (e ∷ f ∷ qu)
    go true true h k = let p = first_anti e f h k in cc
    go true false h k = refl
    go false true h k = refl
    go false false h k = let p = first_anti f e h k in cc

-- f before g, and e not
not_before : (e f g : Choice) → better f g ≡ true → better e g ≡ false → better e f ≡ false
not_before e f g h k = go (better e f) refl (better-says e f)
  where
    says_true : (b : Bool) → b ≡ true → Says b f g → First f g
    says_true true z m = m
    says_true false z m = differ false z refl

    says_false : (b : Bool) → b ≡ false → Says b e g → First g e
    says_false true z m = differ true refl z
    says_false false z m = m

    go : (b : Bool) → better e f ≡ b → Says b e f → b ≡ false
    go true m s =
        let p : e ≡ f = first_anti e f s (first_trans (says_true (better f g) h (better-says f g)) (says_false (better e g) k (better-says e g))) in
        let n : better f g ≡ false = subst (λ (d : Choice). better d g ≡ false) p k in
        differ (better f g) h n
    go false m s = refl

pub insert_comm : (e f : Choice) (qu : List Choice) → insert e (insert f qu) ≡ insert f (insert e qu)
unfolding insert
insert_comm e f [] = swap_front e f []
insert_comm e f (g ∷ qu) = go (better e g) (better f g) refl refl (insert_comm e f qu)
  where
    go : (b c : Bool) → better e g ≡ b → better f g ≡ c → insert e (insert f qu) ≡ insert f (insert e qu)
        → insert e (cond c (f ∷ g ∷ qu) (g ∷ insert f qu)) ≡ insert f (cond b (e ∷ g ∷ qu) (g ∷ insert e qu))
    go true true h k m = rw (h, k) (swap_front e f (g ∷ qu))
    go true false h k m = rw (h, k, not_before f e g h k)
    go false true h k m = rw (h, k, not_before e f g k h)
    go false false h k m = rw (h, k, m)

-- an entry before which none stands goes to the front
pub insert_front : (e : Choice) (qu : List Choice) → Every (First e) qu → insert e qu ≡ e ∷ qu
unfolding insert
insert_front e [] h = refl
insert_front e (f ∷ qu) h = go (better e f) (better-says e f) (insert_front e qu h.1)
  where
    go : (b : Bool) → Says b e f → insert e qu ≡ e ∷ qu → cond b (e ∷ f ∷ qu) (f ∷ insert e qu) ≡ e ∷ f ∷ qu
    go true k m = refl
    go false k m = let p = first_anti f e k h.0 in cc

pub ordered_middle : (l : List Choice) (e : Choice) (r : List Choice) → ordered (l ++ (e ∷ r)) ≡ insert e (ordered (l ++ r))
unfolding ordered
ordered_middle [] e r = refl
ordered_middle (f ∷ l) e r = rw (ordered_middle l e r) (insert_comm f e (ordered (l ++ r)))

pub ordered_push : (l : List Choice) (e : Choice) → ordered (l ++ (e ∷ [])) ≡ insert e (ordered l)
ordered_push l e = ordered_middle l e [] ∙ ap (λ (k : List Choice). insert e (ordered k)) (append-nil l)

ordered_every : (P : Choice → Type 0) (l : List Choice) → Every P l → Every P (ordered l)
unfolding ordered
ordered_every P [] h = tt
ordered_every P (e ∷ l) h = every_insert P e (ordered l) h.0 (ordered_every P l h.1)

pub ordered_sorted : (l : List Choice) → Sorted (ordered l)
unfolding ordered
ordered_sorted [] = tt
ordered_sorted (e ∷ l) = sorted_insert e (ordered l) (ordered_sorted l)

-- a heap's root, before which none stands, is the first of the queue
pub ordered_root : (e : Choice) (l : List Choice) → Every (First e) l → ordered (e ∷ l) ≡ e ∷ ordered l
unfolding ordered
ordered_root e l h = insert_front e (ordered l) (ordered_every (First e) l h)

-- PAIRS MAY BE ENTERED IN ANY ORDER and more than once
module _ (es : List Entry) where
  enter_present : (c : Pair) (qu : List Choice) → 1 ≤ entries c.left c.right qu → enter es c qu ≡ qu
  enter_present c qu h = enter_case es (λ l. l ≡ qu) c qu (λ _. refl) (λ z. absurd (omega arith))

  -- a pair that does not occur is not entered
  pub enter_absent : (c : Pair) (qu : List Choice) → count c.left c.right es ≡ 0 → enter es c qu ≡ qu
  unfolding enter
  enter_absent c qu z = rw (lt-leb 1 (count c.left c.right es) (omega arith))

  enter_twice : (c : Pair) (qu : List Choice) → enter es c (enter es c qu) ≡ enter es c qu
  enter_twice c qu = go (count c.left c.right es) refl
    where
      go : (n : ℕ) → count c.left c.right es ≡ n → enter es c (enter es c qu) ≡ enter es c qu
      go zero z = enter_absent c (enter es c qu) z
      go (suc n) z = enter_present c (enter es c qu) (enter_has es c qu (omega arith))

  -- another pair's entry changes nothing for this one
  other_entries : (c d : Pair) (qu : List Choice) → is_pair c.left c.right d.left d.right ≡ false
      → entries c.left c.right (enter es d qu) ≡ entries c.left c.right qu
  other_entries c d qu n = enter_case es (λ l. entries c.left c.right l ≡ entries c.left c.right qu) d qu (λ _. refl)
      (λ z. entries-insert c.left c.right (live es d.left d.right) qu
      ∙ (let k = is_of-live c.left c.right es d.left d.right ∙ ap bit n in omega arith))

  abbrev entering : Pair → ℕ → Bool
  entering c n = leb 1 (count c.left c.right es) && eqb n 0

  enter_by : (c : Pair) (qu : List Choice) (n : ℕ) → entries c.left c.right qu ≡ n → enter es c qu ≡ cond (entering c n) (insert (live es c.left c.right) qu) qu
  unfolding enter
  enter_by c qu n h = rw h

  enter_comm : (c d : Pair) (qu : List Choice) → enter es c (enter es d qu) ≡ enter es d (enter es c qu)
  enter_comm c d qu = go (is_pair c.left c.right d.left d.right) refl
    where
      lc : Choice
      lc = live es c.left c.right

      ld : Choice
      ld = live es d.left d.right

      four : (b a : Bool) → cond b (insert lc (cond a (insert ld qu) qu)) (cond a (insert ld qu) qu) ≡ cond a (insert ld (cond b (insert lc qu) qu)) (cond b (insert lc qu) qu)
      four true true = insert_comm lc ld qu
      four true false = refl
      four false true = refl
      four false false = refl

      go : (b : Bool) → is_pair c.left c.right d.left d.right ≡ b → enter es c (enter es d qu) ≡ enter es d (enter es c qu)
      go true h =
          let y = pair_true c.left c.right d.left d.right h in
          let p : d ≡ c = λ i. record { left = y.0 i; right = y.1 i } in
          rw p
      go false h =
          enter_by c (enter es d qu) (entries c.left c.right qu) (other_entries c d qu h)
          ∙ ap (λ (l : List Choice). cond (entering c (entries c.left c.right qu)) (insert lc l) l) (enter_by d qu (entries d.left d.right qu) refl)
          ∙ four (entering c (entries c.left c.right qu)) (entering d (entries d.left d.right qu))
          ∙ ap (λ (l : List Choice). cond (entering d (entries d.left d.right qu)) (insert ld l) l) (sym (enter_by c qu (entries c.left c.right qu) refl))
          ∙ sym (enter_by d (enter es c qu) (entries d.left d.right qu) (other_entries d c qu (is_pair_sym d.left d.right c.left c.right ∙ h)))

  absorb : {c : Pair} {cs : List Pair} (qu : List Choice) → In c cs → enter_all es cs (enter es c qu) ≡ enter_all es cs qu
  unfolding enter_all
  absorb {c} qu (here {cs = cs}) = ap (enter_all es cs) (enter_twice c qu)
  absorb {c} qu (there {d = d} {cs = cs} h) = ap (enter_all es cs) (enter_comm d c qu) ∙ absorb (enter es d qu) h

  later : (c : Pair) (cs : List Pair) (qu : List Choice) → enter_all es cs (enter es c qu) ≡ enter es c (enter_all es cs qu)
  unfolding enter_all
  later c [] qu = refl
  later c (d ∷ cs) qu = ap (enter_all es cs) (enter_comm d c qu) ∙ later c cs (enter es d qu)

  enter_all_comm : (cs ds : List Pair) (qu : List Choice) → enter_all es cs (enter_all es ds qu) ≡ enter_all es ds (enter_all es cs qu)
  unfolding enter_all
  enter_all_comm cs [] qu = refl
  enter_all_comm cs (d ∷ ds) qu = enter_all_comm cs ds (enter es d qu) ∙ ap (enter_all es ds) (later d cs qu)

  -- entered before, or not occurring: nothing is added
  subset : (cs ds : List Pair) → ((c : Pair) → In c ds → 1 ≤ count c.left c.right es → In c cs) → (qu : List Choice) → enter_all es cs (enter_all es ds qu) ≡ enter_all es cs qu
  unfolding enter_all
  subset cs [] h qu = refl
  subset cs (d ∷ ds) h qu = subset cs ds (λ c m. h c (there m)) (enter es d qu) ∙ go (count d.left d.right es) refl
    where
      go : (n : ℕ) → count d.left d.right es ≡ n → enter_all es cs (enter es d qu) ≡ enter_all es cs qu
      go zero z = ap (enter_all es cs) (enter_absent d qu z)
      go (suc n) z = absorb qu (h d here (omega arith))

  -- two lists that hold the same pairs that occur
  pub enter_all-same : (cs ds : List Pair) → ((c : Pair) → In c cs → 1 ≤ count c.left c.right es → In c ds)
      → ((c : Pair) → In c ds → 1 ≤ count c.left c.right es → In c cs) → (qu : List Choice) → enter_all es cs qu ≡ enter_all es ds qu
  enter_all-same cs ds f g qu = sym (subset cs ds g qu) ∙ enter_all_comm cs ds qu ∙ subset ds cs f qu
