-- Lists without repeats, the names that units have, and so how many distinct units there can be.
use mathlib.Core.Path.{◌≡◌, refl, sym, ap, ◌∙◌}
use mathlib.Core.Bool.{Bool, true, false, cond, ◌&&◌, and-eq-true_iff}
use mathlib.Core.List.{List, [], ◌∷◌, ◌++◌, map, flat_map}
use mathlib.Core.Logic.{◌⊎◌, inl, inr}
use Prim.Native.Nat.{ℕ, zero, suc, ◌+◌, ◌-◌, ◌≤◌, ◌<◌}
use native.Mathlib.Omega.{arith}
use lib.Dec.{ltb}
use lib.ListN.{length, take, drop}
use lib.Seq.{get_or-drop}
use borrow.Author.Tests.{ltb-true, lt-ltb, le-ltb}
use Rattle.runs.specs.Parts.{nth, Bytes}
use Rattle.order.specs.Order.{same}
use Rattle.rfc3629.specs.Rfc3629.{Scalar, encode, decode, Char}
use Rattle.rfc3629.specs.Rows.{char_len}
use Rattle.rfc3629.specs.Cut.{unit_len, units_by, seeded, Short}
use Rattle.rule.specs.Shapes.{parts, parts_by}
use Rattle.rule.specs.Table.{Task, chars, units, units_of, word_units, total, U}
use Rattle.runs.proofs.Parts.{same_or_not, part_bytes}
use Rattle.order.proofs.Ordered.{same_true, same_false}
use Rattle.rfc3629.proofs.Numbers.{decode_scalar, encode-decode}
use Rattle.rfc3629.proofs.Rows.{cond_elim, char_len_lem}
use Rattle.rfc3629.proofs.Units.{units_ind}
use Rattle.rfc3629.proofs.Texts.{seeded-short}
use Rattle.rule.proofs.Order.{In, Apart}
use Rattle.rule.proofs.Lengths.{length_flat}

-- MEMBERS of two lists, one behind the other
module _ (x : List ℕ) where
  pub in_append : (xs ys : List (List ℕ)) → In x (xs ++ ys) → In x xs ⊎ In x ys
  in_append [] ys i = inr i
  in_append (v ∷ xs) ys (inl e) = inl (inl e)
  in_append (v ∷ xs) ys (inr i) = go (in_append xs ys i)
    where
      go : In x xs ⊎ In x ys → ((x ≡ v) ⊎ In x xs) ⊎ In x ys
      go (inl j) = inl (inr j)
      go (inr j) = inr j

  pub in_front : (xs ys : List (List ℕ)) → In x xs → In x (xs ++ ys)
  in_front [] ys i = absurd i
  in_front (v ∷ xs) ys (inl e) = inl e
  in_front (v ∷ xs) ys (inr i) = inr (in_front xs ys i)

  pub in_behind : (xs ys : List (List ℕ)) → In x ys → In x (xs ++ ys)
  in_behind [] ys i = i
  in_behind (v ∷ xs) ys i = inr (in_behind xs ys i)

-- A LIST WITHOUT REPEATS weighs no more than one that has its members: each is taken out of that one once
unfoldable without : List ℕ → List (List ℕ) → List (List ℕ)
without s [] = []
without s (v ∷ vs) = cond (same s v) vs (v ∷ without s vs)

without_has : (s : List ℕ) (vs : List (List ℕ)) (x : List ℕ) → (x ≡ s → ⊥) → In x vs → In x (without s vs)
unfolding without
without_has s [] x d i = absurd i
without_has s (v ∷ vs) x d i = go (same s v) refl i (without_has s vs x d)
  where
    go : (c : Bool) → same s v ≡ c → (x ≡ v) ⊎ In x vs → (In x vs → In x (without s vs)) → In x (cond c vs (v ∷ without s vs))
    go true e (inl p) f = absurd (d (p ∙ sym (same_true s v e)))
    go true e (inr j) f = j
    go false e (inl p) f = inl p
    go false e (inr j) f = inr (f j)

without_sum : (f : List ℕ → ℕ) (s : List ℕ) (vs : List (List ℕ)) → In s vs → total (map f vs) ≡ f s + total (map f (without s vs))
unfolding without total
without_sum f s [] i = absurd i
without_sum f s (v ∷ vs) i = go (same s v) refl i (without_sum f s vs)
  where
    go : (c : Bool) → same s v ≡ c → (s ≡ v) ⊎ In s vs → (In s vs → total (map f vs) ≡ f s + total (map f (without s vs)))
        → f v + total (map f vs) ≡ f s + total (map f (cond c vs (v ∷ without s vs)))
    go true e j h = rw (same_true s v e)
    go false e (inl p) h = absurd (same_false s v e p)
    go false e (inr j) h = let k = h j in omega arith

pub apart_sum : (f : List ℕ → ℕ) (xs ys : List (List ℕ)) → Apart xs → ((x : List ℕ) → In x xs → In x ys) → total (map f xs) ≤ total (map f ys)
unfolding total
apart_sum f [] ys a h = omega arith
apart_sum f (x ∷ xs) ys a h =
    let k = apart_sum f xs (without x ys) a.1 (λ z i. without_has x ys z (λ e. a.0 (rw e at i)) (h z (inr i))) in
    let l = without_sum f x ys (h x (inl refl)) in
    omega arith

ones : (xs : List (List ℕ)) → total (map (λ x. 1) xs) ≡ length xs
unfolding total
ones [] = refl
ones (x ∷ xs) = let h = ones xs in omega arith

pub apart_within : (xs ys : List (List ℕ)) → Apart xs → ((x : List ℕ) → In x xs → In x ys) → length xs ≤ length ys
apart_within xs ys a h = omega (arith, ones xs, ones ys, apart_sum (λ x. 1) xs ys a h)

-- so n names serve for n members at most
unfoldable names : (ℕ → List ℕ) → ℕ → List (List ℕ)
names name zero = []
names name (suc n) = name n ∷ names name n

length_names : (name : ℕ → List ℕ) (n : ℕ) → length (names name n) ≡ n
unfolding names
length_names name zero = refl
length_names name (suc n) = ap suc (length_names name n)

names_have : (name : ℕ → List ℕ) (n k : ℕ) → k < n → In (name k) (names name n)
unfolding names
names_have name zero k h = absurd (omega arith)
names_have name (suc n) k h = same_or_not k n (λ e. inl (ap name e)) (λ d. inr (names_have name n k (omega arith)))

pub pigeon : (name : ℕ → List ℕ) (n : ℕ) (xs : List (List ℕ)) → Apart xs → ((x : List ℕ) → In x xs → (k : ℕ) × (k < n) × (x ≡ name k)) → length xs ≤ n
pigeon name n xs a h =
    let k = apart_within xs (names name n) a (λ x i. let m = h x i in rw m.2 (names_have name n m.0 m.1)) in
    omega (arith, length_names name n)

-- THE NAMES OF UNITS: the characters by their numbers, and behind them the 256 bytes
unfoldable pub unit_named : ℕ → List ℕ
unit_named c = cond (ltb c 1114112) (encode c) ((c - 1114112) ∷ [])

abbrev pub Named : List ℕ → Type 0
Named u = (c : ℕ) × (c < 1114368) × (u ≡ unit_named c)

named_number : (n : ℕ) → Scalar n → Named (encode n)
unfolding unit_named
named_number n s = (n, omega (arith, top s), sym (rw (lt-ltb n 1114112 (top s))))
  where
    top : {m : ℕ} → Scalar m → m < 1114112
    top (inl l) = omega arith
    top (inr k) = omega arith

named_char : {u : List ℕ} → Char u → Named u
named_char {u} p = rw (encode-decode p) at (named_number (decode u) (decode_scalar p))

named_byte : (a : ℕ) → a < 256 → Named (a ∷ [])
unfolding unit_named
named_byte a h =
    let e : 1114112 + a - 1114112 ≡ a = omega arith in
    (1114112 + a, omega arith, rw (le-ltb (1114112 + a) 1114112 (omega arith), e))

-- each unit of a word of bytes has one
named_head : (c : Bool) (w : List ℕ) → 0 < length w → Bytes w → Named (take (unit_len c w) w)
unfolding unit_len nth
named_head c [] h b = absurd (omega arith)
named_head c (a ∷ r) h b =
    cond_elim (λ k. Named (take k (a ∷ r))) (c && ltb 0 (char_len (a ∷ r)))
    (λ e. named_char (char_len_lem (a ∷ r) (ltb-true 0 (char_len (a ∷ r)) ((and-eq-true_iff c (ltb 0 (char_len (a ∷ r)))).0 e).1)))
    (λ e. named_byte a (b 0))

pub drop_bytes : (k : ℕ) (w : List ℕ) → Bytes w → Bytes (drop k w)
unfolding nth
drop_bytes k w b j = rw (get_or-drop k w j 0) (b (k + j))

units_named : (c : Bool) (w : List ℕ) → Bytes w → (u : List ℕ) → In u (units_by c w) → Named u
units_named c = units_ind c (λ w us. Bytes w → (u : List ℕ) → In u us → Named u) (λ b u i. absurd i) more
  where
    more : (w : List ℕ) (us : List (List ℕ)) → 0 < length w → (Bytes (drop (unit_len c w) w) → (u : List ℕ) → In u us → Named u)
        → Bytes w → (u : List ℕ) → In u (take (unit_len c w) w ∷ us) → Named u
    more w us h f b u (inl e) = rw e (named_head c w h b)
    more w us h f b u (inr i) = f (drop_bytes (unit_len c w) w b) u i

pub unit_named_lem : (seeding : ℕ) (w u : List ℕ) → Bytes w → In u (units seeding w) → Named u
unfolding units seeded
unit_named_lem seeding w u b i = units_named _ w b u i

-- A UNIT OF ALL WORDS is a unit of one word, and that word is of bytes
units_from_lem : (seeding : ℕ) (ws : List (List ℕ)) (u : List ℕ) → In u (flat_map (λ w. w) (map (units seeding) ws)) → (w : List ℕ) × In w ws × In u (units seeding w)
unfolding flat_map
units_from_lem seeding [] u i = absurd i
units_from_lem seeding (w ∷ ws) u i = go (in_append u (units seeding w) (flat_map (λ w. w) (map (units seeding) ws)) i) (units_from_lem seeding ws u)
  where
    go : In u (units seeding w) ⊎ In u (flat_map (λ w. w) (map (units seeding) ws)) → (In u (flat_map (λ w. w) (map (units seeding) ws)) → (v : List ℕ) × In v ws × In u (units seeding v))
        → (v : List ℕ) × ((v ≡ w) ⊎ In v ws) × In u (units seeding v)
    go (inl j) h = (w, inl refl, j)
    go (inr j) h = let f = h j in (f.0, inr f.1, f.2)

parts_bytes : (run : List ℕ) (from : ℕ) (es : List ℕ) (w : List ℕ) → Bytes run → In w (parts run from es) → Bytes w
unfolding parts
parts_bytes run from [] w b i = absurd i
parts_bytes run from (e ∷ es) w b (inl p) = rw p (part_bytes from (e - from) run b)
parts_bytes run from (e ∷ es) w b (inr i) = parts_bytes run e es w b i

module _ (t : Task) (u : List ℕ) where
  pub task_word : In u (flat_map (λ w. w) (word_units t)) → (w : List ℕ) × (Bytes t.word_bytes → Bytes w) × In u (units t.seeding w)
  unfolding word_units units_of parts_by
  task_word i =
      let f = units_from_lem t.seeding (parts_by t.word_bytes t.word_ends) u i in
      (f.0, λ b. parts_bytes t.word_bytes 0 _ f.0 b f.1, f.2)

  pub unit_short : In u (flat_map (λ w. w) (word_units t)) → (0 < length u) × (length u ≤ 4)
  unfolding units Short
  unit_short i = let f = task_word i in go (units t.seeding f.0) (seeded-short (chars t.seeding) f.0) f.2
    where
      go : (us : List (List ℕ)) → Short us → In u us → (0 < length u) × (length u ≤ 4)
      go [] s j = absurd j
      go (v ∷ us) s (inl e) = rw e (s.0, s.1)
      go (v ∷ us) s (inr j) = go us s.2 j

pub task_named : (t : Task) → Bytes t.word_bytes → (u : List ℕ) → In u (flat_map (λ w. w) (word_units t)) → Named u
task_named t b u i = let f = task_word t u i in unit_named_lem t.seeding f.0 u (f.1 b) f.2

-- UNITS WITHOUT REPEATS: at most as many as there are names, and as there are units
pub units_apart : (t : Task) → Bytes t.word_bytes → (us : List (List ℕ)) → Apart us → ((u : List ℕ) → In u us → In u (flat_map (λ w. w) (word_units t))) → length us ≤ 1114368
units_apart t b us a h = pigeon unit_named 1114368 us a (λ u i. task_named t b u (h u i))

pub units_apart_all : (t : Task) (us : List (List ℕ)) → Apart us → ((u : List ℕ) → In u us → In u (flat_map (λ w. w) (word_units t))) → length us ≤ U t
unfolding U
units_apart_all t us a h = omega (arith, apart_within us (flat_map (λ w. w) (word_units t)) a h, length_flat (word_units t))
