-- How many seeds there can be, and how many bytes: each is of the initial alphabet, or a first seed with or without prefix and suffix.
use mathlib.Core.Path.{◌≡◌, refl, sym, ap, ◌∙◌}
use mathlib.Core.Bool.{Bool, true, false, ◌||◌, and-eq-true_iff, false≢true}
use mathlib.Core.List.{List, [], ◌∷◌, ◌++◌, append-nil, map, flat_map, foldl}
use mathlib.Core.Logic.{◌⊎◌, inl, inr}
use Prim.Native.Nat.{ℕ, zero, suc, ◌+◌, ◌-◌, ◌*◌, ◌≤◌, ◌<◌}
use native.Mathlib.Omega.{arith}
use lib.Dec.{leb}
use lib.ListN.{length, length-append}
use lib.Seq.{append_snoc}
use borrow.Author.Tests.{eqb-true, leb-true}
use Rattle.runs.specs.Parts.{nth, Bytes}
use Rattle.order.specs.Order.{same}
use Rattle.numbers.specs.Little.{numbers}
use Rattle.rfc3629.specs.Cut.{singles}
use Rattle.rule.specs.Shapes.{wholes, parts, parts_by, rise_to, shaped, some?}
use Rattle.rule.specs.Table.{Task, alphabet, A, chars, units, word_units, total, U}
use Rattle.rule.specs.Spelling.{prefixed, suffixed, decorate}
use Rattle.rule.specs.Seeding.{decorated, intern, byte_values, distinct, first_seeds, seeds}
use Rattle.rule.specs.Layout.{piece_bytes}
use Rattle.runs.proofs.Parts.{same_or_not, part-short}
use Rattle.order.proofs.Ordered.{same_refl, same_true}
use Rattle.numbers.proofs.Little.{length-numbers}
use Rattle.rfc3629.proofs.Rows.{cond_elim}
use Rattle.rfc3629.proofs.Texts.{seeded_bytes}
use Rattle.rule.proofs.Order.{In, Apart, rising_apart, distinct_rises, distinct_in, distinct_has}
use Rattle.rule.proofs.Lengths.{length-parts, length-piece_bytes}
use Rattle.rule.proofs.Spelling.{length-byte_values}
use Rattle.rule.proofs.Seeding.{Has}
use Rattle.rule.proofs.Names.{in_append, in_front, in_behind, apart_sum, apart_within, task_word, unit_short, units_apart, units_apart_all}

-- THE BYTE VALUES from b on are the single bytes of a range, each once
values_in : (n b : ℕ) (x : List ℕ) → In x (byte_values n b) → (c : ℕ) × (b ≤ c) × (x ≡ c ∷ [])
unfolding byte_values
values_in zero b x i = absurd i
values_in (suc n) b x (inl e) = (b, omega arith, e)
values_in (suc n) b x (inr i) = let f = values_in n (suc b) x i in (f.0, omega (arith, f.1), f.2)

values_have : (n b c : ℕ) → b ≤ c → c < b + n → In (c ∷ []) (byte_values n b)
unfolding byte_values
values_have zero b c g h = absurd (omega arith)
values_have (suc n) b c g h =
    same_or_not c b (λ e. inl (ap (λ (a : ℕ). a ∷ []) e)) (λ d. inr (values_have n (suc b) c (omega arith) (omega arith)))

values_apart : (n b : ℕ) → Apart (byte_values n b)
unfolding byte_values nth
values_apart zero b = tt
values_apart (suc n) b =
    (λ i. let f = values_in n (suc b) (b ∷ []) i in let e : b ≡ f.0 = ap (λ l. nth l 0) f.2 in omega (arith, f.1), values_apart n (suc b))

singles_in : (u w : List ℕ) → Bytes w → In u (singles w) → In u (byte_values 256 0)
unfolding singles nth
singles_in u [] b i = absurd i
singles_in u (a ∷ w) b (inl e) = rw e (values_have 256 0 a (omega arith) (omega (arith, b 0)))
singles_in u (a ∷ w) b (inr i) = singles_in u w (λ j. b (suc j)) i

-- THE FIRST SEEDS are the distinct units of all words, or the byte values
module _ (t : Task) where
  abbrev firsts : List (List ℕ)
  firsts = first_seeds t.seeding (word_units t)

  abbrev all : List (List ℕ)
  all = flat_map (λ w. w) (word_units t)

  first_by : (P : List (List ℕ) → Type 0) → (chars t.seeding ≡ true → P (distinct all)) → (chars t.seeding ≡ false → P (byte_values 256 0)) → P firsts
  unfolding first_seeds
  first_by P f g = cond_elim P (chars t.seeding) f g

  distinct_apart : Apart (distinct all)
  distinct_apart = rising_apart (distinct all) (distinct_rises all)

  distinct_units : length (distinct all) ≤ U t
  distinct_units = units_apart_all t (distinct all) distinct_apart (distinct_in all)

  pub first_few : Bytes t.word_bytes → length (first_seeds t.seeding (word_units t)) ≤ 1114368
  first_few b =
      first_by (λ us. length us ≤ 1114368)
      (λ e. units_apart t b (distinct all) distinct_apart (distinct_in all))
      (λ e. omega (arith, length-byte_values 256 0))

  pub first-units : length (first_seeds t.seeding (word_units t)) ≤ 256 + U t
  first-units = first_by (λ us. length us ≤ 256 + U t) (λ e. omega (arith, distinct_units)) (λ e. omega (arith, length-byte_values 256 0))

  pub first-chars : chars t.seeding ≡ true → length (first_seeds t.seeding (word_units t)) ≤ U t
  first-chars c = first_by (λ us. length us ≤ U t) (λ e. distinct_units) (λ e. absurd (false≢true (sym e ∙ c)))

  pub first_apart : Apart (first_seeds t.seeding (word_units t))
  first_apart = first_by Apart (λ e. distinct_apart) (λ e. values_apart 256 0)

  pub first-short : (u : List ℕ) → In u (first_seeds t.seeding (word_units t)) → length u ≤ 4
  first-short u =
      first_by (λ us. In u us → length u ≤ 4)
      (λ e i. (unit_short t u (distinct_in all u i)).1)
      (λ e i. let f = values_in 256 0 u i in rw f.2 (omega arith))

  -- they have all units
  byte_unit : (w u : List ℕ) → chars t.seeding ≡ false → Bytes w → In u (units t.seeding w) → In u (byte_values 256 0)
  unfolding units
  byte_unit w u e b i = singles_in u w b (rw (e, seeded_bytes) at i)

  pub first_have : Bytes t.word_bytes → (u : List ℕ) → In u (flat_map (λ w. w) (word_units t)) → In u (first_seeds t.seeding (word_units t))
  first_have b u i =
      first_by (In u) (λ e. distinct_has all u i) (λ e. let f = task_word t u i in byte_unit f.0 u e (f.1 b) f.2)

-- INTERNING keeps a list without repeats, and adds what is interned alone
in_has : (u : List ℕ) (ps : List (List ℕ)) → In u ps → Has ps u
unfolding Has some?
in_has u [] i = absurd i
in_has u (p ∷ ps) (inl e) = let k : same u p ≡ true = rw e (same_refl p) in rw k
in_has u (p ∷ ps) (inr i) = go (same u p) (in_has u ps i)
  where
    go : (c : Bool) → some? (map (same u) ps) ≡ true → (c || some? (map (same u) ps)) ≡ true
    go true h = refl
    go false h = h

more_apart : (u : List ℕ) (ps : List (List ℕ)) → (In u ps → ⊥) → Apart ps → Apart (ps ++ (u ∷ []))
more_apart u [] d a = (λ i. i, tt)
more_apart u (p ∷ ps) d a = (λ i. go (in_append p ps (u ∷ []) i), more_apart u ps (λ i. d (inr i)) a.1)
  where
    go : In p ps ⊎ ((p ≡ u) ⊎ ⊥) → ⊥
    go (inl i) = a.0 i
    go (inr (inl e)) = d (inl (sym e))
    go (inr (inr i)) = i

intern_apart : (ps : List (List ℕ)) (u : List ℕ) → Apart ps → Apart (intern ps u)
unfolding intern Has
intern_apart ps u a = cond_elim Apart (some? (map (same u) ps)) (λ e. a) (λ e. more_apart u ps (λ i. false≢true (sym e ∙ in_has u ps i)) a)

intern_in : (ps : List (List ℕ)) (u x : List ℕ) → In x (intern ps u) → In x ps ⊎ ((x ≡ u) ⊎ ⊥)
unfolding intern
intern_in ps u x = cond_elim (λ qs. In x qs → In x ps ⊎ ((x ≡ u) ⊎ ⊥)) (some? (map (same u) ps)) (λ e i. inl i) (λ e i. in_append x ps (u ∷ []) i)

pub interns_apart : (us ps : List (List ℕ)) → Apart ps → Apart (foldl intern ps us)
interns_apart [] ps a = a
interns_apart (u ∷ us) ps a = interns_apart us (intern ps u) (intern_apart ps u a)

-- a list without repeats is interned as it stands
has_in : (u : List ℕ) (ps : List (List ℕ)) → Has ps u → In u ps
unfolding Has some?
has_in u [] h = absurd (false≢true h)
has_in u (p ∷ ps) h = go (same u p) refl h (has_in u ps)
  where
    go : (c : Bool) → same u p ≡ c → (c || some? (map (same u) ps)) ≡ true → (Has ps u → In u ps) → (u ≡ p) ⊎ In u ps
    go true e k f = inl (same_true u p e)
    go false e k f = inr (f k)

apart_front : (u : List ℕ) (us ps : List (List ℕ)) → Apart (ps ++ (u ∷ us)) → In u ps → ⊥
apart_front u us [] a i = i
apart_front u us (p ∷ ps) a (inl e) = a.0 (in_behind p ps (u ∷ us) (inl (sym e)))
apart_front u us (p ∷ ps) a (inr i) = apart_front u us ps a.1 i

intern_fresh : (ps : List (List ℕ)) (u : List ℕ) → (In u ps → ⊥) → intern ps u ≡ ps ++ (u ∷ [])
unfolding intern Has
intern_fresh ps u d = cond_elim (λ qs. qs ≡ ps ++ (u ∷ [])) (some? (map (same u) ps)) (λ e. absurd (d (has_in u ps e))) (λ e. refl)

pub interns_fresh : (us ps : List (List ℕ)) → Apart (ps ++ us) → foldl intern ps us ≡ ps ++ us
interns_fresh [] ps a = sym (append-nil ps)
interns_fresh (u ∷ us) ps a =
    ap (λ (qs : List (List ℕ)). foldl intern qs us) (intern_fresh ps u (apart_front u us ps a))
    ∙ interns_fresh us (ps ++ (u ∷ [])) (rw (append_snoc ps u us) a)
    ∙ append_snoc ps u us

pub interns_in : (us ps : List (List ℕ)) (x : List ℕ) → In x (foldl intern ps us) → In x ps ⊎ In x us
interns_in [] ps x i = inl i
interns_in (u ∷ us) ps x i = go (interns_in us (intern ps u) x i)
  where
    one : In x ps ⊎ ((x ≡ u) ⊎ ⊥) → In x ps ⊎ ((x ≡ u) ⊎ In x us)
    one (inl j) = inl j
    one (inr (inl e)) = inr (inl e)
    one (inr (inr j)) = absurd j

    go : In x (intern ps u) ⊎ In x us → In x ps ⊎ ((x ≡ u) ⊎ In x us)
    go (inl j) = one (intern_in ps u x j)
    go (inr j) = inr (inr j)

-- DECORATED UNITS: a unit in its four forms, with or without prefix and suffix
module _ (p s : List ℕ) where
  unfoldable forms : List (List ℕ) → List (List ℕ)
  forms [] = []
  forms (u ∷ us) = u ∷ (u ++ s) ∷ (p ++ u) ∷ ((p ++ u) ++ s) ∷ forms us

  length_forms : (us : List (List ℕ)) → length (forms us) ≡ 4 * length us
  unfolding forms
  length_forms [] = refl
  length_forms (u ∷ us) = let h = length_forms us in omega arith

  forms_bytes : (us : List (List ℕ)) → ((u : List ℕ) → In u us → length u ≤ 4) → length p ≤ 255 → length s ≤ 255 → total (map length (forms us)) ≤ 1036 * length us
  unfolding forms total
  forms_bytes [] h m n = omega arith
  forms_bytes (u ∷ us) h m n =
      let k = forms_bytes us (λ v i. h v (inr i)) m n in
      let l = h u (inl refl) in
      omega (arith, length-append u s, length-append p u, length-append (p ++ u) s)

  -- x is one of the four forms of u
  abbrev Form : List ℕ → List ℕ → Type 0
  Form x u = ((x ≡ u) ⊎ (x ≡ u ++ s)) ⊎ ((x ≡ p ++ u) ⊎ (x ≡ (p ++ u) ++ s))

  forms_have : (us : List (List ℕ)) (x u : List ℕ) → In u us → Form x u → In x (forms us)
  unfolding forms
  forms_have [] x u i f = absurd i
  forms_have (v ∷ us) x u (inr i) f = inr (inr (inr (inr (forms_have us x u i f))))
  forms_have (v ∷ us) x u (inl e) (inl (inl f)) = inl (f ∙ e)
  forms_have (v ∷ us) x u (inl e) (inl (inr f)) = inr (inl (f ∙ rw e))
  forms_have (v ∷ us) x u (inl e) (inr (inl f)) = inr (inr (inl (f ∙ rw e)))
  forms_have (v ∷ us) x u (inl e) (inr (inr f)) = inr (inr (inr (inl (f ∙ rw e))))

  mapped_in : (us : List (List ℕ)) (x : List ℕ) → In x (map (λ v. p ++ v) us) → (u : List ℕ) × In u us × (x ≡ p ++ u)
  mapped_in [] x i = absurd i
  mapped_in (u ∷ us) x (inl e) = (u, inl refl, e)
  mapped_in (u ∷ us) x (inr i) = let f = mapped_in us x i in (f.0, inr f.1, f.2)

  prefixed_in : (us : List (List ℕ)) (x : List ℕ) → In x (prefixed p us) → (u : List ℕ) × In u us × ((x ≡ u) ⊎ (x ≡ p ++ u))
  unfolding prefixed
  prefixed_in [] x i = absurd i
  prefixed_in (u ∷ us) x (inl e) = (u, inl refl, inl e)
  prefixed_in (u ∷ us) x (inr i) = let f = mapped_in us x i in (f.0, inr f.1, inr f.2)

  suffixed_in : (us : List (List ℕ)) (x : List ℕ) → In x (suffixed s us) → (u : List ℕ) × In u us × ((x ≡ u) ⊎ (x ≡ u ++ s))
  unfolding suffixed
  suffixed_in [] x i = absurd i
  suffixed_in (u ∷ []) x (inl e) = (u, inl refl, inr e)
  suffixed_in (u ∷ []) x (inr i) = absurd i
  suffixed_in (u ∷ v ∷ us) x (inl e) = (u, inl refl, inl e)
  suffixed_in (u ∷ v ∷ us) x (inr i) = let f = suffixed_in (v ∷ us) x i in (f.0, inr f.1, f.2)

  decorate_in : (us : List (List ℕ)) (x : List ℕ) → In x (decorate p s us) → (u : List ℕ) × In u us × Form x u
  unfolding decorate
  decorate_in us x i = let f = suffixed_in (prefixed p us) x i in let g = prefixed_in us f.0 f.1 in (g.0, g.1, go g.2 f.2)
    where
      go : {y u : List ℕ} → (y ≡ u) ⊎ (y ≡ p ++ u) → (x ≡ y) ⊎ (x ≡ y ++ s) → Form x u
      go (inl a) (inl b) = inl (inl (b ∙ a))
      go (inl a) (inr b) = inl (inr (b ∙ rw a))
      go (inr a) (inl b) = inr (inl (b ∙ a))
      go (inr a) (inr b) = inr (inr (b ∙ rw a))

  decorated_in : (us : List (List (List ℕ))) (x : List ℕ) → In x (flat_map (λ w. w) (map (decorate p s) us)) → (u : List ℕ) × In u (flat_map (λ w. w) us) × Form x u
  unfolding flat_map
  decorated_in [] x i = absurd i
  decorated_in (w ∷ us) x i = go (in_append x (decorate p s w) (flat_map (λ w. w) (map (decorate p s) us)) i) (decorated_in us x)
    where
      go : In x (decorate p s w) ⊎ In x (flat_map (λ w. w) (map (decorate p s) us)) → (In x (flat_map (λ w. w) (map (decorate p s) us)) → (u : List ℕ) × In u (flat_map (λ w. w) us) × Form x u)
          → (u : List ℕ) × In u (w ++ flat_map (λ w. w) us) × Form x u
      go (inl j) h = let f = decorate_in w x j in (f.0, in_front f.0 w (flat_map (λ w. w) us) f.1, f.2)
      go (inr j) h = let f = h j in (f.0, in_behind f.0 w (flat_map (λ w. w) us) f.1, f.2)

-- THE INITIAL ALPHABET: a symbol for each end, and no more bytes than the run has
pub alphabet-count : (t : Task) → length (alphabet t) ≤ A t
unfolding alphabet A parts_by
alphabet-count t = omega (arith, length-parts t.alphabet_bytes 0 (numbers 4 t.alphabet_ends), length-numbers 4 t.alphabet_ends)

parts-total : (run : List ℕ) (n from : ℕ) (es : List ℕ) → rise_to n from es ≡ true → from + total (map length (parts run from es)) ≤ n
unfolding parts total rise_to
parts-total run n from [] h = omega (arith, eqb-true from n h)
parts-total run n from (e ∷ es) h =
    let b = (and-eq-true_iff (leb from e) (rise_to n e es)).0 h in
    omega (arith, leb-true from e b.0, part-short from (e - from) run, parts-total run n e es b.1)

alphabet-total : (t : Task) → shaped t.alphabet_bytes t.alphabet_ends ≡ true → total (map length (alphabet t)) ≤ length t.alphabet_bytes
unfolding alphabet parts_by shaped
alphabet-total t h =
    let r = numbers 4 t.alphabet_ends in
    let b = (and-eq-true_iff (wholes 4 t.alphabet_ends) (rise_to (length t.alphabet_bytes) 0 r)).0 h in
    omega (arith, parts-total t.alphabet_bytes (length t.alphabet_bytes) 0 r b.1)

total-append : (f : List ℕ → ℕ) (xs ys : List (List ℕ)) → total (map f (xs ++ ys)) ≡ total (map f xs) + total (map f ys)
unfolding total
total-append f [] ys = omega arith
total-append f (x ∷ xs) ys = let h = total-append f xs ys in omega arith

-- THE SEEDS have no repeats, and each is a form of a first seed or of the initial alphabet; so they are few, and so are their bytes
module _ (t : Task) where
  pub seeds_apart : Apart (seeds t)
  unfolding seeds
  seeds_apart = interns_apart (alphabet t ++ flat_map (λ w. w) (decorated t)) (firsts t) (first_apart t)

  module _ (b : Bytes t.word_bytes) where
    seeds_in : (x : List ℕ) → In x (seeds t) → In x (forms t.prefix t.suffix (firsts t) ++ alphabet t)
    unfolding seeds decorated
    seeds_in x i = any (interns_in (alphabet t ++ flat_map (λ w. w) (decorated t)) (firsts t) x i)
      where
        fs : List (List ℕ)
        fs = forms t.prefix t.suffix (firsts t)

        first : In x (firsts t) → In x (fs ++ alphabet t)
        first j = in_front x fs (alphabet t) (forms_have t.prefix t.suffix (firsts t) x x j (inl (inl refl)))

        later : In x (alphabet t) ⊎ In x (flat_map (λ w. w) (decorated t)) → In x (fs ++ alphabet t)
        later (inl j) = in_behind x fs (alphabet t) j
        later (inr j) =
            let f = decorated_in t.prefix t.suffix (word_units t) x j in
            in_front x fs (alphabet t) (forms_have t.prefix t.suffix (firsts t) x f.0 (first_have t b f.0 f.1) f.2)

        any : In x (firsts t) ⊎ In x (alphabet t ++ flat_map (λ w. w) (decorated t)) → In x (fs ++ alphabet t)
        any (inl j) = first j
        any (inr j) = later (in_append x (alphabet t) (flat_map (λ w. w) (decorated t)) j)

    pub seeds_forms : length (seeds t) ≤ 4 * length (first_seeds t.seeding (word_units t)) + length (alphabet t)
    seeds_forms =
        let fs = forms t.prefix t.suffix (firsts t) in
        omega (arith, apart_within (seeds t) (fs ++ alphabet t) seeds_apart seeds_in, length-append fs (alphabet t), length_forms t.prefix t.suffix (firsts t))

    pub seeds_small : length t.prefix ≤ 255 → length t.suffix ≤ 255 → length t.alphabet_bytes ≤ 1048576 → shaped t.alphabet_bytes t.alphabet_ends ≡ true
        → length (piece_bytes (seeds t)) ≤ 4294967295
    seeds_small m n l h =
        let fs = forms t.prefix t.suffix (firsts t) in
        let s = apart_sum length (seeds t) (fs ++ alphabet t) seeds_apart seeds_in in
        let f = forms_bytes t.prefix t.suffix (firsts t) (first-short t) m n in
        let a = alphabet-total t h in
        omega (arith, s, f, a, total-append length fs (alphabet t), first_few t b, length-piece_bytes (seeds t))
