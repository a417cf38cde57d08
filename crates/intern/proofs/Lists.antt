-- Interning on lists of pieces: a spelling that is there, one that is not, and many one after the other. Assumes nothing.
use mathlib.Core.Path.{◌≡◌, refl, sym, ap, ◌∙◌}
use mathlib.Core.Bool.{Bool, true, false, cond, ◌||◌}
use mathlib.Core.List.{List, [], ◌∷◌, ◌++◌, append_assoc, append-nil, map, foldl, flat_map}
use Prim.Native.Nat.{ℕ, zero, suc, ◌+◌, ◌<◌, ◌≤◌}
use native.Mathlib.Omega.{arith}
use native.Mathlib.Numerals.{add-one}
use lib.ListN.{length, get_or, length-append, get_or-append}
use Rattle.order.specs.Order.{same}
use Rattle.runs.proofs.Parts.{same_or_not}
use Rattle.order.proofs.Ordered.{same_refl}
use Rattle.rule.specs.Shapes.{some?}
use Rattle.rule.specs.Seeding.{intern, number_of, byte_values}
use Rattle.rule.specs.Layout.{piece_bytes}
use Rattle.rule.proofs.Seeding.{Has, found, has_intern}
use Rattle.rule.proofs.Spelling.{length-byte_values, byte_values_at}

-- A SPELLING

pub has_at : (ps : List (List ℕ)) (s : List ℕ) (j : ℕ) → j < length ps → get_or ps j [] ≡ s → Has ps s
unfolding Has some?
has_at [] s j h e = absurd (omega arith)
has_at (p ∷ ps) s zero h e = rw (e, same_refl s)
has_at (p ∷ ps) s (suc j) h e = go (same s p) (has_at ps s j (omega arith) e)
  where
    go : (c : Bool) → some? (map (same s) ps) ≡ true → (c || some? (map (same s) ps)) ≡ true
    go true k = refl
    go false k = k

pub intern_old : (ps : List (List ℕ)) (s : List ℕ) → Has ps s → intern ps s ≡ ps
unfolding Has intern
intern_old ps s h = rw h

module _ (ps : List (List ℕ)) (s : List ℕ) (n : (j : ℕ) → j < length ps → get_or ps j [] ≡ s → ⊥) where
  pub intern_new : intern ps s ≡ ps ++ (s ∷ [])
  unfolding Has intern
  intern_new = go (some? (map (same s) ps)) refl
    where
      go : (c : Bool) → some? (map (same s) ps) ≡ c → cond c ps (ps ++ (s ∷ [])) ≡ ps ++ (s ∷ [])
      go true e = let f = found s ps e in absurd (n (number_of ps s) f.within f.spells)
      go false e = refl

  pub number_new : length ps ≡ number_of (intern ps s) s
  number_new =
      let f = found s (intern ps s) (has_intern s ps) in
      let l : length (intern ps s) ≡ length ps + 1 = ap length intern_new ∙ length-append ps (s ∷ []) in
      same_or_not (length ps) (number_of (intern ps s) s) (λ z. z)
      (λ z.
      let w = f.within in
      let k : number_of (intern ps s) s < length ps = omega arith in
      absurd
      (n (number_of (intern ps s) s) k
      (sym (get_or-append ps (s ∷ []) [] (number_of (intern ps s) s) k)
      ∙ ap (λ (r : List (List ℕ)). get_or r (number_of (intern ps s) s) []) (sym intern_new)
      ∙ f.spells)))

-- MANY

pub interns_append : (ps ss ts : List (List ℕ)) → foldl intern ps (ss ++ ts) ≡ foldl intern (foldl intern ps ss) ts
interns_append ps [] ts = refl
interns_append ps (s ∷ ss) ts = interns_append (intern ps s) ss ts

pub bytes_more : (ps : List (List ℕ)) (s : List ℕ) → piece_bytes (ps ++ (s ∷ [])) ≡ piece_bytes ps ++ s
unfolding piece_bytes flat_map
bytes_more [] s = append-nil s
bytes_more (p ∷ ps) s = ap (λ (l : List ℕ). p ++ l) (bytes_more ps s) ∙ sym (append_assoc p (piece_bytes ps) s)

pub length_bytes_more : (ps : List (List ℕ)) (s : List ℕ) → length (piece_bytes (ps ++ (s ∷ []))) ≡ length (piece_bytes ps) + length s
length_bytes_more ps s = ap length (bytes_more ps s) ∙ length-append (piece_bytes ps) s

-- interning only adds behind
intern_grows : (ps : List (List ℕ)) (s : List ℕ) → (length ps ≤ length (intern ps s)) × (length (piece_bytes ps) ≤ length (piece_bytes (intern ps s)))
unfolding intern
intern_grows ps s = go (some? (map (same s) ps))
  where
    go : (c : Bool) → (length ps ≤ length (cond c ps (ps ++ (s ∷ [])))) × (length (piece_bytes ps) ≤ length (piece_bytes (cond c ps (ps ++ (s ∷ [])))))
    go true = (omega arith, omega arith)
    go false = (omega (arith, length-append ps (s ∷ [])), omega (arith, length_bytes_more ps s))

pub interns_grow : (ps ss : List (List ℕ)) → (length ps ≤ length (foldl intern ps ss)) × (length (piece_bytes ps) ≤ length (piece_bytes (foldl intern ps ss)))
interns_grow ps [] = (omega arith, omega arith)
interns_grow ps (s ∷ ss) =
    let a = intern_grows ps s in
    let b = interns_grow (intern ps s) ss in
    (omega arith, omega arith)

-- THE BYTE VALUES

values_append : (m n b : ℕ) → byte_values (m + n) b ≡ byte_values m b ++ byte_values n (b + m)
unfolding byte_values
values_append zero n b = let z : 0 + n ≡ n = omega arith in let w : b + 0 ≡ b = omega arith in rw (z, w)
values_append (suc m) n b =
    let z : suc m + n ≡ suc (m + n) = omega arith in
    let w : b + suc m ≡ suc b + m = omega arith in
    rw (z, w) (ap (λ (l : List (List ℕ)). (b ∷ []) ∷ l) (values_append m n (suc b)))

one_value : (b : ℕ) → byte_values 1 (0 + b) ≡ (b ∷ []) ∷ []
unfolding byte_values
one_value b = let z : 0 + b ≡ b = omega arith in rw z

-- one more at the end, and those that are left behind it
values_more : (b : ℕ) → byte_values b 0 ++ ((b ∷ []) ∷ []) ≡ byte_values (b + 1) 0
values_more b = sym (values_append b 1 0 ∙ ap (λ (l : List (List ℕ)). byte_values b 0 ++ l) (one_value b))

head_same : (a b : ℕ) → ◌≡◌ {A = List ℕ} (a ∷ []) (b ∷ []) → a ≡ b
head_same a b e = cc

-- they are all different, so that each becomes a piece
values_step : (n : ℕ) → foldl intern [] (byte_values n 0) ≡ byte_values n 0 → foldl intern [] (byte_values (n + 1) 0) ≡ byte_values (n + 1) 0
values_step n e =
    ap (foldl intern []) (sym (values_more n))
    ∙ interns_append [] (byte_values n 0) ((n ∷ []) ∷ [])
    ∙ ap (λ (ps : List (List ℕ)). intern ps (n ∷ [])) e
    ∙ intern_new (byte_values n 0) (n ∷ []) other
    ∙ values_more n
  where
    other : (j : ℕ) → j < length (byte_values n 0) → get_or (byte_values n 0) j [] ≡ n ∷ [] → ⊥
    other j h q =
        let l = length-byte_values n 0 in
        let k : j < n = omega arith in
        let z = head_same (0 + j) n (sym (byte_values_at n 0 j k) ∙ q) in
        omega arith

values_first : foldl intern [] (byte_values 0 0) ≡ byte_values 0 0
unfolding byte_values
values_first = refl

pub values_all : (n : ℕ) → foldl intern [] (byte_values n 0) ≡ byte_values n 0
values_all zero = values_first
values_all (suc n) = rw (← add-one n) (values_step n (values_all n))
