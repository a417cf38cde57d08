-- Pieces in two runs: where each starts, what one more does to them, and the view of them. Assumes nothing.
use mathlib.Core.Path.{◌≡◌, refl, sym, ap, ◌∙◌}
use mathlib.Core.List.{List, [], ◌∷◌, ◌++◌}
use mathlib.Core.Logic.{◌⊎◌, inl, inr}
use Prim.Native.Nat.{ℕ, zero, suc, ◌+◌, ◌*◌, ◌-◌, ◌/◌, ◌<◌, ◌≤◌}
use native.Mathlib.Omega.{arith}
use native.Mathlib.Numerals.{add-one}
use lib.ListN.{length, get_or, take, drop, length-append, get_or-append}
use lib.Seq.{get_or_at}
use Rattle.runs.specs.Parts.{nth, part, laid, Kept}
use Rattle.runs.proofs.Parts.{same_or_not, below_or_not, nth_past, part-laid, part_lent}
use Rattle.runs.proofs.Frames.{kept-laid, kept-part}
use Rattle.numbers.specs.Little.{little, spell, load, store}
use Rattle.cells.specs.Cells.{cells}
use Rattle.numbers.proofs.Little.{length-spell, length-store, load-store, load-store_apart, nth-numbers}
use Rattle.cells.proofs.Cells.{length-cells, nth-cells}
use Rattle.rule.specs.Layout.{piece_start, piece_length, piece_at}
use Rattle.intern.specs.Pieces.{pieces, Held}
use Rattle.rule.proofs.Reading.{start_first}

-- WHERE A PIECE STARTS

start_suc : (ys : List ℕ) (n : ℕ) → n * 4 + 4 ≤ length ys → piece_start ys (n + 1) ≡ load 4 ys (n * 4)
unfolding piece_start nth
start_suc ys n h = rw (add-one n) (nth-numbers 4 ys n (omega arith))

pub start_later : (ys : List ℕ) (n x : ℕ) → (n ≡ 0 → ⊥) → n * 4 ≤ length ys → x ≡ load 4 ys ((n - 1) * 4) → x ≡ piece_start ys n
start_later ys n x z h e =
    let s : n - 1 + 1 ≡ n = omega arith in
    e ∙ sym (start_suc ys (n - 1) (omega arith)) ∙ ap (λ (m : ℕ). piece_start ys m) s

-- a piece is the part from its start to the next one's
pub piece_part : (xs ys : List ℕ) (n : ℕ) → piece_at xs ys n ≡ part (piece_start ys n) (piece_start ys (n + 1) - piece_start ys n) xs
unfolding piece_at piece_length piece_start
piece_part xs ys n = rw (add-one n)

-- as it is lent
pub piece_lent : (xs ys : List ℕ) (k from to : ℕ) → from ≡ piece_start ys k → to ≡ piece_start ys (k + 1) → take (to - from) (drop from xs) ≡ piece_at xs ys k
piece_lent xs ys k from to e f = part_lent from to xs ∙ rw (e, f) (sym (piece_part xs ys k))

-- ONE MORE END

module _ (ys : List ℕ) (n v : ℕ) (h : n * 4 + 4 ≤ length ys) where
  pub start_old : (j : ℕ) → j ≤ n → piece_start (store 4 ys (n * 4) v) j ≡ piece_start ys j
  start_old zero k = sym (start_first (store 4 ys (n * 4) v) 0 refl) ∙ start_first ys 0 refl
  start_old (suc j) k =
      let l = length-store 4 ys (n * 4) v h in
      rw (← add-one j)
      (start_suc (store 4 ys (n * 4) v) j (omega (arith, l))
      ∙ load-store_apart 4 ys (n * 4) v h 4 (j * 4) (omega arith) (inl (omega arith))
      ∙ sym (start_suc ys j (omega arith)))

  pub start_new : v ≤ 4294967295 → piece_start (store 4 ys (n * 4) v) (n + 1) ≡ v
  start_new k =
      let l = length-store 4 ys (n * 4) v h in
      start_suc (store 4 ys (n * 4) v) n (omega (arith, l)) ∙ load-store 4 ys (n * 4) v h (omega arith)

-- WHAT A STORE KEEPS

pub kept-store : (w : ℕ) (xs : List ℕ) (at v : ℕ) → at + w ≤ length xs → Kept at (at + w) xs (store w xs at v)
unfolding store
kept-store w xs at v h = rw (length-spell w v) at (kept-laid xs at (spell w v) (rw (length-spell w v) h))

-- what is kept of a run by whole cells is kept of its cells
pub kept-cells : (lo hi : ℕ) (xs ys : List ℕ) → Kept (lo * 8) (hi * 8) xs ys → Kept lo hi (cells xs) (cells ys)
unfolding load
kept-cells lo hi xs ys k = record { long = long; same = same }
  where
    long : length (cells ys) ≡ length (cells xs)
    long = length-cells ys ∙ ap (λ (n : ℕ). n / 8) k.long ∙ sym (length-cells xs)

    out : (j : ℕ) → (j < lo) ⊎ (hi ≤ j) → (j * 8 + 8 ≤ lo * 8) ⊎ (hi * 8 ≤ j * 8)
    out j (inl h) = inl (omega arith)
    out j (inr h) = inr (omega arith)

    inside : (j : ℕ) → (j < lo) ⊎ (hi ≤ j) → j < length (cells xs) → nth (cells ys) j ≡ nth (cells xs) j
    inside j o h =
        nth-cells ys j (omega (arith, long))
        ∙ ap little (kept-part (j * 8) 8 k (omega (arith, length-cells xs)) (out j o))
        ∙ sym (nth-cells xs j h)

    same : (j : ℕ) → (j < lo) ⊎ (hi ≤ j) → nth (cells ys) j ≡ nth (cells xs) j
    same j o =
        below_or_not j (length (cells xs)) (inside j o)
        (λ h. nth_past (cells ys) j (omega (arith, long)) ∙ sym (nth_past (cells xs) j h))

-- THE VIEW

pub pieces_none : (xs ys : List ℕ) → pieces xs ys 0 ≡ []
unfolding pieces
pieces_none xs ys = refl

pub pieces-more : (xs ys : List ℕ) (n : ℕ) → pieces xs ys (n + 1) ≡ pieces xs ys n ++ (piece_at xs ys n ∷ [])
unfolding pieces
pieces-more xs ys n = rw (add-one n)

pub length-pieces : (xs ys : List ℕ) (n : ℕ) → length (pieces xs ys n) ≡ n
unfolding pieces
length-pieces xs ys zero = refl
length-pieces xs ys (suc n) = let h = length-pieces xs ys n in simp length-append (omega arith)

pub pieces_at : (xs ys : List ℕ) (n j : ℕ) → j < n → get_or (pieces xs ys n) j [] ≡ piece_at xs ys j
unfolding pieces
pieces_at xs ys zero j h = absurd (omega arith)
pieces_at xs ys (suc n) j h =
    let l = length-pieces xs ys n in
    same_or_not j n
    (λ e. get_or_at (pieces xs ys n) (piece_at xs ys n) [] [] j (l ∙ sym e) ∙ rw e)
    (λ e. get_or-append (pieces xs ys n) (piece_at xs ys n ∷ []) [] j (omega arith) ∙ pieces_at xs ys n j (omega arith))

pub pieces-same : (xs ys vs ws : List ℕ) (n : ℕ) → ((j : ℕ) → j < n → piece_at vs ws j ≡ piece_at xs ys j) → pieces vs ws n ≡ pieces xs ys n
unfolding pieces
pieces-same xs ys vs ws zero f = refl
pieces-same xs ys vs ws (suc n) f = rw (f n (omega arith), pieces-same xs ys vs ws n (λ j h. f j (omega arith)))

-- ONE MORE PIECE: s of v - u bytes behind u bytes and n ends
module _ (n u : ℕ) (s xs ys vs ws : List ℕ) (v : ℕ) (held : Held n u xs ys) (e : v ≡ u + length s)
    (space : n * 4 + 4 ≤ length ys) (fit : u + length s ≤ length xs) (short : u + length s ≤ 4294967295)
    (dv : vs ≡ laid xs u s) (dw : ws ≡ store 4 ys (n * 4) v) where
  old_start : (k : ℕ) → k ≤ n → piece_start ws k ≡ piece_start ys k
  old_start k h = rw dw (start_old ys n v space k h)

  new_start : piece_start ws (n + 1) ≡ u + length s
  new_start = rw dw (start_new ys n v space (omega arith)) ∙ e

  end_start : piece_start ws n ≡ u
  end_start = old_start n (omega arith) ∙ held.last

  pub more_bytes : Kept u v xs vs
  more_bytes = rw (dv, e) (kept-laid xs u s fit)

  pub more_ends : Kept (n * 4) ((n + 1) * 4) ys ws
  more_ends = let z : (n + 1) * 4 ≡ n * 4 + 4 = omega arith in rw (dw, z) (kept-store 4 ys (n * 4) v space)

  pub more_old : (k : ℕ) → k < n → piece_at vs ws k ≡ piece_at xs ys k
  more_old k h =
      let r = held.rises k h in
      let w = held.low (k + 1) (omega arith) in
      piece_part vs ws k
      ∙ rw (old_start k (omega arith), old_start (k + 1) (omega arith))
      (kept-part (piece_start ys k) (piece_start ys (k + 1) - piece_start ys k) more_bytes (omega (arith, r, w, held.bytes)) (inl (omega (arith, r, w))))
      ∙ sym (piece_part xs ys k)

  pub more_new : piece_at vs ws n ≡ s
  more_new =
      let z : u + length s - u ≡ length s = omega arith in
      piece_part vs ws n ∙ rw (end_start, new_start, z, dv) (part-laid xs u s fit)

  pub more_held : Held (n + 1) v vs ws
  more_held =
      record {
        ends = omega (arith, more_ends.long);
        bytes = omega (arith, more_bytes.long);
        small = omega arith;
        rises = λ k h. same_or_not k n (λ q. rw q (omega (arith, end_start, new_start)))
            (λ q. omega (arith, old_start k (omega arith), old_start (k + 1) (omega arith), held.rises k (omega arith)));
        low = λ k h. same_or_not k (n + 1) (λ q. rw q (omega (arith, new_start)))
            (λ q. omega (arith, old_start k (omega arith), held.low k (omega arith)));
        last = new_start ∙ sym e;
      }
