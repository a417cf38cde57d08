-- What a lookup finds, and what interning does to the three runs. Assumes nothing.
use mathlib.Core.Path.{◌≡◌, refl, sym, ap, ◌∙◌}
use mathlib.Core.Bool.{Bool, true, false, not, ◌&&◌}
use mathlib.Core.List.{List, [], ◌++◌}
use Prim.Native.Nat.{ℕ, ◌+◌, ◌*◌, ◌-◌, ◌/◌, ◌%◌, ◌<◌, ◌≤◌}
use native.Mathlib.Omega.{arith}
use native.Mathlib.Nat.{mod-lt}
use lib.Dec.{eqb, leb}
use borrow.Author.Tests.{eq-eqb, ne_eqb, leb-true, leb-false, not-true, not-false}
use lib.ListN.{length, get_or, take, drop, length-append}
use Rattle.runs.specs.Parts.{nth, Kept}
use Rattle.order.specs.Order.{same}
use Rattle.runs.proofs.Parts.{same_or_not, nth-put, nth-put_other}
use Rattle.runs.proofs.Frames.{kept_none, kept_wide}
use Rattle.order.proofs.Ordered.{same_true, same_refl}
use Rattle.numbers.specs.Little.{store}
use Rattle.cells.specs.Cells.{cells, Put}
use Rattle.cells.specs.Ring.{after}
use Rattle.cells.proofs.Cells.{length-cells}
use Rattle.cells.proofs.Rings.{blanks-less, blanks_some}
use Rattle.rule.specs.Seeding.{number_of}
use Rattle.rule.specs.Layout.{piece_start, piece_at}
use Rattle.rule.proofs.Seeding.{Has, found}
use Rattle.spelling.specs.Writing.{Written}
use Rattle.spells.specs.Hash.{hash_of}
use Rattle.intern.specs.Pieces.{pieces}
use Rattle.intern.specs.Seek.{number_in, seek, vacancies}
use Rattle.intern.specs.Intern.{spelt, look, Known, Pieces, CanAdd, Gave, Left}
use Rattle.cells.specs.declared.Found.{Found}
use Rattle.cells.specs.declared.Found.TheVariants.{At, Vacant, Full}
use Rattle.cells.proofs.Search.{at_vacant, same_at}
use Rattle.intern.proofs.Seek.{seek-vacant, seek_at, seek_next, seek_none, seek_finds, seek_vacant_is, never_full, seek_test, seek_still, seek_new}
use Rattle.intern.proofs.Rooms.{piece_lent, kept-store, length-pieces, pieces_at, pieces-same, pieces-more, more_bytes, more_ends, more_old, more_new, more_held}
use Rattle.intern.proofs.Lists.{has_at, intern_old, intern_new, number_new}

-- A SLOT AND A SPELLING

module _ (h : ℕ) (s xs ys : List ℕ) (x : ℕ) where
  pub spelt_other : (x / 4294967296 ≡ h → ⊥) → false ≡ spelt h s xs ys x
  unfolding spelt
  spelt_other n = rw (ne_eqb (x / 4294967296) h n)

  pub spelt_piece : (from to : ℕ) (r : Bool) → x / 4294967296 ≡ h → from ≡ piece_start ys (x % 4294967296 - 1) → to ≡ piece_start ys (x % 4294967296 - 1 + 1)
      → r ≡ same s (take (to - from) (drop from xs)) → r ≡ spelt h s xs ys x
  unfolding spelt
  spelt_piece from to r e a b g = g ∙ rw (piece_lent xs ys (x % 4294967296 - 1) from to a b, eq-eqb (x / 4294967296) h e)

  spelt_same : spelt h s xs ys x ≡ true → s ≡ piece_at xs ys (number_in x)
  unfolding spelt
  spelt_same e = same_true s (piece_at xs ys (number_in x)) (second (eqb (x / 4294967296) h) (same s (piece_at xs ys (number_in x))) e)
    where
      second : (a b : Bool) → (a && b) ≡ true → b ≡ true
      second true b q = q
      second false b q = let z : ◌≡◌ {A = ℕ} 0 1 = cc in absurd (omega arith)

-- THE LOOKUP

pub home_lt : (h cap : ℕ) → 0 < cap → h % cap < cap
home_lt h cap p = mod-lt h p

pub find_start : (base cap h n : ℕ) (cs xs ys s : List ℕ) → h ≡ hash_of s → n ≡ cap → look base cap cs xs ys s ≡ seek (spelt (hash_of s) s xs ys) cs base cap n (h % cap)
unfolding look
find_start base cap h n cs xs ys s e f = rw (e, f)

module _ (s xs ys cs : List ℕ) (base cap n i x h : ℕ) (f : Found) where
  told : h ≡ hash_of s → (r b : Bool) → r ≡ spelt h s xs ys x → r ≡ b → spelt (hash_of s) s xs ys x ≡ b
  told e r b q y = ap (λ (k : ℕ). spelt k s xs ys x) (sym e) ∙ sym q ∙ y

  pub find_vacant : f ≡ seek (spelt (hash_of s) s xs ys) cs base cap n i → 0 < n → x ≡ nth cs (base + i) → x ≡ 0 → Vacant i ≡ f
  find_vacant = seek-vacant (spelt (hash_of s) s xs ys) cs base cap n i x f

  pub find_at : f ≡ seek (spelt (hash_of s) s xs ys) cs base cap n i → 0 < n → x ≡ nth cs (base + i) → (x ≡ 0 → ⊥) → h ≡ hash_of s
      → (r : Bool) → r ≡ spelt h s xs ys x → r ≡ true → At (x % 4294967296 - 1) ≡ f
  find_at inv some e z k r q y = seek_at (spelt (hash_of s) s xs ys) cs base cap n i x f inv some e z (told k r true q y)

  pub find_next : f ≡ seek (spelt (hash_of s) s xs ys) cs base cap n i → 0 < n → x ≡ nth cs (base + i) → (x ≡ 0 → ⊥) → h ≡ hash_of s
      → (r : Bool) → r ≡ spelt h s xs ys x → r ≡ false → (m l : ℕ) → m ≡ after cap i → l ≡ n - 1
      → f ≡ seek (spelt (hash_of s) s xs ys) cs base cap l m
  find_next inv some e z k r q y m l a b = rw b (seek_next (spelt (hash_of s) s xs ys) cs base cap n i x f inv some e z (told k r false q y) m a)

  pub find_none : f ≡ seek (spelt (hash_of s) s xs ys) cs base cap n i → n ≤ 0 → Full ≡ f
  find_none = seek_none (spelt (hash_of s) s xs ys) cs base cap n i x f

-- a slot that is not vacant has a piece's number
pub slot_number : (base cap n u i x : ℕ) (cs xs ys : List ℕ) → Pieces base cap n u cs xs ys → i < cap → x ≡ nth cs (base + i) → (x ≡ 0 → ⊥)
    → (0 < x % 4294967296) × (x % 4294967296 ≤ n)
slot_number base cap n u i x cs xs ys p h e z = rw e (p.known.numbers i h (omega (arith, e)))

-- A SPELLING THAT IS KNOWN

module _ (base cap n u : ℕ) (s cs xs ys : List ℕ) (p : Pieces base cap n u cs xs ys) where
  -- each piece is found under its spelling
  finds : (k : ℕ) → k < n → piece_at xs ys k ≡ s → look base cap cs xs ys s ≡ At k
  finds k h e = rw e at (p.known.found k h)

  pub hit : (k : ℕ) → look base cap cs xs ys s ≡ At k → (k < n) × (piece_at xs ys k ≡ s)
  unfolding look
  hit k e =
      let w = seek_finds (spelt (hash_of s) s xs ys) cs base cap cap (hash_of s % cap) k (home_lt (hash_of s) cap p.known.some) e in
      let m = p.known.numbers w.at w.low w.some in
      (omega (arith, m, w.is), rw (← w.is) (sym (spelt_same (hash_of s) s xs ys (nth cs (base + w.at)) w.yes)))

  has : (k : ℕ) → look base cap cs xs ys s ≡ At k → Has (pieces xs ys n) s
  has k e =
      let w = hit k e in
      let l = length-pieces xs ys n in
      has_at (pieces xs ys n) s k (omega (arith, w.0)) (pieces_at xs ys n k w.0 ∙ w.1)

  -- it has the lowest number with its spelling: there is no other
  lowest : (k : ℕ) → look base cap cs xs ys s ≡ At k → k ≡ number_of (pieces xs ys n) s
  lowest k e =
      let f = found s (pieces xs ys n) (has k e) in
      let l = length-pieces xs ys n in
      let m = number_of (pieces xs ys n) s in
      let h : m < n = omega (arith, f.within) in
      same_at k m (sym e ∙ finds m h (sym (pieces_at xs ys n m h) ∙ f.spells))

  -- a lookup in a table with a vacant slot is never full
  pub look_not_full : n < cap → look base cap cs xs ys s ≡ Full → ⊥
  unfolding look vacancies
  look_not_full h e =
      let z = blanks_some cap (λ (j : ℕ). nth cs (base + j)) (omega (arith, p.known.vacant)) in
      never_full (spelt (hash_of s) s xs ys) cs base cap z.at (hash_of s % cap) z.low z.is (home_lt (hash_of s) cap p.known.some) e

  pub to_add : n < cap → (f : Found) (j : ℕ) → f ≡ look base cap cs xs ys s → f ≡ Vacant j → CanAdd base cap n u s j cs xs ys
  unfolding look
  to_add h f j e g =
      let q : look base cap cs xs ys s ≡ Vacant j = sym e ∙ g in
      record {
        ok = p;
        space = h;
        none = q;
        slot = (seek_vacant_is (spelt (hash_of s) s xs ys) cs base cap cap (hash_of s % cap) j (home_lt (hash_of s) cap p.known.some) q).0;
      }

pub gave_old : (base cap n u : ℕ) (s rs xs ys : List ℕ) (p : Pieces base cap n u (cells rs) xs ys) (f : Found) (k : ℕ)
    → f ≡ look base cap (cells rs) xs ys s → f ≡ At k → Gave base cap n u s rs xs ys rs xs ys k n u
gave_old base cap n u s rs xs ys p f k e g =
    let q : look base cap (cells rs) xs ys s ≡ At k = sym e ∙ g in
    let o = intern_old (pieces xs ys n) s (has base cap n u s (cells rs) xs ys p k q) in
    record {
      ok = p;
      are = sym o;
      number = rw o (lowest base cap n u s (cells rs) xs ys p k q);
      low = (hit base cap n u s (cells rs) xs ys p k q).0;
      least = omega arith;
      most = omega arith;
      grows = omega arith;
      room = kept_none (base * 8) ((base + cap) * 8) rs;
      bytes = kept_none u u xs;
      ends = kept_none (n * 4) (n * 4) ys;
    }

-- A SPELLING THAT IS NEW

module _ (base cap n u : ℕ) (s : List ℕ) (j : ℕ) (rs xs ys : List ℕ) (c : CanAdd base cap n u s j (cells rs) xs ys) where
  absent : (k : ℕ) → k < length (pieces xs ys n) → get_or (pieces xs ys n) k [] ≡ s → ⊥
  absent k h e =
      let l = length-pieces xs ys n in
      let h' : k < n = omega arith in
      at_vacant k j (sym (finds base cap n u s (cells rs) xs ys c.ok k h' (sym (pieces_at xs ys n k h') ∙ e)) ∙ c.none)

  pub left : Left n s rs xs ys rs xs ys
  left = record { room = refl; bytes = refl; ends = refl; more = intern_new (pieces xs ys n) s absent }

  vacant_slot : nth (cells rs) (base + j) ≡ 0
  unfolding look
  vacant_slot = (seek_vacant_is (spelt (hash_of s) s xs ys) (cells rs) base cap cap (hash_of s % cap) j (home_lt (hash_of s) cap c.ok.known.some) c.none).1

  module _ (h : ℕ) (qs vs ws : List ℕ) (m v : ℕ) (eh : h ≡ hash_of s) (lh : h < 4294967296) (written : Written xs vs u s m v)
      (one : n * 4 + 4 ≤ length ys) (fit : u + length s ≤ length xs) (short : u + length s ≤ 4294967295)
      (dw : ws ≡ store 4 ys (n * 4) v) (x : ℕ) (ex : x ≡ h * 4294967296 + (n + 1)) (dr : Put rs qs (base + j) x) where
    few : n + 1 < 4294967296
    few = omega (arith, c.space, c.ok.known.few)

    low : x % 4294967296 ≡ n + 1
    low = omega arith

    high : x / 4294967296 ≡ h
    high = omega arith

    e : v ≡ u + length s
    e = omega (arith, written.long, written.behind)

    old : (k : ℕ) → k < n → piece_at vs ws k ≡ piece_at xs ys k
    old = more_old n u s xs ys vs ws v c.ok.rooms e one fit short written.is dw

    new : piece_at vs ws n ≡ s
    new = more_new n u s xs ys vs ws v c.ok.rooms e one fit short written.is dw

    here : nth (cells qs) (base + j) ≡ x
    here = rw dr.is (nth-put (cells rs) (base + j) x (omega (arith, c.ok.known.room, c.slot)))

    others : (i : ℕ) → i < cap → (i ≡ j → ⊥) → nth (cells qs) (base + i) ≡ nth (cells rs) (base + i)
    others i l q = rw dr.is (nth-put_other (cells rs) (base + j) x (base + i) (omega arith))

    -- tests of the slots that were there are as they were
    tests : (q : List ℕ) (i : ℕ) → i < cap → 0 < nth (cells rs) (base + i)
        → spelt (hash_of q) q vs ws (nth (cells rs) (base + i)) ≡ spelt (hash_of q) q xs ys (nth (cells rs) (base + i))
    unfolding spelt
    tests q i l z =
        let w = c.ok.known.numbers i l z in
        rw (old (number_in (nth (cells rs) (base + i))) (omega (arith, w)))

    as_before_lem : (q : List ℕ) → seek (spelt (hash_of q) q vs ws) (cells rs) base cap cap (hash_of q % cap) ≡ look base cap (cells rs) xs ys q
    unfolding look
    as_before_lem q =
        seek_test (spelt (hash_of q) q xs ys) (spelt (hash_of q) q vs ws) (cells rs) base cap (tests q) cap (hash_of q % cap) (home_lt (hash_of q) cap c.ok.known.some)

    found_old : (k : ℕ) → k < n → look base cap (cells qs) vs ws (piece_at vs ws k) ≡ At k
    unfolding look
    found_old k l =
        let q = piece_at xs ys k in
        rw (old k l)
        (seek_still (spelt (hash_of q) q vs ws) (cells rs) (cells qs) base cap j others vacant_slot cap (hash_of q % cap) k (home_lt (hash_of q) cap c.ok.known.some)
        (as_before_lem q ∙ c.ok.known.found k l))

    passes : spelt (hash_of s) s vs ws x ≡ true
    unfolding spelt
    passes =
        let a : number_in x ≡ n = omega (arith, low) in
        rw (a, high, new, eq-eqb h (hash_of s) eh) (same_refl s)

    found_new : look base cap (cells qs) vs ws (piece_at vs ws n) ≡ At n
    unfolding look
    found_new =
        rw new
        (seek_new (spelt (hash_of s) s vs ws) (cells rs) (cells qs) base cap j others x n here (omega arith) (omega (arith, low)) passes
        cap (hash_of s % cap) (home_lt (hash_of s) cap c.ok.known.some) (as_before_lem s ∙ c.none))

    known : Known base cap (n + 1) (cells qs) vs ws
    unfolding vacancies
    known =
        let k = c.ok.known in
        record {
          room = omega (arith, k.room, dr.long);
          small = omega (arith, k.small, dr.long);
          some = k.some;
          few = k.few;
          numbers = λ i l p. same_or_not i j
              (λ q. rw (q, here) (omega (arith, low), omega (arith, low)))
              (λ q. let w = k.numbers i l (omega (arith, others i l q)) in rw (others i l q) (w.0, omega (arith, w.1)));
          found = λ i l. same_or_not i n (λ q. rw q found_new) (λ q. found_old i (omega arith));
          vacant = omega (arith, k.vacant, blanks-less cap (λ (i : ℕ). nth (cells rs) (base + i)) (λ (i : ℕ). nth (cells qs) (base + i)) j c.slot vacant_slot (omega (arith, here)) others);
        }

    room : Kept (base * 8) ((base + cap) * 8) rs qs
    room =
        kept_wide {lo = (base + j) * 8} {hi = (base + j) * 8 + 8} (base * 8) ((base + cap) * 8) (omega arith) (omega (arith, c.slot))
        (rw dr.bytes (kept-store 8 rs ((base + j) * 8) x (omega (arith, c.ok.known.room, c.slot, length-cells rs))))

    pub gave_new : Gave base cap n u s rs xs ys qs vs ws n (n + 1) v
    gave_new =
        record {
          ok = record { rooms = more_held n u s xs ys vs ws v c.ok.rooms e one fit short written.is dw; known = known };
          are = pieces-more vs ws n ∙ rw (pieces-same xs ys vs ws n old, new) (sym (intern_new (pieces xs ys n) s absent));
          number = sym (length-pieces xs ys n) ∙ number_new (pieces xs ys n) s absent;
          low = omega arith;
          least = omega arith;
          most = omega arith;
          grows = omega (arith, e);
          room = room;
          bytes = more_bytes n u s xs ys vs ws v c.ok.rooms e one fit short written.is dw;
          ends = more_ends n u s xs ys vs ws v c.ok.rooms e one fit short written.is dw;
        }

-- WHAT FITS

pub length_three : (a b d : List ℕ) → length (a ++ (b ++ d)) ≡ length a + (length b + length d)
length_three a b d = simp length-append

-- as a caller is told
module _ (a b d : List ℕ) (left : ℕ) (r : Bool) (e : r ≡ leb (length a + (length b + length d)) left) where
  pub fits_yes : not r ≡ false → length (a ++ (b ++ d)) ≤ left
  fits_yes h = rw (length_three a b d) (leb-true (length a + (length b + length d)) left (sym e ∙ not-false r h))

  pub fits_no : not r ≡ true → left < length (a ++ (b ++ d))
  fits_no h = rw (length_three a b d) (leb-false (length a + (length b + length d)) left (sym e ∙ not-true r h))
