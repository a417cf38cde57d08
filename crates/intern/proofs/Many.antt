-- Interning a list one by one: start, turn and ways out of the loop; what the rooms hold; where it starts. Assumes nothing.
use mathlib.Core.Path.{◌≡◌, refl, sym, ap, ◌∙◌}
use mathlib.Core.List.{List, [], ◌∷◌, ◌++◌, foldl, flat_map}
use mathlib.Core.Logic.{inl, inr}
use Prim.Native.Nat.{ℕ, zero, suc, ◌+◌, ◌*◌, ◌-◌, ◌^◌, ◌<◌, ◌≤◌}
use native.Mathlib.Omega.{arith}
use native.Mathlib.Numerals.{add-one}
use lib.ListN.{length, length-append}
use Rattle.runs.specs.Parts.{nth, part, Kept}
use Rattle.runs.proofs.Parts.{part_none, part_split, length-part}
use Rattle.runs.proofs.Frames.{kept_none, kept_then, kept_wide}
use Rattle.cells.specs.Cells.{cells}
use Rattle.cells.proofs.Rings.{blanks_all}
use Rattle.rule.specs.Seeding.{intern, number_of}
use Rattle.rule.specs.Layout.{piece_bytes, piece_start, piece_at}
use Rattle.rule.proofs.Seeding.{has_intern, interns_stay}
use Rattle.intern.specs.Pieces.{pieces, Held}
use Rattle.intern.specs.Seek.{vacancies}
use Rattle.intern.specs.Intern.{Pieces, CanIntern, Gave, Lacks}
use Rattle.intern.specs.Many.{Ran, Exceed}
use Rattle.intern.proofs.Rooms.{piece_part, pieces_none, pieces-more, length-pieces}
use Rattle.intern.proofs.Lists.{interns_append, bytes_more, length_bytes_more, interns_grow}
use Rattle.rule.proofs.Reading.{start_first}

-- WHAT THE PIECE ROOM HOLDS

no_bytes_yet : [] ≡ piece_bytes []
unfolding piece_bytes flat_map
no_bytes_yet = refl

flat_none : (xs ys : List ℕ) → part 0 (piece_start ys 0) xs ≡ piece_bytes (pieces xs ys 0)
flat_none xs ys = rw (← start_first ys 0 refl, pieces_none xs ys, part_none 0 xs) no_bytes_yet

flat_more : (xs ys : List ℕ) (m : ℕ) → piece_start ys m ≤ piece_start ys (m + 1) → part 0 (piece_start ys m) xs ≡ piece_bytes (pieces xs ys m)
    → part 0 (piece_start ys (m + 1)) xs ≡ piece_bytes (pieces xs ys (m + 1))
flat_more xs ys m r e =
    let a = piece_start ys m in
    let d = piece_start ys (m + 1) - piece_start ys m in
    let z : piece_start ys (m + 1) ≡ a + d = omega arith in
    let o : 0 + a ≡ a = omega arith in
    ap (λ (k : ℕ). part 0 k xs) z
    ∙ part_split 0 a d xs
    ∙ ap (λ (k : ℕ). part 0 a xs ++ part k d xs) o
    ∙ ap (λ (l : List ℕ). part 0 a xs ++ l) (sym (piece_part xs ys m))
    ∙ ap (λ (l : List ℕ). l ++ piece_at xs ys m) e
    ∙ sym (ap piece_bytes (pieces-more xs ys m) ∙ bytes_more (pieces xs ys m) (piece_at xs ys m))

pub flat : (n u : ℕ) (xs ys : List ℕ) → Held n u xs ys → (m : ℕ) → m ≤ n → part 0 (piece_start ys m) xs ≡ piece_bytes (pieces xs ys m)
flat n u xs ys l zero h = flat_none xs ys
flat n u xs ys l (suc m) h = rw (← add-one m) (flat_more xs ys m (l.rises m (omega arith)) (flat n u xs ys l m (omega arith)))

pub bytes_are : (n u : ℕ) (xs ys : List ℕ) → Held n u xs ys → part 0 u xs ≡ piece_bytes (pieces xs ys n)
bytes_are n u xs ys l = ap (λ (k : ℕ). part 0 k xs) (sym l.last) ∙ flat n u xs ys l n (omega arith)

pub length_bytes : (n u : ℕ) (xs ys : List ℕ) → Held n u xs ys → length (piece_bytes (pieces xs ys n)) ≡ u
length_bytes n u xs ys l = ap length (sym (bytes_are n u xs ys l)) ∙ length-part 0 u xs (omega (arith, l.bytes))

-- WHAT EXCEEDS THE ROOMS

-- what exceeds the rooms does so with more behind it
pub exceed-more : (ps ts : List (List ℕ)) (xs ys : List ℕ) → Exceed ps xs ys → Exceed (foldl intern ps ts) xs ys
unfolding Exceed
exceed-more ps ts xs ys (inl h) = inl (omega (arith, (interns_grow ps ts).0))
exceed-more ps ts xs ys (inr (inl h)) = inr (inl (omega (arith, (interns_grow ps ts).1)))
exceed-more ps ts xs ys (inr (inr h)) = inr (inr (omega (arith, (interns_grow ps ts).1)))

-- and it is the lengths of the rooms alone that count
pub exceed_lengths : (ps : List (List ℕ)) (xs ys vs ws : List ℕ) → length vs ≡ length xs → length ws ≡ length ys → Exceed ps vs ws → Exceed ps xs ys
unfolding Exceed
exceed_lengths ps xs ys vs ws e f (inl h) = inl (omega arith)
exceed_lengths ps xs ys vs ws e f (inr (inl h)) = inr (inl (omega arith))
exceed_lengths ps xs ys vs ws e f (inr (inr h)) = inr (inr h)

-- THE LOOP

module _ (base cap n u : ℕ) (xs ys : List ℕ) where
  pub ran_start : (ss : List (List ℕ)) (cs : List ℕ) → Pieces base cap n u cs xs ys → Ran base cap n u (foldl intern (pieces xs ys n) ss) ss xs ys cs xs ys n u
  ran_start ss cs p =
      record {
        ok = p;
        are = refl;
        least = omega arith;
        grows = omega arith;
        bytes = kept_none u u xs;
        ends = kept_none (n * 4) (n * 4) ys;
      }

  -- the rooms from one state to the next
  module _ (ps ss ts : List (List ℕ)) (cs vs ws : List ℕ) (n' u' : ℕ) (r : Ran base cap n u ps ss xs ys cs vs ws n' u') where
    on : (cs₂ vs₂ ws₂ : List ℕ) (n₂ u₂ : ℕ) → Pieces base cap n₂ u₂ cs₂ vs₂ ws₂ → foldl intern (pieces vs₂ ws₂ n₂) ts ≡ ps → n' ≤ n₂ → u' ≤ u₂
        → Kept u' u₂ vs vs₂ → Kept (n' * 4) (n₂ * 4) ws ws₂ → Ran base cap n u ps ts xs ys cs₂ vs₂ ws₂ n₂ u₂
    on cs₂ vs₂ ws₂ n₂ u₂ ok are least grows bytes ends =
        record {
          ok = ok;
          are = are;
          least = omega (arith, r.least);
          grows = omega (arith, r.grows);
          bytes = kept_then (kept_wide {lo = u} {hi = u'} u u₂ (omega arith) grows r.bytes)
              (kept_wide {lo = u'} {hi = u₂} u u₂ (omega (arith, r.grows)) (omega arith) bytes);
          ends = kept_then (kept_wide {lo = n * 4} {hi = n' * 4} (n * 4) (n₂ * 4) (omega arith) (omega arith) r.ends)
              (kept_wide {lo = n' * 4} {hi = n₂ * 4} (n * 4) (n₂ * 4) (omega (arith, r.least)) (omega arith) ends);
        }

  module _ (ps ss : List (List ℕ)) (cs vs ws : List ℕ) (n' u' : ℕ) (r : Ran base cap n u ps ss xs ys cs vs ws n' u') where
    -- no more pieces than all spellings make
    pub ran_few : n' ≤ length ps
    ran_few = rw (← r.are) (omega (arith, (interns_grow (pieces vs ws n') ss).0, length-pieces vs ws n'))

    -- where all have a slot, the next has one
    pub ran_can : length ps < cap → CanIntern base cap n' u' cs vs ws
    ran_can h = record { ok = r.ok; space = omega (arith, ran_few) }

    -- the table's cells may stand among others that were written
    pub ran_cells : (ds : List ℕ) → Pieces base cap n' u' ds vs ws → Ran base cap n u ps ss xs ys ds vs ws n' u'
    ran_cells ds p = on ps ss ss cs vs ws n' u' r ds vs ws n' u' p r.are (omega arith) (omega arith) (kept_none u' u' vs) (kept_none (n' * 4) (n' * 4) ws)

  module _ (ps : List (List ℕ)) (s : List ℕ) (ts : List (List ℕ)) (cs vs ws : List ℕ) (n' u' : ℕ) (r : Ran base cap n u ps (s ∷ ts) xs ys cs vs ws n' u') where
    module _ (rs qs vs₂ ws₂ : List ℕ) (k n₂ u₂ : ℕ) (g : Gave base cap n' u' s rs vs ws qs vs₂ ws₂ k n₂ u₂) where
      next : foldl intern (pieces vs₂ ws₂ n₂) ts ≡ ps
      next = ap (λ (qs : List (List ℕ)). foldl intern qs ts) g.are ∙ r.are

      -- ONE MORE
      pub ran_next : Ran base cap n u ps ts xs ys (cells qs) vs₂ ws₂ n₂ u₂
      ran_next = on ps (s ∷ ts) ts cs vs ws n' u' r (cells qs) vs₂ ws₂ n₂ u₂ g.ok next g.least g.grows g.bytes g.ends

      -- its number stays what it is, whatever follows
      pub ran_number : k ≡ number_of ps s
      ran_number =
          g.number
          ∙ sym (interns_stay s ts (intern (pieces vs ws n') s) (has_intern s (pieces vs ws n'))).1
          ∙ ap (λ (qs : List (List ℕ)). number_of qs s) r.are

    -- NO ROOM for it, so none for all
    module _ (f : intern (pieces vs ws n') s ≡ pieces vs ws n' ++ (s ∷ [])) where
      count : n' + 1 ≤ length ps
      count =
          let k : length (intern (pieces vs ws n') s) ≡ n' + 1 =
          ap length f ∙ length-append (pieces vs ws n') (s ∷ []) ∙ ap (λ (m : ℕ). m + 1) (length-pieces vs ws n') in
          rw (← r.are) (omega (arith, (interns_grow (intern (pieces vs ws n') s) ts).0))

      longer : u' + length s ≤ length (piece_bytes ps)
      longer =
          let k : length (piece_bytes (intern (pieces vs ws n') s)) ≡ length (piece_bytes (pieces vs ws n')) + length s =
          ap (λ (qs : List (List ℕ)). length (piece_bytes qs)) f ∙ length_bytes_more (pieces vs ws n') s in
          rw (← r.are) (omega (arith, (interns_grow (intern (pieces vs ws n') s) ts).1, length_bytes n' u' vs ws r.ok.rooms))

      pub ran_lacks : Lacks n' u' s vs ws → Exceed ps xs ys
      unfolding Lacks Exceed
      ran_lacks (inl h) = inl (omega (arith, count, r.ends.long))
      ran_lacks (inr (inl h)) = inr (inl (omega (arith, longer, r.bytes.long)))
      ran_lacks (inr (inr h)) = inr (inr (omega (arith, longer)))

  -- MANY MORE, where a function interns the spellings ss of those that are to come
  module _ (ps ss ts : List (List ℕ)) (cs vs ws : List ℕ) (n' u' : ℕ) (r : Ran base cap n u ps (ss ++ ts) xs ys cs vs ws n' u') where
    foremost : foldl intern (foldl intern (pieces vs ws n') ss) ts ≡ ps
    foremost = sym (interns_append (pieces vs ws n') ss ts) ∙ r.are

    pub ran_slots : length ps < cap → length (foldl intern (pieces vs ws n') ss) < cap
    ran_slots h = let e = ap length foremost in omega (arith, (interns_grow (foldl intern (pieces vs ws n') ss) ts).0)

    pub ran_then : (cs₂ vs₂ ws₂ : List ℕ) (n₂ u₂ : ℕ) → Ran base cap n' u' (foldl intern (pieces vs ws n') ss) [] vs ws cs₂ vs₂ ws₂ n₂ u₂
        → Ran base cap n u ps ts xs ys cs₂ vs₂ ws₂ n₂ u₂
    ran_then cs₂ vs₂ ws₂ n₂ u₂ q =
        on ps (ss ++ ts) ts cs vs ws n' u' r cs₂ vs₂ ws₂ n₂ u₂ q.ok (ap (λ (qs : List (List ℕ)). foldl intern qs ts) q.are ∙ foremost) q.least q.grows q.bytes
        q.ends

    pub ran_exceeds : Exceed (foldl intern (pieces vs ws n') ss) vs ws → Exceed ps xs ys
    ran_exceeds x =
        rw (← foremost) (exceed_lengths _ xs ys vs ws r.bytes.long r.ends.long (exceed-more (foldl intern (pieces vs ws n') ss) ts vs ws x))

-- WHERE IT STARTS: cells of 0 are a table of no pieces
pub pieces_empty : (base cap : ℕ) (cs xs ys : List ℕ) → base + cap ≤ length cs → length cs < 2 ^ 61 → 0 < cap → cap < 4294967296
    → ((j : ℕ) → j < cap → nth cs (base + j) ≡ 0) → Pieces base cap 0 0 cs xs ys
unfolding vacancies
pieces_empty base cap cs xs ys room small some few f =
    let e : piece_start ys 0 ≡ 0 = sym (start_first ys 0 refl) in
    record {
      rooms = record {
        ends = omega arith;
        bytes = omega arith;
        small = omega arith;
        rises = λ j h. absurd (omega arith);
        low = λ j h. let z : j ≡ 0 = omega arith in rw (z, e) (omega arith);
        last = e;
      };
      known = record {
        room = room;
        small = small;
        some = some;
        few = few;
        numbers = λ j h p. absurd (omega (arith, f j h));
        found = λ k h. absurd (omega arith);
        vacant = omega (arith, blanks_all cap (λ (j : ℕ). nth cs (base + j)) f);
      };
    }
