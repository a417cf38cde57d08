-- The laws of taking a record and giving one back. Assumes nothing.
use mathlib.Core.Path.{◌≡◌, sym, ap, ◌∙◌}
use mathlib.Core.List.{List}
use Prim.Native.Nat.{ℕ, suc, ◌+◌, ◌-◌, ◌*◌, ◌<◌, ◌≤◌}
use native.Mathlib.Omega.{arith}
use native.Mathlib.Numerals.{add-one}
use lib.ListN.{length}
use Rattle.runs.specs.Parts.{nth, put}
use Rattle.runs.proofs.Parts.{same_or_not, below_or_not, length-put, nth-put, nth-put_other}
use Rattle.runs.proofs.Frames.{kept-put, kept_then}
use Rattle.records.specs.Records.{field, taken, free, Node, Chain, Only, FieldPut, Within}
use Rattle.arena.specs.Claims.{CanClaim, Claimed, Released, Alloc, CanNew, CanFree, CanRelease, CanDrop, Blank}
use Rattle.records.proofs.Laws.{taken_is, free_is, taken_head, free_head, taken-put, taken-put-first, field_of, field_none, field-put, field-put_other, field-put_head, chain_same, live_low, not_free}

-- TO TAKE A RECORD

-- where its key is put, once the head is written
pub new_within : (base n key x : ℕ) (cs es : List ℕ) → CanNew base n key cs → x ≡ nth cs base → es ≡ put cs base (x + 1) → Within base n x 0 es
new_within base n key x cs es p e d =
    let was = taken_is base x cs e in
    let long : length es ≡ length cs = ap length d ∙ length-put cs base (x + 1) in
    let now : taken base es ≡ x + 1 = ap (taken base) d ∙ taken-put-first base cs (x + 1) (omega (arith, p.ar.room)) in
    record {
      room = omega (arith, p.ar.room, long);
      small = omega (arith, p.ar.small, long);
      low = omega (arith, now);
      most = omega (arith, now, was, p.left);
      few = omega arith;
    }

pub free-within : (base n key h r l v : ℕ) (cs es fs : List ℕ) → CanFree base n key cs → h ≡ nth cs (base + 1) → r ≡ h - 1 → es ≡ put cs (base + 1) l
    → fs ≡ put es (base + 2) v → Within base n r 0 fs
free-within base n key h r l v cs es fs p eh er d₁ d₂ =
    let long : length fs ≡ length cs = ap length d₂ ∙ length-put es (base + 2) v ∙ ap length d₁ ∙ length-put cs (base + 1) l in
    let same : taken base fs ≡ taken base cs =
    ap (taken base) d₂ ∙ taken-put base es (base + 2) v (omega arith) ∙ ap (taken base) d₁ ∙ taken-put base cs (base + 1) l (omega arith) in
    record {
      room = omega (arith, p.ar.room, long);
      small = omega (arith, p.ar.small, long);
      low = omega (arith, same, p.one, p.top);
      most = omega (arith, same, p.ar.low);
      few = omega arith;
    }

-- one never taken before (cn-)
module _ (base n key x : ℕ) (cs es ds : List ℕ) (p : CanNew base n key cs) (e : x ≡ nth cs base) (d₁ : es ≡ put cs base (x + 1)) (d : ds ≡ put es (base + 3 + x * 8 + 0) key) where
  cn_long₁ : length es ≡ length cs
  cn_long₁ = ap length d₁ ∙ length-put cs base (x + 1)

  cn_long : length ds ≡ length cs
  cn_long = ap length d ∙ length-put es (base + 3 + x * 8 + 0) key ∙ cn_long₁

  cn_cell : (i : ℕ) → (i ≡ base → ⊥) → i < base + 3 → nth ds i ≡ nth cs i
  cn_cell i a b =
      ap (λ (l : List ℕ). nth l i) d
      ∙ nth-put_other es (base + 3 + x * 8 + 0) key i (omega arith)
      ∙ ap (λ (l : List ℕ). nth l i) d₁
      ∙ nth-put_other cs base (x + 1) i a

  cn_was : x ≡ taken base cs
  cn_was = taken_is base x cs e

  cn_taken : taken base ds ≡ x + 1
  cn_taken =
      ap (taken base) d
      ∙ taken-put base es (base + 3 + x * 8 + 0) key (omega arith)
      ∙ ap (taken base) d₁
      ∙ taken-put-first base cs (x + 1) (omega (arith, p.ar.room))

  cn_free : free base ds ≡ free base cs
  unfolding free
  cn_free = cn_cell (base + 2) (omega arith) (omega arith)

  cn_low : x < n
  cn_low = omega (arith, p.left, cn_was)

  -- the records below it are as they were, and those above it are not taken yet
  cn_other : (s g : ℕ) → g < 8 → (s ≡ x → ⊥) → field base ds s g ≡ field base cs s g
  cn_other s g h w =
      below_or_not s x
      (λ lt.
      field_of base ds s g (omega (arith, cn_taken))
      ∙ ap (λ (l : List ℕ). nth l (base + 3 + s * 8 + g)) d
      ∙ nth-put_other es (base + 3 + x * 8 + 0) key (base + 3 + s * 8 + g) (omega arith)
      ∙ ap (λ (l : List ℕ). nth l (base + 3 + s * 8 + g)) d₁
      ∙ nth-put_other cs base (x + 1) (base + 3 + s * 8 + g) (omega arith)
      ∙ sym (field_of base cs s g (omega (arith, cn_was))))
      (λ le. field_none base ds s g (omega (arith, cn_taken)) ∙ sym (field_none base cs s g (omega (arith, cn_was))))

  cn_here : field base ds x 0 ≡ key
  cn_here =
      field_of base ds x 0 (omega (arith, cn_taken))
      ∙ ap (λ (l : List ℕ). nth l (base + 3 + x * 8 + 0)) d
      ∙ nth-put es (base + 3 + x * 8 + 0) key (omega (arith, p.ar.room, cn_low, cn_long₁))

  pub claimed_new : Claimed base n key x cs ds
  claimed_new =
      record {
        live = record {
          ar = record {
            room = omega (arith, p.ar.room, cn_long);
            small = omega (arith, p.ar.small, cn_long);
            low = omega (arith, cn_taken, cn_low);
            few = omega (arith, cn_taken, p.none, cn_free);
            chain = rw (cn_taken, cn_free, cn_cell (base + 1) (omega arith) (omega arith))
                (chain_same base (taken base cs) (x + 1) (free base cs) cs ds (omega (arith, cn_was))
                (λ s h z k g w. cn_other s g (omega arith) (omega (arith, cn_was))) (free base cs) (nth cs (base + 1)) (omega arith) p.ar.chain);
          };
          low = cn_low;
          live = rw cn_here p.pos;
        };
        only = record {
          others = cn_other;
          kept = rw (d, d₁)
              (kept_then (kept-put base (base + 3 + n * 8) cs base (x + 1) (omega arith) (omega arith))
              (kept-put base (base + 3 + n * 8) _ (base + 3 + x * 8 + 0) key (omega arith) (omega (arith, cn_low))));
        };
        idle = field_none base cs x 0 (omega (arith, cn_was));
        key_is = cn_here;
        most = omega (arith, cn_taken, cn_was);
        even = omega (arith, cn_taken, cn_was, cn_free);
      }

-- the first of the free list (cf-)
module _ (base n key h c r l : ℕ) (cs es fs ds : List ℕ) (p : CanFree base n key cs) (eh : h ≡ nth cs (base + 1)) (ec : c ≡ nth cs (base + 2)) (er : r ≡ h - 1)
    (el : l ≡ field base cs r 1) (d₁ : es ≡ put cs (base + 1) l) (d₂ : fs ≡ put es (base + 2) (c - 1)) (d : ds ≡ put fs (base + 3 + r * 8 + 0) key) where
  cf_long₁ : length es ≡ length cs
  cf_long₁ = ap length d₁ ∙ length-put cs (base + 1) l

  cf_long₂ : length fs ≡ length cs
  cf_long₂ = ap length d₂ ∙ length-put es (base + 2) (c - 1) ∙ cf_long₁

  cf_long : length ds ≡ length cs
  cf_long = ap length d ∙ length-put fs (base + 3 + r * 8 + 0) key ∙ cf_long₂

  cf_head : (i : ℕ) → i < base + 3 → nth ds i ≡ nth fs i
  cf_head i h = ap (λ (l : List ℕ). nth l i) d ∙ nth-put_other fs (base + 3 + r * 8 + 0) key i (omega arith)

  cf_was : c ≡ free base cs
  cf_was = free_is base c cs ec

  cf_taken₂ : taken base fs ≡ taken base cs
  cf_taken₂ =
      ap (taken base) d₂
      ∙ taken-put base es (base + 2) (c - 1) (omega arith)
      ∙ ap (taken base) d₁
      ∙ taken-put base cs (base + 1) l (omega arith)

  cf_taken : taken base ds ≡ taken base cs
  cf_taken = ap (taken base) d ∙ taken-put base fs (base + 3 + r * 8 + 0) key (omega arith) ∙ cf_taken₂

  cf_first : nth ds (base + 1) ≡ l
  cf_first =
      cf_head (base + 1) (omega arith)
      ∙ ap (λ (l : List ℕ). nth l (base + 1)) d₂
      ∙ nth-put_other es (base + 2) (c - 1) (base + 1) (omega arith)
      ∙ ap (λ (l : List ℕ). nth l (base + 1)) d₁
      ∙ nth-put cs (base + 1) l (omega (arith, p.ar.room))

  cf_free : free base ds ≡ c - 1
  unfolding free
  cf_free =
      cf_head (base + 2) (omega arith)
      ∙ ap (λ (l : List ℕ). nth l (base + 2)) d₂
      ∙ nth-put es (base + 2) (c - 1) (omega (arith, p.ar.room, cf_long₁))

  cf_other : (s g : ℕ) → g < 8 → (s ≡ r → g ≡ 0 → ⊥) → field base ds s g ≡ field base cs s g
  cf_other s g h w =
      ap (λ (l : List ℕ). field base l s g) d
      ∙ field-put_other base fs r 0 key s g (omega arith) h w
      ∙ ap (λ (l : List ℕ). field base l s g) d₂
      ∙ field-put_head base es (base + 2) (c - 1) s g (omega arith) (omega arith)
      ∙ ap (λ (l : List ℕ). field base l s g) d₁
      ∙ field-put_head base cs (base + 1) l s g (omega arith) (omega arith)

  cf_low : r < taken base cs
  cf_low = omega (arith, p.one, p.top)

  cf_here : field base ds r 0 ≡ key
  cf_here = ap (λ (l : List ℕ). field base l r 0) d ∙ field-put base fs r 0 key (omega (arith, cf_low, cf_taken₂)) (omega (arith, p.ar.room, p.ar.low, cf_low, cf_long₂))

  abbrev Rest : ℕ → Type 0
  Rest m = (Node base (taken base cs) cs r (suc m)) × (Chain base (taken base cs) cs (field base cs r 1) m)

  cf_rest : Rest (c - 1)
  unfolding Chain
  cf_rest =
      let k : free base cs ≡ suc (c - 1) = omega (arith, p.some, cf_was) in
      let q : nth cs (base + 1) - 1 ≡ r = omega arith in
      let w = rw k at p.ar.chain in
      (rw q at w.1, rw q at w.2)

  pub claimed_free : Claimed base n key r cs ds
  claimed_free =
      record {
        live = record {
          ar = record {
            room = omega (arith, p.ar.room, cf_long);
            small = omega (arith, p.ar.small, cf_long);
            low = omega (arith, cf_taken, p.ar.low);
            few = omega (arith, cf_taken, cf_free, cf_was, p.ar.few);
            chain = rw (cf_taken, cf_free, cf_first, el)
                (chain_same base (taken base cs) (taken base cs) (c - 1) cs ds (omega arith)
                (λ s h z k g w. cf_other s g (omega arith) (λ u _. deep s u k)) (c - 1) (field base cs r 1) (omega arith) cf_rest.1);
          };
          low = omega (arith, cf_low, p.ar.low);
          live = rw cf_here p.pos;
        };
        only = record {
          others = λ s g h w. cf_other s g h (λ u _. w u);
          kept = rw (d, d₂, d₁)
              (kept_then (kept-put base (base + 3 + n * 8) cs (base + 1) l (omega arith) (omega arith))
              (kept_then (kept-put base (base + 3 + n * 8) _ (base + 2) (c - 1) (omega arith) (omega arith))
              (kept-put base (base + 3 + n * 8) _ (base + 3 + r * 8 + 0) key (omega arith) (omega (arith, cf_low, p.ar.low)))));
        };
        idle = cf_rest.0.idle;
        key_is = cf_here;
        most = omega (arith, cf_taken);
        even = omega (arith, cf_taken, cf_free, cf_was, p.some);
      }
    where
      -- the rest of the list is less deep than r
      deep : (s : ℕ) → s ≡ r → field base cs s 2 ≤ c - 1 → ⊥
      deep s u k = let k' : field base cs r 2 ≤ c - 1 = rw u at k in omega (arith, k', cf_rest.0.depth)

-- which of the two it is
module _ (base n key x : ℕ) (cs : List ℕ) (p : CanClaim base n key cs) (e : x ≡ nth cs (base + 2)) where
  count_is : free base cs ≡ x
  count_is = sym (free_is base x cs e)

  pub can_new : x ≡ 0 → CanNew base n key cs
  can_new z = record { ar = p.ar; pos = p.pos; none = count_is ∙ z; left = p.space }

  pub can_free : (x ≡ 0 → ⊥) → CanFree base n key cs
  unfolding Chain
  can_free z =
      let k : free base cs ≡ suc (x - 1) = omega (arith, count_is) in
      let w = rw k at p.ar.chain in
      record { ar = p.ar; pos = p.pos; some = omega (arith, count_is); one = w.0; top = omega (arith, w.0, w.1.low) }

-- TO GIVE A RECORD BACK

-- a live record goes to the front of the free list: its fields 1 and 2 are what they are to be (dr-)
module _ (base n r c : ℕ) (cs es fs ds : List ℕ) (p : CanDrop base n r cs) (ec : c ≡ nth cs (base + 2))
    (d₁ : es ≡ put cs (base + 3 + r * 8 + 0) 0) (d₂ : fs ≡ put es (base + 1) (r + 1)) (d : ds ≡ put fs (base + 2) (c + 1)) where
  dr_long₁ : length es ≡ length cs
  dr_long₁ = ap length d₁ ∙ length-put cs (base + 3 + r * 8 + 0) 0

  dr_long₂ : length fs ≡ length cs
  dr_long₂ = ap length d₂ ∙ length-put es (base + 1) (r + 1) ∙ dr_long₁

  dr_long : length ds ≡ length cs
  dr_long = ap length d ∙ length-put fs (base + 2) (c + 1) ∙ dr_long₂

  dr_was : c ≡ free base cs
  dr_was = free_is base c cs ec

  dr_taken : taken base ds ≡ taken base cs
  dr_taken =
      ap (taken base) d
      ∙ taken-put base fs (base + 2) (c + 1) (omega arith)
      ∙ ap (taken base) d₂
      ∙ taken-put base es (base + 1) (r + 1) (omega arith)
      ∙ ap (taken base) d₁
      ∙ taken-put base cs (base + 3 + r * 8 + 0) 0 (omega arith)

  dr_first : nth ds (base + 1) ≡ r + 1
  dr_first =
      ap (λ (l : List ℕ). nth l (base + 1)) d
      ∙ nth-put_other fs (base + 2) (c + 1) (base + 1) (omega arith)
      ∙ ap (λ (l : List ℕ). nth l (base + 1)) d₂
      ∙ nth-put es (base + 1) (r + 1) (omega (arith, p.at.ar.room, dr_long₁))

  dr_free : free base ds ≡ suc c
  unfolding free
  dr_free = ap (λ (l : List ℕ). nth l (base + 2)) d ∙ nth-put fs (base + 2) (c + 1) (omega (arith, p.at.ar.room, dr_long₂)) ∙ add-one c

  dr_other : (s g : ℕ) → g < 8 → (s ≡ r → g ≡ 0 → ⊥) → field base ds s g ≡ field base cs s g
  dr_other s g h w =
      ap (λ (l : List ℕ). field base l s g) d
      ∙ field-put_head base fs (base + 2) (c + 1) s g (omega arith) (omega arith)
      ∙ ap (λ (l : List ℕ). field base l s g) d₂
      ∙ field-put_head base es (base + 1) (r + 1) s g (omega arith) (omega arith)
      ∙ ap (λ (l : List ℕ). field base l s g) d₁
      ∙ field-put_other base cs r 0 0 s g (omega arith) h w

  dr_here : field base ds r 0 ≡ 0
  dr_here =
      ap (λ (l : List ℕ). field base l r 0) d
      ∙ field-put_head base fs (base + 2) (c + 1) r 0 (omega arith) (omega arith)
      ∙ ap (λ (l : List ℕ). field base l r 0) d₂
      ∙ field-put_head base es (base + 1) (r + 1) r 0 (omega arith) (omega arith)
      ∙ ap (λ (l : List ℕ). field base l r 0) d₁
      ∙ field-put base cs r 0 0 (live_low base n r cs p.at) (omega (arith, p.at.ar.room, p.at.low))

  -- what was free stays in the list, behind it
  dr_rest : Chain base (taken base ds) ds (field base ds r 1) c
  dr_rest =
      rw (dr_taken, dr_other r 1 (omega arith) (λ _ u. omega arith) ∙ p.link, dr_was)
      (chain_same base (taken base cs) (taken base cs) (free base cs) cs ds (omega arith)
      (λ s h z k g w. dr_other s g (omega arith) (λ u _. not_free base n r s cs p.at u z)) (free base cs) (nth cs (base + 1)) (omega arith) p.at.ar.chain)

  dr_chain : Chain base (taken base ds) ds (nth ds (base + 1)) (free base ds)
  unfolding Chain
  dr_chain =
      let q : r + 1 - 1 ≡ r = omega arith in
      rw (dr_free, dr_first, q) (
        omega arith,
        record {
          low = omega (arith, dr_taken, live_low base n r cs p.at);
          idle = dr_here;
          depth = dr_other r 2 (omega arith) (λ _ u. omega arith) ∙ p.depth ∙ rw (← dr_was, add-one c);
        },
        dr_rest,
      )

  pub dropped : Released base n r cs ds
  dropped =
      record {
        ok = record {
          room = omega (arith, p.at.ar.room, dr_long);
          small = omega (arith, p.at.ar.small, dr_long);
          low = omega (arith, dr_taken, p.at.ar.low);
          few = omega (arith, dr_taken, dr_free, dr_was, p.more);
          chain = dr_chain;
        };
        only = record {
          others = λ s g h w. dr_other s g h (λ u _. w u);
          kept = rw (d, d₂, d₁)
              (kept_then (kept-put base (base + 3 + n * 8) cs (base + 3 + r * 8 + 0) 0 (omega arith) (omega (arith, p.at.low)))
              (kept_then (kept-put base (base + 3 + n * 8) _ (base + 1) (r + 1) (omega arith) (omega arith))
              (kept-put base (base + 3 + n * 8) _ (base + 2) (c + 1) (omega arith) (omega arith))));
        };
        gone = dr_here;
        same = dr_taken;
        freed = omega (arith, dr_free, dr_was);
      }

-- SEVERAL PUTS, ONE AFTER THE OTHER

pub only_then : (base n r : ℕ) (a b c : List ℕ) → Only base n r a b → Only base n r b c → Only base n r a c
only_then base n r a b c p q = record { others = λ s g h w. q.others s g h w ∙ p.others s g h w; kept = kept_then p.kept q.kept }

-- the link and the depth of a record to give back
module _ (base n r h c : ℕ) (cs ds es : List ℕ) (p : CanRelease base n r cs) (eh : h ≡ nth cs (base + 1)) (ec : c ≡ nth cs (base + 2))
    (a : FieldPut base n r 1 h cs ds) (b : FieldPut base n r 2 (c + 1) ds es) where
  tied_head : (i : ℕ) → i < base + 3 → nth es i ≡ nth cs i
  tied_head i k = b.head i k ∙ a.head i k

  pub can_drop : CanDrop base n r es
  can_drop =
      record {
        at = b.live;
        link = b.rest 1 (omega arith) (omega arith) ∙ a.here ∙ eh ∙ sym (tied_head (base + 1) (omega arith));
        depth = b.here ∙ omega (arith, free_head base cs es tied_head, free_is base c cs ec);
        more = omega (arith, taken_head base cs es tied_head, free_head base cs es tied_head, p.more);
      }

pub released : (base n r f g v w : ℕ) (cs ds es fs : List ℕ) → FieldPut base n r f v cs ds → FieldPut base n r g w ds es → Released base n r es fs → Released base n r cs fs
released base n r f g v w cs ds es fs a b d =
    record {
      ok = d.ok;
      only = only_then base n r cs ds fs a.only (only_then base n r ds es fs b.only d.only);
      gone = d.gone;
      same = d.same ∙ taken_head base cs es head;
      freed = omega (arith, d.freed, free_head base cs es head);
    }
  where
    head : (i : ℕ) → i < base + 3 → nth es i ≡ nth cs i
    head i k = b.head i k ∙ a.head i k

-- three puts of 0
module _ (base n r : ℕ) (a b c d : List ℕ) (p : FieldPut base n r 1 0 a b) (q : FieldPut base n r 2 0 b c) (s : FieldPut base n r 3 0 c d) where
  blank_step : (g k : ℕ) (x y : List ℕ) → g < 8 → FieldPut base n r k 0 x y → ((g ≡ k → ⊥) → field base x r g ≡ 0) → field base y r g ≡ 0
  blank_step g k x y h w z = same_or_not g k (λ i. rw i w.here) (λ i. w.rest g h i ∙ z i)

  pub blanked : Blank base n r a d
  blanked =
      record {
        live = s.live;
        only = only_then base n r a b d p.only (only_then base n r b c d q.only s.only);
        key_is = s.rest 0 (omega arith) (omega arith) ∙ q.rest 0 (omega arith) (omega arith) ∙ p.rest 0 (omega arith) (omega arith);
        blank = λ g h k.
            blank_step g 3 c d (omega arith) s
            (λ not3. blank_step g 2 b c (omega arith) q (λ not2. blank_step g 1 a b (omega arith) p (λ not1. absurd (omega arith))));
        head = λ i k. s.head i k ∙ q.head i k ∙ p.head i k;
      }

-- a record taken, then emptied
pub allocated : (base n key r : ℕ) (cs ds es : List ℕ) → Claimed base n key r cs ds → Blank base n r ds es → Alloc base n key r cs es
allocated base n key r cs ds es c b =
    record {
      live = b.live;
      only = only_then base n r cs ds es c.only b.only;
      idle = c.idle;
      key_is = b.key_is ∙ c.key_is;
      blank = b.blank;
      most = omega (arith, c.most, taken_head base ds es b.head);
      even = omega (arith, c.even, taken_head base ds es b.head, free_head base ds es b.head);
    }
