-- The laws of the records: what a put does to a field, to the free list and to the arena. Assumes nothing.
use mathlib.Core.Path.{◌≡◌, sym, ap, ◌∙◌}
use mathlib.Core.List.{List}
use Prim.Native.Nat.{ℕ, zero, suc, ◌+◌, ◌-◌, ◌*◌, ◌<◌, ◌≤◌}
use native.Mathlib.Omega.{arith}
use borrow.Author.Tests.{lt-ltb, le-ltb}
use lib.ListN.{length}
use Rattle.runs.specs.Parts.{nth, put}
use Rattle.runs.proofs.Parts.{below_or_not, length-put, nth-put, nth-put_other}
use Rattle.runs.proofs.Frames.{kept-put}
use Rattle.records.specs.Records.{field, taken, free, Chain, Arena, Live, CanPut, FieldPut, Within}

-- THE HEAD

-- how many are taken and free is what the head says
pub taken_is : (base x : ℕ) (cs : List ℕ) → x ≡ nth cs base → x ≡ taken base cs
unfolding taken
taken_is base x cs e = e

pub free_is : (base x : ℕ) (cs : List ℕ) → x ≡ nth cs (base + 2) → x ≡ free base cs
unfolding free
free_is base x cs e = e

pub taken_head : (base : ℕ) (was is : List ℕ) → ((i : ℕ) → i < base + 3 → nth is i ≡ nth was i) → taken base is ≡ taken base was
unfolding taken
taken_head base was is f = f base (omega arith)

pub free_head : (base : ℕ) (was is : List ℕ) → ((i : ℕ) → i < base + 3 → nth is i ≡ nth was i) → free base is ≡ free base was
unfolding free
free_head base was is f = f (base + 2) (omega arith)

pub taken-put : (base : ℕ) (cs : List ℕ) (i v : ℕ) → base < i → taken base (put cs i v) ≡ taken base cs
unfolding taken
taken-put base cs i v h = nth-put_other cs i v base (omega arith)

pub taken-put-first : (base : ℕ) (cs : List ℕ) (v : ℕ) → base < length cs → taken base (put cs base v) ≡ v
unfolding taken
taken-put-first base cs v h = nth-put cs base v h

-- A FIELD

-- of a record that was taken, and of one that was not, which has none above 0
pub field_of : (base : ℕ) (cs : List ℕ) (r f : ℕ) → r < taken base cs → field base cs r f ≡ nth cs (base + 3 + r * 8 + f)
unfolding field taken
field_of base cs r f h = rw (lt-ltb r (nth cs base) h)

pub field_none : (base : ℕ) (cs : List ℕ) (r f : ℕ) → taken base cs ≤ r → field base cs r f ≡ 0
unfolding field taken
field_none base cs r f h = rw (le-ltb r (nth cs base) h)

pub field_low : (base : ℕ) (cs : List ℕ) (r f : ℕ) → 0 < field base cs r f → r < taken base cs
field_low base cs r f h = below_or_not r (taken base cs) (λ l. l) (λ l. absurd (omega (arith, field_none base cs r f l)))

pub field_is : (base r f x : ℕ) (cs : List ℕ) → r < taken base cs → x ≡ nth cs (base + 3 + r * 8 + f) → x ≡ field base cs r f
field_is base r f x cs h e = e ∙ sym (field_of base cs r f h)

pub field-same : (base : ℕ) (was is : List ℕ) (r f : ℕ) → taken base is ≡ taken base was → nth is (base + 3 + r * 8 + f) ≡ nth was (base + 3 + r * 8 + f)
    → field base is r f ≡ field base was r f
unfolding field taken
field-same base was is r f t e = rw (t, e)

-- after a put: of that field, of another one, of a cell of the head past the first
pub field-put : (base : ℕ) (cs : List ℕ) (r f v : ℕ) → r < taken base cs → base + 3 + r * 8 + f < length cs
    → field base (put cs (base + 3 + r * 8 + f) v) r f ≡ v
field-put base cs r f v l h =
    field_of base (put cs (base + 3 + r * 8 + f) v) r f (omega (arith, taken-put base cs (base + 3 + r * 8 + f) v (omega arith)))
    ∙ nth-put cs (base + 3 + r * 8 + f) v h

pub field-put_other : (base : ℕ) (cs : List ℕ) (r f v s g : ℕ) → f < 8 → g < 8 → (s ≡ r → g ≡ f → ⊥)
    → field base (put cs (base + 3 + r * 8 + f) v) s g ≡ field base cs s g
field-put_other base cs r f v s g a b n =
    field-same base cs (put cs (base + 3 + r * 8 + f) v) s g (taken-put base cs (base + 3 + r * 8 + f) v (omega arith))
    (nth-put_other cs (base + 3 + r * 8 + f) v (base + 3 + s * 8 + g) (λ e. n (one e) (two e)))
  where
    one : base + 3 + s * 8 + g ≡ base + 3 + r * 8 + f → s ≡ r
    one e = omega arith

    two : base + 3 + s * 8 + g ≡ base + 3 + r * 8 + f → g ≡ f
    two e = omega (arith, one e)

pub field-put_head : (base : ℕ) (cs : List ℕ) (i v s g : ℕ) → base < i → i < base + 3 → field base (put cs i v) s g ≡ field base cs s g
field-put_head base cs i v s g l h =
    field-same base cs (put cs i v) s g (taken-put base cs i v l) (nth-put_other cs i v (base + 3 + s * 8 + g) (omega arith))

-- THE FREE LIST AND THE LIVE RECORDS

-- a free list is one still where its nodes are as they were
pub chain_same : (base top up M : ℕ) (cs ds : List ℕ) → top ≤ up
    → ((r : ℕ) → r < top → field base cs r 0 ≡ 0 → field base cs r 2 ≤ M → (g : ℕ) → g < 3 → field base ds r g ≡ field base cs r g)
    → (m head : ℕ) → m ≤ M → Chain base top cs head m → Chain base up ds head m
unfolding Chain
chain_same base top up M cs ds t f zero head h c = c
chain_same base top up M cs ds t f (suc m) head h c =
    let k = c.1 in
    let same = f (head - 1) k.low k.idle (omega (arith, k.depth)) in (
      c.0,
      record { low = omega (arith, k.low); idle = same 0 (omega arith) ∙ k.idle; depth = same 2 (omega arith) ∙ k.depth },
      rw (same 1 (omega arith)) (chain_same base top up M cs ds t f m (field base cs (head - 1) 1) (omega arith) c.2),
    )

-- a live record was taken once
pub live_low : (base n r : ℕ) (cs : List ℕ) → Live base n r cs → r < taken base cs
live_low base n r cs l = field_low base cs r 0 l.live

-- and is in no free list
pub not_free : (base n r s : ℕ) (cs : List ℕ) → Live base n r cs → s ≡ r → field base cs s 0 ≡ 0 → ⊥
not_free base n r s cs l u z = let z' : field base cs r 0 ≡ 0 = rw u at z in omega (arith, l.live, z')

-- a put in a field of a live record (fp-)
module _ (base n r f v : ℕ) (cs ds : List ℕ) (p : CanPut base n r f cs) (d : ds ≡ put cs (base + 3 + r * 8 + f) v) where
  fp_head : (i : ℕ) → i < base + 3 → nth ds i ≡ nth cs i
  fp_head i h = ap (λ (l : List ℕ). nth l i) d ∙ nth-put_other cs (base + 3 + r * 8 + f) v i (omega arith)

  fp_taken : taken base ds ≡ taken base cs
  fp_taken = taken_head base cs ds fp_head

  fp_free : free base ds ≡ free base cs
  fp_free = free_head base cs ds fp_head

  fp_other : (s g : ℕ) → g < 8 → (s ≡ r → g ≡ f → ⊥) → field base ds s g ≡ field base cs s g
  fp_other s g h w = ap (λ (l : List ℕ). field base l s g) d ∙ field-put_other base cs r f v s g p.few h w

  fp_long : length ds ≡ length cs
  fp_long = ap length d ∙ length-put cs (base + 3 + r * 8 + f) v

  fp_key : (s : ℕ) → field base ds s 0 ≡ field base cs s 0
  fp_key s = fp_other s 0 (omega arith) (λ a b. omega (arith, p.some))

  fp_ok : Arena base n ds
  fp_ok =
      let a = p.at.ar in
      record {
        room = omega (arith, a.room, fp_long);
        small = omega (arith, a.small, fp_long);
        low = rw fp_taken a.low;
        few = rw (fp_taken, fp_free) a.few;
        chain = rw (fp_taken, fp_head (base + 1) (omega arith), fp_free)
            (chain_same base (taken base cs) (taken base cs) (free base cs) cs ds (omega arith)
            (λ s h z k g w. fp_other s g (omega arith) (λ u _. not_free base n r s cs p.at u z)) (free base cs) (nth cs (base + 1)) (omega arith) a.chain);
      }

  pub did_put-field : FieldPut base n r f v cs ds
  did_put-field =
      record {
        live = record { ar = fp_ok; low = p.at.low; live = rw (fp_key r) p.at.live };
        only = record {
          others = λ s g h w. fp_other s g h (λ u _. w u);
          kept = rw d (kept-put base (base + 3 + n * 8) cs (base + 3 + r * 8 + f) v (omega arith) (omega (arith, p.at.low, p.few)));
        };
        here = ap (λ (l : List ℕ). field base l r f) d ∙ field-put base cs r f v (live_low base n r cs p.at) (omega (arith, p.at.ar.room, p.at.low, p.few));
        rest = λ g h w. fp_other r g h (λ _ u. w u);
        head = fp_head;
        is_put = d;
      }

-- a field of a live record lies in the room
pub live-within : (base n r f : ℕ) (cs : List ℕ) → Live base n r cs → f < 8 → Within base n r f cs
live-within base n r f cs l h =
    record { room = l.ar.room; small = l.ar.small; low = field_low base cs r 0 l.live; most = l.ar.low; few = h }
