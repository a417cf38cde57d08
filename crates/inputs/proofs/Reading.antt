-- The laws of reading until a room is full: what one more read adds. Assumes nothing.
use Rattle.std.proofs.Common.{◌≡◌, sym, ap, ◌∙◌, ℕ, ◌+◌, ◌-◌, ◌≤◌, List, ◌++◌, length, take, arith, refl, append_assoc, length-take-le}
use Rattle.std.specs.Prelude.{Option, Some, None}
use Rattle.std.specs.Io.KnownBytes.{Consumes}
use Rattle.std.proofs.Math.Seq.{take-append-add}
use Rattle.std.proofs.lemmas.List.{take-append-le}
use borrow.Rule.Slice.PartMut.{put_mid, post_of}

pub nothing_read : (a : Option (List ℕ)) (room : List ℕ) → Consumes a a (take 0 room)
nothing_read None room = tt
nothing_read (Some xs) room = refl

more_read : (a b c : Option (List ℕ)) (xs ys : List ℕ) → Consumes a b xs → Consumes b c ys → Consumes a c (xs ++ ys)
more_read None b c xs ys p q = tt
more_read (Some x) None c xs ys p q = absurd p
more_read (Some x) (Some y) None xs ys p q = absurd q
more_read (Some x) (Some y) (Some z) xs ys p q = p ∙ ap (λ (l : List ℕ). xs ++ l) q ∙ sym (append_assoc xs ys z)

-- the front of a room, after m bytes came behind n
room_grown : (n m : ℕ) (room new : List ℕ) → n ≤ length room → m ≤ length new
    → take (n + m) (put_mid n (length room - n) room new) ≡ take n room ++ take m new
room_grown n m room new h k =
    let l : length (take n room) ≡ n = length-take-le n room h in
    let rest = post_of n (length room - n) room in
    let e = take-append-add (take n room) (new ++ rest) m in
    (rw l at e) ∙ ap (λ (x : List ℕ). take n room ++ x) (take-append-le m new rest k)

pub read_on : (a b c : Option (List ℕ)) (n m : ℕ) (room new : List ℕ) → n ≤ length room → m ≤ length new
    → Consumes a b (take n room) → Consumes b c (take m new) → Consumes a c (take (n + m) (put_mid n (length room - n) room new))
read_on a b c n m room new h k p q = rw (room_grown n m room new h k) (more_read a b c (take n room) (take m new) p q)

pub read_end : (a b c : Option (List ℕ)) (n m : ℕ) (room new : List ℕ) → n ≤ length room → m ≡ 0
    → Consumes a b (take n room) → Consumes b c (take m new) → Consumes a c (take n (put_mid n (length room - n) room new))
read_end a b c n m room new h z p q =
    let s : n + m ≡ n = omega arith in
    rw s at (read_on a b c n m room new h (omega arith) p q)
