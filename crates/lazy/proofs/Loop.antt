-- A loop that runs the lazy rule: `Loop` holds at its start, each turn keeps it, and at each way out the whole is made.
use mathlib.Core.Path.{◌≡◌, refl}
use mathlib.Core.Bool.{true, false}
use mathlib.Core.List.{List, [], ◌∷◌, ◌++◌}
use Prim.Native.Nat.{ℕ, zero, suc, ◌+◌, ◌*◌, ◌-◌, ◌≤◌, ◌<◌, max}
use native.Mathlib.Omega.{arith}
use lib.ListN.{length}
use Rattle.rule.specs.Table.{Task}
use Rattle.rule.specs.Seeding.{Entry}
use Rattle.rule.specs.Training.{count, within, Choice, Merge, merge_of}
use Rattle.rule.specs.Sums.{AllUnder, in_use}
use Rattle.lazy.specs.Lazy.{insert, live, seeds, gained, Took, pieces_with, words_with, lazy, lazy_train}
use Rattle.lazy.specs.Loop.{grown, Loop}
use Rattle.lazy.proofs.Order.{differ}
use Rattle.lazy.proofs.Queue.{length-insert}
use Rattle.lazy.proofs.Invariant.{inv_seeds, inv_drop, inv_again, inv_join}
use Rattle.lazy.proofs.Bound.{potential-drop, potential_again, potential_join, potential-seeds, room_seeds, room_join}
use Rattle.lazy.proofs.Steps.{grown_start, step_again, step_gone, step_long, step_low, step_join, step_empty, step_full}

pub loop_start : (t : Task) (n : ℕ) (ps : List (List ℕ)) (es : List Entry) → AllUnder (length ps) es
    → Loop t (in_use es) (lazy_train t n ps es) (5 * in_use es) n ps es (seeds es) [] 0
unfolding lazy_train
loop_start t n ps es h = record { is = grown_start (lazy_train t n ps es); inv = inv_seeds t ps es h; fuel = potential-seeds es; few = room_seeds es }

-- the counter is not used up while there are entries
pub loop_fuel : {t : Task} {u : ℕ} {whole : Took} {k n : ℕ} {ps : List (List ℕ)} {es : List Entry} {e : Choice} {qu : List Choice} {ms : List Merge} {c : ℕ}
    → Loop t u whole k n ps es (e ∷ qu) ms c → 1 ≤ k
loop_fuel {es = es} {e = e} {qu = qu} l = let f = l.fuel in omega (arith, potential-drop es e qu)

-- the counters as `suc`
at_suc : (P : ℕ → ℕ → Type 0) (k n : ℕ) → 1 ≤ k → 1 ≤ n → ((i j : ℕ) → k ≡ suc i → n ≡ suc j → P i j) → P (k - 1) (n - 1)
at_suc P zero n h g f = absurd (omega arith)
at_suc P (suc k) zero h g f = absurd (omega arith)
at_suc P (suc k) (suc n) h g f =
    let a : suc k - 1 ≡ k = omega arith in
    let b : suc n - 1 ≡ n = omega arith in
    rw (a, b) (f k n refl refl)

-- THE TURNS, with the tests of the code as premises
module _ {t : Task} {u : ℕ} {whole : Took} {k n : ℕ} {ps : List (List ℕ)} {es : List Entry} {e : Choice} {qu : List Choice} {ms : List Merge} {c : ℕ}
    (l : Loop t u whole k n ps es (e ∷ qu) ms c) (room : 1 ≤ n) where
  at_turn : (i j : ℕ) → k ≡ suc i → n ≡ suc j → whole ≡ grown ms c (lazy t (suc i) (suc j) ps es (e ∷ qu))
  at_turn i j p q = rw (p, q) at l.is

  pub loop_again : (count e.left e.right es ≡ e.times → ⊥) → 1 ≤ count e.left e.right es
      → Loop t u whole (k - 1) n ps es (insert (live es e.left e.right) qu) ms (c + 1)
  loop_again a b =
      at_suc (λ i j. Loop t u whole i n ps es (insert (live es e.left e.right) qu) ms (c + 1)) k n (loop_fuel l) room
      (λ i j p q. record {
        is = rw q (step_again t i j ps es e qu whole ms c (at_turn i j p q) a b);
        inv = inv_again t ps es e qu l.inv;
        fuel = let f = l.fuel in omega (arith, potential_again es e qu a);
        few = let f = l.few in omega (arith, length-insert (live es e.left e.right) qu);
      })

  pub loop_gone : (count e.left e.right es ≡ e.times → ⊥) → count e.left e.right es ≡ 0 → Loop t u whole (k - 1) n ps es qu ms (c + 1)
  loop_gone a b =
      at_suc (λ i j. Loop t u whole i n ps es qu ms (c + 1)) k n (loop_fuel l) room
      (λ i j p q. record {
        is = rw q (step_gone t i j ps es e qu whole ms c (at_turn i j p q) a b);
        inv = inv_drop t ps es e qu l.inv (λ f m. omega arith);
        fuel = let f = l.fuel in omega (arith, potential-drop es e qu);
        few = let f = l.few in omega arith;
      })

  pub loop_long : count e.left e.right es ≡ e.times → max 1 t.min_frequency ≤ e.times → within t ps e.left e.right ≡ false
      → Loop t u whole (k - 1) n ps es qu ms (c + 1)
  loop_long a b d =
      at_suc (λ i j. Loop t u whole i n ps es qu ms (c + 1)) k n (loop_fuel l) room
      (λ i j p q. record {
        is = rw q (step_long t i j ps es e qu whole ms c (at_turn i j p q) a b d);
        inv = inv_drop t ps es e qu l.inv (λ f m. differ _ f d);
        fuel = let f = l.fuel in omega (arith, potential-drop es e qu);
        few = let f = l.few in omega arith;
      })

  pub loop_join : count e.left e.right es ≡ e.times → max 1 t.min_frequency ≤ e.times → within t ps e.left e.right ≡ true
      → Loop t u whole (k - 1) (n - 1) (pieces_with t ps e) (words_with ps es e) (gained (length ps) (words_with ps es e) qu)
      (ms ++ (merge_of t ps es e.left e.right ∷ [])) (c + 1)
  loop_join a b d =
      at_suc (λ i j. Loop t u whole i j (pieces_with t ps e) (words_with ps es e) (gained (length ps) (words_with ps es e) qu) (ms ++ (merge_of t ps es e.left e.right ∷ [])) (c + 1)) k n (loop_fuel l) room
      (λ i j p q. record {
        is = step_join t i j ps es e qu whole ms c (at_turn i j p q) a b d;
        inv = inv_join t ps es e qu l.inv;
        fuel = let f = l.fuel in omega (arith, potential_join t ps es e qu l.inv);
        few = let f = l.few in omega (arith, room_join t ps es e qu l.inv);
      })

  pub loop_low : count e.left e.right es ≡ e.times → e.times < max 1 t.min_frequency → whole ≡ record { merges = ms; taken = c + 1 }
  loop_low a b =
      at_suc (λ i j. whole ≡ record { merges = ms; taken = c + 1 }) k n (loop_fuel l) room
      (λ i j p q. step_low t i j ps es e qu whole ms c (at_turn i j p q) a b)

-- THE WAYS OUT
module _ {t : Task} {u : ℕ} {whole : Took} {k : ℕ} {ps : List (List ℕ)} {es : List Entry} {ms : List Merge} {c : ℕ} where
  pub loop_empty : {n : ℕ} → Loop t u whole k n ps es [] ms c → whole ≡ record { merges = ms; taken = c }
  loop_empty {n} l = step_empty t k ps es whole ms c n l.is

  pub loop_full : {qu : List Choice} → Loop t u whole k 0 ps es qu ms c → whole ≡ record { merges = ms; taken = c }
  loop_full {qu} l = step_full t k ps es whole ms c qu l.is

-- the heap needs room for three entries for each symbol
pub loop_few : {t : Task} {u : ℕ} {whole : Took} {k n : ℕ} {ps : List (List ℕ)} {es : List Entry} {qu : List Choice} {ms : List Merge} {c : ℕ}
    → Loop t u whole k n ps es qu ms c → length qu ≤ 3 * u
loop_few l = let f = l.few in omega arith
