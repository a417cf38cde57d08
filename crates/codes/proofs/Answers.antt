-- The laws of the answers: each by the tests that lead to it, and that a contract leaves one outcome. Assumes nothing.
use mathlib.Core.Path.{◌≡◌, refl, sym, ap, ◌∙◌}
use mathlib.Core.Bool.{Bool, true, false, not, or-true}
use mathlib.Core.List.{List, [], ◌∷◌, ◌++◌}
use Prim.Native.Nat.{ℕ, ◌+◌, ◌-◌, ◌*◌, ◌/◌, ◌<◌, ◌≤◌}
use native.Mathlib.Omega.{arith}
use lib.Dec.{leb}
use lib.ListN.{length}
use borrow.Author.Tests.{not-true, not-false, leb-true, leb-false, lt-ltb, le-ltb}
use Rattle.runs.specs.Parts.{laid}
use Rattle.runs.proofs.Parts.{length-laid, laid-laid}
use Rattle.std.specs.Prelude.{Result, Ok, Err}
use Rattle.error.specs.declared.NoRoom.{NoRoom}
use Rattle.codes.specs.Codes.{version, codes_text}
use Rattle.codes.specs.Writing.{written, leaves, Wrote, lines_to, Placed}
use Rattle.codes.proofs.Lengths.{length-codes_text}

-- the first line as the code has it
abbrev pub first_line : List ℕ
first_line = 35 ∷ 118 ∷ 101 ∷ 114 ∷ 115 ∷ 105 ∷ 111 ∷ 110 ∷ 58 ∷ 32 ∷ 48 ∷ 46 ∷ 50 ∷ 10 ∷ []

module _ (out p e m : List ℕ) (count : ℕ) where
  text_is : first_line ++ lines_to p e m count 0 ≡ codes_text p e m count
  unfolding codes_text version lines_to
  text_is = let z : count - 0 ≡ count = omega arith in rw z

  pub wrote_few : length m / 8 < count → Wrote out p e m count (Err (record {})) out
  unfolding written leaves
  wrote_few h = record { is = rw (lt-ltb (length m) (count * 8) (omega arith)); run = refl }

  module _ (h : count ≤ length m / 8) (b : Bool) (q : b ≡ leb (length (codes_text p e m count)) (length out)) where
    pub wrote_long : not b ≡ true → Wrote out p e m count (Err (record {})) out
    unfolding written leaves
    wrote_long n =
        let k = leb-false (length (codes_text p e m count)) (length out) (sym q ∙ not-true b n) in
        record { is = rw (lt-ltb (length out) (length (codes_text p e m count)) k, or-true); run = refl }

    module _ (n : not b ≡ false) where
      room : length (codes_text p e m count) ≤ length out
      room = leb-true (length (codes_text p e m count)) (length out) (sym q ∙ not-false b n)

      pub wrote_first : 14 ≤ length out
      wrote_first = omega (arith, room, length-codes_text p e m count)

      module _ (ys : List ℕ) (first : ℕ) (k : Placed out ys 0 first_line first) where
        pub wrote_merges : count * 8 ≤ length m
        wrote_merges = omega arith

        pub wrote_lines : first + length (lines_to p e m count 0) ≤ length ys
        wrote_lines =
            let l = length-laid out 0 first_line (omega (arith, wrote_first)) in
            omega (arith, room, length-codes_text p e m count, k.behind, ap length k.is, l)

        pub wrote_text : (zs : List ℕ) (r : ℕ) → Placed ys zs first (lines_to p e m count 0) r → Wrote out p e m count (Ok r) zs
        unfolding written leaves
        wrote_text zs r l =
            let t = length-codes_text p e m count in
            let s : r ≡ length (codes_text p e m count) = omega (arith, t, k.behind, l.behind) in
            let j = laid-laid out 0 first_line (lines_to p e m count 0) (omega (arith, t, room)) in
            record {
              is = rw (le-ltb (length m) (count * 8) (omega arith), le-ltb (length out) (length (codes_text p e m count)) room, s);
              run = l.is ∙ rw (k.is, k.behind) j ∙ ap (λ (x : List ℕ). laid out 0 x) text_is;
            }

-- ONE OUTCOME: of two that the contract of `write_codes` allows for the same run and merges, all is equal
pub wrote_single : {out p e m : List ℕ} {count : ℕ} {r q : Result ℕ NoRoom} {out' out'' : List ℕ} → Wrote out p e m count r out' → Wrote out p e m count q out''
    → (r ≡ q) × (out' ≡ out'')
wrote_single {out} {p} {e} {m} {count} a b =
    let s = a.is ∙ sym b.is in
    (s, a.run ∙ ap (λ (x : Result ℕ NoRoom). leaves x out (codes_text p e m count)) s ∙ sym b.run)
