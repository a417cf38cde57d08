-- What reading a piece and merging symbols leave, for every input.
use mathlib.Core.Path.{◌≡◌, refl, sym, ◌∙◌}
use mathlib.Core.Bool.{Bool, true, false, cond, ◌||◌, not, false≢true}
use mathlib.Core.List.{List, [], ◌∷◌, flat_map}
use mathlib.Core.Logic.{◌≢◌}
use Prim.Native.Nat.{ℕ, ◌*◌, ◌%◌, ◌≤◌, ◌<◌}
use native.Mathlib.Omega.{arith}
use lib.Dec.{eqb, ltb, leb}
use lib.ListN.{length}
use borrow.Author.Tests.{ltb-true, ltb-false, leb-true, leb-false, eqb-true, eqb-false, lt-ltb, le-ltb, ne_eqb}
use Rattle.runs.specs.Parts.{laid}
use Rattle.numbers.specs.Little.{numbers}
use Rattle.rule.specs.Shapes.{spell_all, wholes}
use Rattle.rule.specs.Rewriting.{rewrite, rewrites, reports}
use Rattle.rule.specs.Layout.{piece_shape, piece_count, piece_start, piece_length}
use Rattle.rule.specs.Refusals.{Verdict, says}
use Rattle.rule.specs.Outcome.{short, told, report_bytes, look_up, piece_outcome, merge_verdict, Merged, merge_outcome}
use Rattle.runs.proofs.Parts.{below_or_not, length-laid}
use Rattle.numbers.proofs.Little.{length-numbers}
use Rattle.rule.proofs.Lengths.{length-spell_all, length-told, length-reports}
use Rattle.rule.proofs.Rewriting.{length-rewrite}

-- READING A PIECE (its table is only read)
module _ (pieces ends : List ℕ) (n : ℕ) (answer : List ℕ) where
  pub read-short : length answer < 64 → piece_outcome pieces ends n answer ≡ record { returned = 1; answer = answer }
  unfolding piece_outcome
  read-short h = rw (lt-ltb (length answer) 64 h)

  pub read_long : 64 ≤ length answer
      → piece_outcome pieces ends n answer ≡ record { returned = (look_up pieces ends n).number; answer = told answer (look_up pieces ends n).gives }
  unfolding piece_outcome
  read_long h = rw (le-ltb (length answer) 64 h)

  -- what the verdict says, and exactly when: 1 for a bad shape or too many ends, 11 for a number past them, else success
  pub data Looks : Verdict → Type 0 where
    bad_shape : (piece_shape pieces ends ≡ true → piece_count ends ≤ 16777216 → ⊥) → Looks (says 1 [])
    no_such_id : piece_shape pieces ends ≡ true → piece_count ends ≤ 16777216 → piece_count ends ≤ n → Looks (says 11 [])
    done : piece_shape pieces ends ≡ true → piece_count ends ≤ 16777216 → n < piece_count ends → Looks (says 0 (piece_start ends n ∷ piece_length ends n ∷ []))

  pub look-says : Looks (look_up pieces ends n)
  unfolding look_up
  look-says = go (piece_shape pieces ends) (ltb 16777216 (piece_count ends)) (leb (piece_count ends) n) refl refl refl
    where
      go : (p q r : Bool) → piece_shape pieces ends ≡ p → ltb 16777216 (piece_count ends) ≡ q → leb (piece_count ends) n ≡ r
          → Looks (cond (not p || q) (says 1 []) (cond r (says 11 []) (says 0 (piece_start ends n ∷ piece_length ends n ∷ []))))
      go false q r d e f = bad_shape (λ h k. false≢true (sym d ∙ h))
      go true true r d e f = let l : 16777216 < piece_count ends = ltb-true _ _ e in bad_shape (λ h k. omega arith)
      go true false true d e f = no_such_id d (ltb-false _ _ e) (leb-true _ _ f)
      go true false false d e f = done d (ltb-false _ _ e) (leb-false _ _ f)

  look_few : (v : Verdict) → Looks v → length v.gives ≤ 3
  look_few v (bad_shape h) = omega arith
  look_few v (no_such_id h k l) = omega arith
  look_few v (done h k l) = omega arith

  pub read-length : length (piece_outcome pieces ends n answer).answer ≡ length answer
  read-length =
      below_or_not (length answer) 64 (λ h. rw (read-short h)) (λ h. rw (read_long h) (length-told answer _ h (look_few _ look-says)))

-- MERGING SYMBOLS
module _ (s : List ℕ) (a b x : ℕ) (c into : List ℕ) where
  abbrev v : Verdict
  v = merge_verdict s a b x c

  -- what the verdict says, and exactly when: 1 for other lengths, 12 where the reports do not fit, else success
  pub data Says : Verdict → Type 0 where
    bad_shape : (length s % 4 ≡ 0 → length c % 16 ≡ 0 → ⊥) → Says (says 1 [])
    change_room : length s % 4 ≡ 0 → length c % 16 ≡ 0 → length c < 16 * length (reports a b x (numbers 4 s)) → Says (says 12 [])
    done : length s % 4 ≡ 0 → length c % 16 ≡ 0 → 16 * length (reports a b x (numbers 4 s)) ≤ length c
        → Says (says 0 (rewrites a b (numbers 4 s) ∷ length (rewrite a b x (numbers 4 s)) ∷ length (reports a b x (numbers 4 s)) ∷ []))

  pub verdict-says : Says v
  unfolding merge_verdict
  verdict-says = go (wholes 4 s) (wholes 16 c) (ltb (length c) (16 * length (reports a b x (numbers 4 s)))) refl refl refl
    where
      go : (p q r : Bool) → wholes 4 s ≡ p → wholes 16 c ≡ q → ltb (length c) (16 * length (reports a b x (numbers 4 s))) ≡ r
          → Says (cond (not p || not q) (says 1 [])
          (cond r (says 12 []) (says 0 (rewrites a b (numbers 4 s) ∷ length (rewrite a b x (numbers 4 s)) ∷ length (reports a b x (numbers 4 s)) ∷ []))))
      go false q r d e f = bad_shape (λ h k. eqb-false _ _ d h)
      go true false r d e f = bad_shape (λ h k. eqb-false _ _ e k)
      go true true true d e f = change_room (eqb-true _ _ d) (eqb-true _ _ e) (ltb-true _ _ f)
      go true true false d e f = done (eqb-true _ _ d) (eqb-true _ _ e) (ltb-false _ _ f)

  -- a short answer run: 1, and all is as it was
  pub merge_short : length into < 64 → merge_outcome s a b x c into ≡ record { returned = 1; symbols = s; changes = c; answer = into }
  unfolding merge_outcome
  merge_short h = rw (lt-ltb (length into) 64 h)

  -- 1 and 12 write nothing but the answer
  pub merge_refused : 64 ≤ length into → v.number ≢ 0 → merge_outcome s a b x c into ≡ record { returned = v.number; symbols = s; changes = c; answer = told into v.gives }
  unfolding merge_outcome
  merge_refused h k = rw (le-ltb (length into) 64 h, ne_eqb v.number 0 k)

  -- success: the rewritten word and the reports over the front of the two runs, the rest as it was
  pub merge_done : 64 ≤ length into → v.number ≡ 0
      → merge_outcome s a b x c into
      ≡ record {
        returned = 0;
        symbols = laid s 0 (spell_all 4 (rewrite a b x (numbers 4 s)));
        changes = laid c 0 (flat_map report_bytes (reports a b x (numbers 4 s)));
        answer = told into v.gives;
      }
  unfolding merge_outcome
  merge_done h k = rw (le-ltb (length into) 64 h, k)

  -- every run keeps its length
  pub record SameLengths (o : Merged) : Type 0 where
    pub symbols : length o.symbols ≡ length s
    pub changes : length o.changes ≡ length c
    pub answer : length o.answer ≡ length into

  pub merge_lengths : SameLengths (merge_outcome s a b x c into)
  unfolding merge_outcome
  merge_lengths = go (short into) refl v verdict-says
    where
      go : (p : Bool) → short into ≡ p → (u : Verdict) → Says u → SameLengths (cond p (record { returned = 1; symbols = s; changes = c; answer = into })
          (cond (eqb u.number 0)
          (record { returned = 0; symbols = laid s 0 (spell_all 4 (rewrite a b x (numbers 4 s))); changes = laid c 0 (flat_map report_bytes (reports a b x (numbers 4 s))); answer = told into u.gives })
          (record { returned = u.number; symbols = s; changes = c; answer = told into u.gives })))
      go true e u j = record { symbols = refl; changes = refl; answer = refl }
      go false e u (bad_shape h) = record { symbols = refl; changes = refl; answer = length-told into _ (ltb-false _ _ e) (omega arith) }
      go false e u (change_room h k l) = record { symbols = refl; changes = refl; answer = length-told into _ (ltb-false _ _ e) (omega arith) }
      go false e u (done h k l) = record {
        symbols = length-laid s 0 _ (omega (arith, length-spell_all 4 (rewrite a b x (numbers 4 s)), length-rewrite a b x (numbers 4 s), length-numbers 4 s));
        changes = length-laid c 0 _ (omega (arith, length-reports (reports a b x (numbers 4 s)), l));
        answer = length-told into _ (ltb-false _ _ e) (omega arith);
      }
