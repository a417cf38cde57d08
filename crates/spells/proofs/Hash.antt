-- The loop that hashes, and parts hashed one behind the other. Assumes nothing.
use mathlib.Core.Path.{◌≡◌, refl, sym, ◌∙◌}
use mathlib.Core.List.{List, [], ◌∷◌, ◌++◌}
use Prim.Native.Nat.{ℕ, ◌+◌, ◌*◌, ◌%◌, ◌<◌, ◌≤◌}
use native.Mathlib.Numerals.{add-one}
use lib.ListN.{length, get_or, drop, drop_of_length-le}
use lib.Seq.{drop-cons}
use Rattle.spells.specs.Hash.{hash_from, hash_of}

-- what is left of the work from the byte i on
unfoldable pub hash_rest : ℕ → List ℕ → ℕ → ℕ
hash_rest h s i = hash_from h (drop i s)

pub hash_start : (h : ℕ) (s : List ℕ) → hash_from h s ≡ hash_rest h s 0
unfolding hash_rest
hash_start h s = refl

module _ (h : ℕ) (s : List ℕ) (i r : ℕ) where
  pub hash_turn : (b : ℕ) → r ≡ hash_rest h s i → i < length s → b ≡ get_or s i 0 → r ≡ hash_rest ((h * 16777619 + b) % 4294967296) s (i + 1)
  unfolding hash_rest hash_from
  hash_turn b e k q = e ∙ rw (add-one i, drop-cons s i 0 k, q)

  pub hash_end : r ≡ hash_rest h s i → length s ≤ i → h ≡ r
  unfolding hash_rest hash_from
  hash_end e k = sym (e ∙ rw (drop_of_length-le s k))

pub hash_append : (h : ℕ) (a b : List ℕ) → hash_from h (a ++ b) ≡ hash_from (hash_from h a) b
unfolding hash_from
hash_append h [] b = refl
hash_append h (x ∷ a) b = hash_append ((h * 16777619 + x) % 4294967296) a b

pub hash_parts : (a b d : List ℕ) (x y z : ℕ) → x ≡ hash_from 2166136261 a → y ≡ hash_from x b → z ≡ hash_from y d → z ≡ hash_of (a ++ (b ++ d))
unfolding hash_of
hash_parts a b d x y z e f g = g ∙ sym (hash_append 2166136261 a (b ++ d) ∙ hash_append (hash_from 2166136261 a) b d ∙ rw (← e, ← f))
