-- The hash of a spelling: a number of 32 bits, byte for byte. Nothing rests on which it is: many equal ones cost time, never a wrong answer.
use Rattle.std.specs.Prelude.{List, [], ◌∷◌, ℕ, ◌+◌, ◌*◌, ◌%◌}

-- what was hashed to h, with some bytes behind it
unfoldable pub hash_from : ℕ → List ℕ → ℕ
hash_from h [] = h
hash_from h (b ∷ bs) = hash_from ((h * 16777619 + b) % 4294967296) bs

-- of a whole spelling
unfoldable pub hash_of : List ℕ → ℕ
hash_of s = hash_from 2166136261 s
