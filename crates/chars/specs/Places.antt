-- A place of a word and a length that may be missing, for the contracts of `chars` and `text`.
use Rattle.std.specs.Prelude.{Option, Some, None, List, ℕ, zero, suc, drop}

-- what stands from a place on
unfoldable pub rest : ℕ → List ℕ → List ℕ
rest at xs = drop at xs

-- a length, where 0 is that of nothing
unfoldable pub some_length : ℕ → Option ℕ
some_length zero = None
some_length (suc n) = Some (suc n)
