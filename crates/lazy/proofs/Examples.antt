-- The examples of document 01 that train, by the lazy rule: one table, one proof. The numbers of entries taken are of the lazy rule alone.
use mathlib.Core.Path.{◌≡◌, refl}
use mathlib.Core.List.{List, [], ◌∷◌, flat_map, map}
use Prim.Native.Nat.{ℕ}
use Rattle.rule.specs.Spelling.{leads, strip_prefix, joined, measure}
use Rattle.rule.specs.Seeding.{byte_values}
use Rattle.rule.specs.Rewriting.{cut, out, rewrite, link, count_in}
use Rattle.rule.specs.Sums.{in_use}
use Rattle.rule.specs.Training.{count, rewrite_all, saving, joined_of, within}
use Rattle.rule.proofs.Examples.{table, any}
use Rattle.lazy.specs.Lazy.{insert, total, entries, live, spots, all_spots, enter, enter_all, holding, seeds, gained, turn, Took, one_more, merged, act, lazy, lazy_train}

-- the minimum, the length limit, the prefix, the room for merges, the pieces and the words
pub record Case : Type 0 where
  pub least : ℕ
  pub limit : ℕ
  pub prefix : List ℕ
  pub room : ℕ
  pub pieces : List (List ℕ)
  pub words : List (List ℕ)

-- the entries taken, then left, right and saving of each merge
unfoldable pub said : Took → List ℕ
said r = r.taken ∷ flat_map (λ m. m.left ∷ m.right ∷ m.saved ∷ []) r.merges

-- what the lazy rule says of a case, with frequencies 1
unfoldable pub answer : Case → List ℕ
unfolding flat_map said leads strip_prefix joined measure byte_values cut out rewrite link count_in count rewrite_all saving joined_of within insert total entries live spots all_spots enter enter_all holding seeds gained turn one_more merged act lazy in_use lazy_train
answer c =
    said (lazy_train (table [] [] c.prefix 0 300 c.least c.limit) c.room c.pieces (map (λ w. record { frequency = 1; symbols = w }) c.words))

abbrev bytes : List (List ℕ) → ℕ → ℕ → Case
bytes ws least limit = record { least = least; limit = limit; prefix = []; room = 44; pieces = byte_values 256 0; words = ws }

abbrev cases : List Case
cases =
    -- 1, 2, 3, 3 with minimum 2, 4
    bytes ((97 ∷ 97 ∷ 97 ∷ []) ∷ []) 0 any
    ∷ bytes ((97 ∷ 98 ∷ 97 ∷ 98 ∷ []) ∷ []) 0 any
    ∷ bytes ((97 ∷ 98 ∷ []) ∷ (99 ∷ 100 ∷ []) ∷ []) 0 any
    ∷ bytes ((97 ∷ 98 ∷ []) ∷ (99 ∷ 100 ∷ []) ∷ []) 2 any
    ∷ bytes ((97 ∷ 97 ∷ 97 ∷ []) ∷ []) 0 2
    -- 7
    ∷ record { least = 0; limit = any; prefix = 35 ∷ 35 ∷ []; room = 297; pieces = (97 ∷ []) ∷ (98 ∷ []) ∷ (35 ∷ 35 ∷ 98 ∷ []) ∷ []; words = (0 ∷ 2 ∷ 2 ∷ []) ∷ [] }
    ∷ []

pub examples : map answer cases
    ≡ (2 ∷ 97 ∷ 97 ∷ 2 ∷ 256 ∷ 97 ∷ 1 ∷ [])
    ∷ (3 ∷ 97 ∷ 98 ∷ 2 ∷ 256 ∷ 256 ∷ 1 ∷ [])
    ∷ (2 ∷ 97 ∷ 98 ∷ 1 ∷ 99 ∷ 100 ∷ 1 ∷ [])
    ∷ (1 ∷ [])
    ∷ (2 ∷ 97 ∷ 97 ∷ 2 ∷ [])
    ∷ (3 ∷ 0 ∷ 2 ∷ 1 ∷ 3 ∷ 2 ∷ 1 ∷ [])
    ∷ []
unfolding answer
examples = refl
