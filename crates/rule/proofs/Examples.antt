-- The starred examples of document 01: one table, one proof. And further cases of the same kind.
use mathlib.Core.Path.{◌≡◌, refl}
use mathlib.Core.Bool.{true}
use mathlib.Core.List.{List, [], ◌∷◌, ◌++◌, map}
use Prim.Native.Nat.{ℕ, ◌-◌, ◌^◌}
use Rattle.rule.specs.Table.{Task}
use Rattle.rule.specs.Seeding.{byte_values}
use Rattle.rule.proofs.Tables.{eight, task, Example, training, merging, answer, as_before, up, down, passes, all}

-- words of frequency 1, the initial alphabet, a prefix, then seeding, vocabulary size, minimum frequency and length limit
abbrev pub table : List (List ℕ) → List (List ℕ) → List ℕ → ℕ → ℕ → ℕ → ℕ → Task
table ws al prefix seeding size least limit = task ws (map (λ w. eight 1) ws) al prefix [] seeding size least limit

-- no length limit; and the byte values with more pieces
abbrev pub any : ℕ
any = 2 ^ 64 - 1

abbrev bytes_and : List (List ℕ) → List (List ℕ)
bytes_and more = byte_values 256 0 ++ more

-- words
abbrev aa : List ℕ
aa = 97 ∷ 97 ∷ []

abbrev aaa : List ℕ
aaa = 97 ∷ 97 ∷ 97 ∷ []

abbrev pub ab : List ℕ
ab = 97 ∷ 98 ∷ []

abbrev abb : List ℕ
abb = 97 ∷ 98 ∷ 98 ∷ []

abbrev abc : List ℕ
abc = 97 ∷ 98 ∷ 99 ∷ []

abbrev abab : List ℕ
abab = 97 ∷ 98 ∷ 97 ∷ 98 ∷ []

abbrev pub cd : List ℕ
cd = 99 ∷ 100 ∷ []

abbrev examples : List Example
examples =
    -- 1, 4: `aaa`, without and with length limit 2
    training (table (aaa ∷ []) [] [] 0 300 0 any) 0 0 (258 ∷ 256 ∷ 2 ∷ []) (answer (bytes_and (aa ∷ aaa ∷ [])) (97 ∷ 97 ∷ 256 ∷ 97 ∷ []) (2 ∷ 1 ∷ []))
    ∷ training (table (aaa ∷ []) [] [] 0 300 0 2) 0 0 (257 ∷ 256 ∷ 1 ∷ []) (answer (bytes_and (aa ∷ [])) (97 ∷ 97 ∷ []) (2 ∷ []))
    -- 2: `abab`
    ∷ training (table (abab ∷ []) [] [] 0 300 0 any) 0 0 (258 ∷ 256 ∷ 2 ∷ []) (answer (bytes_and (ab ∷ abab ∷ [])) (97 ∷ 98 ∷ 256 ∷ 256 ∷ []) (2 ∷ 1 ∷ []))
    -- 3: `ab` and `cd`, without and with minimum 2
    ∷ training (table (ab ∷ cd ∷ []) [] [] 0 300 0 any) 0 0 (258 ∷ 256 ∷ 2 ∷ []) (answer (bytes_and (ab ∷ cd ∷ [])) (97 ∷ 98 ∷ 99 ∷ 100 ∷ []) (1 ∷ 1 ∷ []))
    ∷ training (table (ab ∷ cd ∷ []) [] [] 0 300 2 any) 0 0 (256 ∷ 256 ∷ 0 ∷ []) (answer (bytes_and []) [] [])
    -- 5: `ab` with sizes 256 and 255
    ∷ training (table (ab ∷ []) [] [] 0 256 0 any) 0 0 (256 ∷ 256 ∷ 0 ∷ []) (answer (bytes_and []) [] [])
    ∷ training (table (ab ∷ []) [] [] 0 255 0 any) 0 9 (255 ∷ 256 ∷ []) (answer [] [] [])
    -- 6: `ab` with the initial alphabet `ab`
    ∷ training (table (ab ∷ []) (ab ∷ []) [] 0 300 0 any) 0 0 (258 ∷ 257 ∷ 1 ∷ []) (answer (bytes_and (ab ∷ ab ∷ [])) (97 ∷ 98 ∷ []) (1 ∷ []))
    -- 7: Chars, prefix `##`, `abb`
    ∷ training (table (abb ∷ []) [] (35 ∷ 35 ∷ []) 1 300 0 any) 0 0 (5 ∷ 3 ∷ 2 ∷ [])
    (answer ((97 ∷ []) ∷ (98 ∷ []) ∷ (35 ∷ 35 ∷ 98 ∷ []) ∷ ab ∷ abb ∷ []) (0 ∷ 2 ∷ 3 ∷ 2 ∷ []) (1 ∷ 1 ∷ []))
    -- 8: Chars, FF 61: seeds 61, FF; the word is 1 0, which the one merge shows
    ∷ training (table ((0xFF ∷ 0x61 ∷ []) ∷ []) [] [] 1 300 0 any) 0 0 (3 ∷ 2 ∷ 1 ∷ []) (answer ((0x61 ∷ []) ∷ (0xFF ∷ []) ∷ (0xFF ∷ 0x61 ∷ []) ∷ []) (1 ∷ 0 ∷ []) (1 ∷ []))
    -- 10: Chars, only the empty word, size 0; no words at all
    ∷ training (table ([] ∷ []) [] [] 1 0 0 any) 0 0 (0 ∷ 0 ∷ 0 ∷ []) (answer [] [] [])
    ∷ training (table [] [] [] 1 0 0 any) 0 3 [] as_before
    -- 11, 12: a is 1, b is 2, X is 9
    ∷ merging (1 ∷ 1 ∷ 1 ∷ []) 1 1 9 (9 ∷ 1 ∷ 1 ∷ []) (1 ∷ 2 ∷ 2 ∷ []) (down 1 1 ∷ up 9 1 ∷ [])
    ∷ merging (1 ∷ 2 ∷ 1 ∷ 2 ∷ []) 1 2 9 (9 ∷ 9 ∷ 1 ∷ 2 ∷ []) (2 ∷ 2 ∷ 4 ∷ []) (down 2 1 ∷ up 9 1 ∷ down 9 1 ∷ up 9 9 ∷ [])
    ∷ []

pub starred : all examples ≡ true
unfolding all passes
starred = refl

abbrev more : List Example
more =
    -- an over-long pair is skipped, not the end: `aaaaaa` and `cd` with length limit 2
    training (table ((aaa ++ aaa) ∷ cd ∷ []) [] [] 0 300 0 2) 0 0 (258 ∷ 256 ∷ 2 ∷ []) (answer (bytes_and (aa ∷ cd ∷ [])) (97 ∷ 97 ∷ 99 ∷ 100 ∷ []) (5 ∷ 1 ∷ []))
    -- a merge takes the next number: `abc` with the initial alphabet `ab`
    ∷ training (table (abc ∷ []) (ab ∷ []) [] 0 300 0 any) 0 0 (259 ∷ 257 ∷ 2 ∷ []) (answer (bytes_and (ab ∷ ab ∷ abc ∷ [])) (97 ∷ 98 ∷ 257 ∷ 99 ∷ []) (1 ∷ 1 ∷ []))
    -- the demonstration's table: Chars, suffix `</w>`, minimum 2, `aab`, `ab`, `cab` with frequencies 3, 2, 4
    ∷ training (task ((97 ∷ 97 ∷ 98 ∷ []) ∷ ab ∷ (99 ∷ 97 ∷ 98 ∷ []) ∷ []) (eight 3 ∷ eight 2 ∷ eight 4 ∷ []) [] [] (60 ∷ 47 ∷ 119 ∷ 62 ∷ []) 1 64 2 any) 0 0 (7 ∷ 4 ∷ 3 ∷ [])
    (answer ((97 ∷ []) ∷ (98 ∷ []) ∷ (99 ∷ []) ∷ (98 ∷ 60 ∷ 47 ∷ 119 ∷ 62 ∷ []) ∷ (97 ∷ 98 ∷ 60 ∷ 47 ∷ 119 ∷ 62 ∷ []) ∷ (99 ∷ 97 ∷ 98 ∷ 60 ∷ 47 ∷ 119 ∷ 62 ∷ []) ∷ (97 ∷ 97 ∷ 98 ∷ 60 ∷ 47 ∷ 119 ∷ 62 ∷ []) ∷ [])
    (0 ∷ 3 ∷ 2 ∷ 4 ∷ 0 ∷ 4 ∷ []) (9 ∷ 4 ∷ 3 ∷ []))
    -- 9: `ab` with frequency 2^52
    ∷ training (task (ab ∷ []) ((0 ∷ 0 ∷ 0 ∷ 0 ∷ 0 ∷ 0 ∷ 16 ∷ 0 ∷ []) ∷ []) [] [] [] 0 300 0 any) 0 6 [] as_before
    -- the same in a work room that lacks a byte: 6 comes before 7
    ∷ training (task (ab ∷ []) ((0 ∷ 0 ∷ 0 ∷ 0 ∷ 0 ∷ 0 ∷ 16 ∷ 0 ∷ []) ∷ []) [] [] [] 0 300 0 any) 1 6 [] as_before
    -- a work room that lacks a byte
    ∷ training (table (ab ∷ []) [] [] 0 300 0 any) 1 7 (33792 ∷ []) as_before
    -- no words and too large a size; a word twice; a frequency of 0
    ∷ training (table [] [] [] 0 16777217 0 any) 0 2 [] as_before
    ∷ training (table (ab ∷ cd ∷ cd ∷ []) [] [] 0 300 0 any) 0 5 (2 ∷ []) as_before
    ∷ training (task (ab ∷ cd ∷ []) (eight 1 ∷ eight 0 ∷ []) [] [] [] 0 300 0 any) 0 4 (1 ∷ []) as_before
    ∷ []

pub further : all more ≡ true
unfolding all passes
further = refl
