-- What is handed to the trainer: the word table, the settings and the rooms; how a word is cut; the sums that the refusals ask for.
use Rattle.std.specs.Prelude.{Bool, List, [], ◌∷◌, map, ℕ, ◌+◌, ◌*◌, ◌/◌, eqb, length}
use Rattle.numbers.specs.Little.{numbers}
use Rattle.rfc3629.specs.Cut.{seeded}
use Rattle.rule.specs.Shapes.{parts_by}

-- the seven runs that are only read, and the four settings
pub record Task : Type 0 where
  pub word_bytes : List ℕ
  pub word_ends : List ℕ
  pub frequency_bytes : List ℕ
  pub alphabet_bytes : List ℕ
  pub alphabet_ends : List ℕ
  pub prefix : List ℕ
  pub suffix : List ℕ
  pub seeding : ℕ
  pub vocab_size : ℕ
  pub min_frequency : ℕ
  pub max_piece_length : ℕ

-- the six lent runs, before or after: the work room, the four output rooms, the answer run
pub record Rooms : Type 0 where
  pub work : List ℕ
  pub pieces : List ℕ
  pub piece_ends : List ℕ
  pub merges : List ℕ
  pub savings : List ℕ
  pub answer : List ℕ

-- "A table has the word bytes end to end; the word ends, 4 bytes each; the frequencies, 8 bytes each": the words
unfoldable pub words : Task → List (List ℕ)
words t = parts_by t.word_bytes t.word_ends

-- how many words
unfoldable pub word_count : Task → ℕ
word_count t = length t.word_ends / 4

-- a frequency for each
unfoldable pub frequencies : Task → List ℕ
frequencies t = numbers 8 t.frequency_bytes

-- "The initial alphabet has bytes and 4-byte ends in the same way"
unfoldable pub alphabet : Task → List (List ℕ)
alphabet t = parts_by t.alphabet_bytes t.alphabet_ends

-- "A the symbols of the initial alphabet"
unfoldable pub A : Task → ℕ
A t = length t.alphabet_ends / 4

-- "seeding (0 Bytes, 1 Chars)"
abbrev pub chars : ℕ → Bool
chars seeding = eqb seeding 1

-- HOW A WORD IS CUT. Bytes: "each byte is a unit"; Chars: "a well-formed UTF-8 word is cut into its characters; any other word is cut into bytes as a whole"
unfoldable pub units : ℕ → List ℕ → List (List ℕ)
units seeding w = seeded (chars seeding) w

-- the words of a table, each in its units, undecorated
unfoldable pub units_of : ℕ → List ℕ → List ℕ → List (List (List ℕ))
units_of seeding bytes ends = map (units seeding) (parts_by bytes ends)

-- those of a task
unfoldable pub word_units : Task → List (List (List ℕ))
word_units t = units_of t.seeding t.word_bytes t.word_ends

-- the sum of some numbers
unfoldable pub total : List ℕ → ℕ
total [] = 0
total (n ∷ ns) = n + total ns

-- "Let U be the units of all words"
unfoldable pub U : Task → ℕ
U t = total (map length (word_units t))

-- "sum over all words of frequency times units"
unfoldable pub weighed : List ℕ → List (List (List ℕ)) → ℕ
weighed [] us = 0
weighed (f ∷ fs) [] = 0
weighed (f ∷ fs) (u ∷ us) = f * length u + weighed fs us

-- "The work room must hold 512·(U + A) + 32,768 bytes", of U and A
unfoldable pub room_for : ℕ → ℕ → ℕ
room_for u a = 512 * (u + a) + 32768

-- and of a task
unfoldable pub work_needed : Task → ℕ
work_needed t = room_for (U t) (A t)
