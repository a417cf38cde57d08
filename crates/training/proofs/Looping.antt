-- The training loop: start, turn, ways out. Assumes nothing.
use mathlib.Core.Path.{◌≡◌, ap, ◌∙◌}
use mathlib.Core.List.{List, [], ◌∷◌, ◌++◌}
use mathlib.Core.Logic.{◌⊎◌, inl, inr}
use Prim.Native.Nat.{ℕ, suc, ◌+◌, ◌*◌, ◌-◌, ◌<◌, ◌≤◌, max}
use native.Mathlib.Omega.{arith}
use lib.ListN.{length}
use Rattle.std.specs.Prelude.{Some, None, Result, Ok, Err, IsErr}
use Rattle.error.specs.declared.NoRoom.{NoRoom}
use Rattle.rule.specs.Table.{Task}
use Rattle.rule.specs.Spelling.{joined}
use Rattle.rule.specs.Seeding.{Entry}
use Rattle.rule.specs.Training.{Merge, merge_of, saving, joined_of, rewrite_all, train_from}
use Rattle.rule.specs.Layout.{piece_at}
use Rattle.rule.proofs.Demand.{train_next, train_spent}
use Rattle.intern.specs.Pieces.{pieces, Held}
use Rattle.intern.specs.Intern.{Lacks}
use Rattle.intern.proofs.Rooms.{length-pieces, pieces_at}
use Rattle.word.specs.Layout.{words_in}
use Rattle.word.specs.declared.WordSet.{WordSet}
use Rattle.pairs.specs.declared.Pairs.{Pairs}
use Rattle.engine.specs.Engine.{Engaged, Limits, Waiting, Started, CanJoin}
use Rattle.engine.specs.declared.Engine.{Engine}
use Rattle.choosing.specs.Choosing.{CanChoose, Picked, NextDone}
use Rattle.choosing.specs.declared.Next.{Next}
use Rattle.training.specs.Training.{ApplyDone, Settings, Written, TooMuch, TrainedDone}
use Rattle.training.specs.declared.Applied.{Applied}
use Rattle.training.specs.declared.Trained.{Trained}
use Rattle.training.proofs.Turning.{Standing, Toward, standing_start, toward_start, toward_end, toward_lacks, toward_no_place, toward_next, standing_next}

-- the merges that are to come
abbrev pub coming : Task → ℕ → ℕ → List ℕ → List ℕ → List Entry → List Merge
coming t size n xs ys es = train_from t (size - n) (pieces xs ys n) es

-- a task with these settings has this prefix and this limit
limits_of : (t : Task) (prefix : List ℕ) (least limit : ℕ) → Settings t prefix least limit → Limits t prefix limit
limits_of t prefix least limit q = record { prefix_is = q.prefix_is; limit_is = q.limit_is }

train_none : (t : Task) (j : ℕ) (ps : List (List ℕ)) (es : List Entry) → j ≡ 0 → train_from t j ps es ≡ []
unfolding train_from
train_none t j ps es e = rw e

-- k merges are made, where the loop began with the words es₀ and n₀ pieces of u₀ bytes
pub record Looping (es₀ : List Entry) (n₀ u₀ : ℕ) (prefix : List ℕ) (size least limit : ℕ) (xs ys ms ss cs vs ws ns ts : List ℕ) (g : Engine) (n u k : ℕ) : Type 0 where
  pub standing : Standing n₀ u₀ xs ys ms ss vs ws ns ts n u k
  pub toward : (t : Task) → Settings t prefix least limit → Toward (pieces xs ys n₀) (coming t size n₀ xs ys es₀) (coming t size n vs ws (words_in g.words cs)) (pieces vs ws n) ns ts k
  pub engaged : Engaged g.words g.pairs g.queue n cs
  pub waiting : Waiting g.queue g.waiting g.turns g.pairs.most prefix limit (pieces vs ws n) (words_in g.words cs) [] cs

pub loop_start : (w : WordSet) (p : Pairs) (n u : ℕ) (prefix : List ℕ) (size least limit : ℕ) (cs xs ys ms ss ds : List ℕ) (g : Engine) → Held n u xs ys → Started w p n cs ds g
    → Looping (words_in g.words ds) n u prefix size least limit xs ys ms ss ds xs ys ms ss g n u 0
loop_start w p n u prefix size least limit cs xs ys ms ss ds g r d =
    record {
      standing = standing_start n u xs ys ms ss r;
      toward = λ t q. toward_start (pieces xs ys n) (coming t size n xs ys (words_in g.words ds)) ms ss;
      engaged = d.engaged;
      waiting = rw d.view (d.waiting prefix limit (pieces xs ys n) (length-pieces xs ys n));
    }

module _ (es₀ : List Entry) (n₀ u₀ : ℕ) (prefix : List ℕ) (size least limit : ℕ) (xs ys ms ss cs vs ws ns ts : List ℕ) (g : Engine) (n u k : ℕ)
    (l : Looping es₀ n₀ u₀ prefix size least limit xs ys ms ss cs vs ws ns ts g n u k) where
  -- what the outcome says, of the words at the start
  abbrev Ends : ℕ → ℕ → ℕ → Type 0
  Ends n u k = (t : Task) → Settings t prefix least limit → Written (coming t size n₀ xs ys es₀) n₀ u₀ xs ys ms ss vs ws ns ts n u k

  over : ((t : Task) → Settings t prefix least limit → coming t size n vs ws (words_in g.words cs) ≡ []) → Ends n u k
  over e t q = toward_end n₀ u₀ xs ys ms ss vs ws ns ts n u k l.standing (coming t size n₀ xs ys es₀) (coming t size n vs ws (words_in g.words cs)) (l.toward t q) (e t q)

  -- the vocabulary has its size
  full : size ≤ n → Ends n u k
  full h = over (λ t q. train_none t (size - n) (pieces vs ws n) (words_in g.words cs) (omega arith))

  pub loop_can : CanChoose g n prefix limit (pieces vs ws n) cs
  loop_can = record { engaged = l.engaged; numbers = length-pieces vs ws n; waiting = l.waiting }

  module _ (floor : ℕ) (f : floor ≡ max 1 least) where
    least_of : (t : Task) → Settings t prefix least limit → max 1 t.min_frequency ≡ floor
    least_of t q = rw (q.least_is, f)

    -- no pair may be merged
    stop : (ds : List ℕ) → NextDone None g n prefix limit floor (pieces vs ws n) cs ds → Ends n u k
    unfolding NextDone
    stop ds d = over (λ t q. train_spent t (size - n) (pieces vs ws n) (words_in g.words cs) (d t (limits_of t prefix least limit q) (least_of t q)))

    module _ (next : Next) (ds : List ℕ) (d : NextDone (Some next) g n prefix limit floor (pieces vs ws n) cs ds) where
      picked : Picked g n prefix limit floor (pieces vs ws n) cs ds next.engine next.left next.right next.count
      unfolding NextDone
      picked = d

      pub loop_join : n < size → size ≤ 16777216 → CanJoin next.engine next.left next.right n ds
      loop_join less small =
          let c = picked in
          record {
            engaged = c.engaged;
            left = c.left;
            right = c.right;
            some = rw c.view (omega (arith, c.times_is, c.enough, f));
            next = omega arith;
            prefix = prefix;
            limit = limit;
            pieces = pieces vs ws n;
            numbers = length-pieces vs ws n;
            entry = c.entry;
            left_is = c.left_is;
            right_is = c.right_is;
            waiting = rw c.view c.waiting;
          }

      -- the pair, and the spelling that is made
      abbrev a : ℕ
      a = next.left

      abbrev b : ℕ
      b = next.right

      abbrev s : List ℕ
      s = joined prefix (piece_at vs ws a) (piece_at vs ws b)

      joining : (t : Task) → Limits t prefix limit → joined_of t (pieces vs ws n) a b ≡ s
      unfolding joined_of
      joining t q = rw (q.prefix_is, pieces_at vs ws n a picked.left, pieces_at vs ws n b picked.right)

      module _ (less : n < size) (t : Task) (q : Settings t prefix least limit) where
        -- the next merge, as the rule has it
        abbrev here : Merge
        here = record { left = a; right = b; saved = next.count; spelled = s }

        is_here : merge_of t (pieces vs ws n) (words_in g.words cs) a b ≡ here
        unfolding saving
        is_here = rw (joining t (limits_of t prefix least limit q), picked.times_is)

        abbrev rest : List Merge
        rest = train_from t (size - (n + 1)) (pieces vs ws n ++ (s ∷ [])) (rewrite_all a b n (words_in g.words cs))

        unrolled : coming t size n vs ws (words_in g.words cs) ≡ here ∷ rest
        unrolled =
            let z : size - n ≡ suc (size - (n + 1)) = omega arith in
            ap (λ (j : ℕ). train_from t j (pieces vs ws n) (words_in g.words cs)) z
            ∙ train_next t (size - (n + 1)) (pieces vs ws n) (words_in g.words cs) a b (picked.chosen t (limits_of t prefix least limit q) (least_of t q))
            ∙ rw (is_here, length-pieces vs ws n, joining t (limits_of t prefix least limit q))

      module _ (less : n < size) (fs vs₂ ws₂ ns₂ ts₂ : List ℕ) where
        out : (e : NoRoom) → ApplyDone (Err e) next.engine n u k a b next.count s ds vs ws ns ts fs vs₂ ws₂ ns₂ ts₂
            → (t : Task) → Settings t prefix least limit → TooMuch (coming t size n₀ xs ys es₀) (pieces xs ys n₀) xs ys ms ss
        unfolding ApplyDone
        out e done t q = go done
          where
            go : Lacks n u s vs ws ⊎ ((length ns < k * 8 + 8) ⊎ (length ts < k * 8 + 8)) → TooMuch (coming t size n₀ xs ys es₀) (pieces xs ys n₀) xs ys ms ss
            go (inl x) = toward_lacks n₀ u₀ xs ys ms ss vs ws ns ts n u k l.standing (coming t size n₀ xs ys es₀) (coming t size n vs ws (words_in g.words cs)) (l.toward t q) (here less t q) (rest less t q) (unrolled less t q) x
            go (inr x) = toward_no_place n₀ u₀ xs ys ms ss vs ws ns ts n u k l.standing (coming t size n₀ xs ys es₀) (coming t size n vs ws (words_in g.words cs)) (l.toward t q) (here less t q) (rest less t q) (unrolled less t q) x

        pub loop_next : (r : Applied) → ApplyDone (Ok r) next.engine n u k a b next.count s ds vs ws ns ts fs vs₂ ws₂ ns₂ ts₂
            → Looping es₀ n₀ u₀ prefix size least limit xs ys ms ss fs vs₂ ws₂ ns₂ ts₂ r.engine r.filled.count r.filled.used (k + 1)
        unfolding ApplyDone
        loop_next r x =
            let more = x.1 in
            let j = x.3 in
            let c = picked in
            let v : words_in r.engine.words fs ≡ rewrite_all a b n (words_in g.words cs) = j.view ∙ ap (rewrite_all a b n) c.view in
            let wait = j.waiting prefix limit (pieces vs ws n) c.entry s (length-pieces vs ws n) c.left_is c.right_is joining (rw c.view c.waiting) in
            rw x.0 (record {
              standing = standing_next n₀ u₀ xs ys ms ss vs ws ns ts n u k l.standing a b next.count s vs₂ ws₂ r.filled.used more ns₂ ts₂ x.2;
              toward = λ t q. rw (more.are, v)
                  (rw more.are at (toward_next n₀ u₀ xs ys ms ss vs ws ns ts n u k l.standing (coming t size n₀ xs ys es₀) (coming t size n vs ws (words_in g.words cs)) (l.toward t q)
                  (here less t q) (rest less t q) (unrolled less t q) vs₂ ws₂ r.filled.used more ns₂ ts₂ x.2));
              engaged = j.engaged;
              waiting = rw (more.are, j.view) wait;
            })

-- a turn adds a piece
pub loop_number : (g : Engine) (n u k a b times : ℕ) (s cs xs ys ms ss ds vs ws ns ts : List ℕ) (r : Applied)
    → ApplyDone (Ok r) g n u k a b times s cs xs ys ms ss ds vs ws ns ts → r.filled.count ≡ n + 1
unfolding ApplyDone
loop_number g n u k a b times s cs xs ys ms ss ds vs ws ns ts r x = x.0

-- THE WAYS OUT, as the contract has them: the words at the start are those of the set w₀
module _ (w₀ : WordSet) (bs : List ℕ) (es₀ : List Entry) (n₀ u₀ : ℕ) (prefix : List ℕ) (size least limit : ℕ) (xs ys ms ss cs vs ws ns ts : List ℕ) (g : Engine) (n u k : ℕ)
    (z : es₀ ≡ words_in w₀ bs) (l : Looping es₀ n₀ u₀ prefix size least limit xs ys ms ss cs vs ws ns ts g n u k) where
  -- what is told then: each merge is a piece more
  abbrev told : Trained
  told = record { filled = record { count = n; used = u }; merges = n - n₀ }

  made : n - n₀ ≡ k
  made = omega (arith, l.standing.number)

  pub loop_full : size ≤ n → TrainedDone (Ok told) w₀ n₀ u₀ prefix size least limit bs xs ys ms ss vs ws ns ts
  unfolding TrainedDone
  loop_full h = rw (← z, made) (full es₀ n₀ u₀ prefix size least limit xs ys ms ss cs vs ws ns ts g n u k l h)

  module _ (floor : ℕ) (f : floor ≡ max 1 least) where
    pub loop_stop : (ds : List ℕ) → NextDone None g n prefix limit floor (pieces vs ws n) cs ds → TrainedDone (Ok told) w₀ n₀ u₀ prefix size least limit bs xs ys ms ss vs ws ns ts
    unfolding TrainedDone
    loop_stop ds d = rw (← z, made) (stop es₀ n₀ u₀ prefix size least limit xs ys ms ss cs vs ws ns ts g n u k l floor f ds d)

    pub loop_out : (next : Next) (ds : List ℕ) → NextDone (Some next) g n prefix limit floor (pieces vs ws n) cs ds → n < size → (fs vs₂ ws₂ ns₂ ts₂ : List ℕ) (e : NoRoom)
        → ApplyDone (Err e) next.engine n u k next.left next.right next.count (joined prefix (piece_at vs ws next.left) (piece_at vs ws next.right)) ds vs ws ns ts fs vs₂ ws₂ ns₂ ts₂
        → (vs₃ ws₃ ns₃ ts₃ : List ℕ) (r : Result Trained NoRoom) → IsErr r → TrainedDone r w₀ n₀ u₀ prefix size least limit bs xs ys ms ss vs₃ ws₃ ns₃ ts₃
    unfolding TrainedDone
    loop_out next ds d less fs vs₂ ws₂ ns₂ ts₂ e done vs₃ ws₃ ns₃ ts₃ (Ok r) i = absurd (cc)
    loop_out next ds d less fs vs₂ ws₂ ns₂ ts₂ e done vs₃ ws₃ ns₃ ts₃ (Err room) i =
        rw (← z) (out es₀ n₀ u₀ prefix size least limit xs ys ms ss cs vs ws ns ts g n u k l floor f next ds d less fs vs₂ ws₂ ns₂ ts₂ e done)
