-- The first count of all pairs.
use Rattle.std.specs.Prelude.{List, ℕ, ◌+◌, ◌*◌, ◌^◌, ◌<◌, ◌≤◌, length}
use Rattle.runs.specs.Parts.{nth, Kept}
use Rattle.rule.specs.Seeding.{Entry}
use Rattle.rule.specs.Sums.{AllUnder, symbols_in, in_use}
use Rattle.word.specs.Layout.{symbol_in, symbols_at, entry_at, Words, words_in}
use Rattle.word.specs.declared.WordSet.{WordSet}
use Rattle.states.specs.State.{State, most, key}
use Rattle.states.specs.Tracking.{Tracks, Reported, mores, AllGained, up_to}
use Rattle.pairs.specs.View.{state, made}
use Rattle.pairs.specs.Pairs.{Pairing, Empty}
use Rattle.pairs.specs.declared.Pairs.{Pairs}
use Rattle.reports.specs.Reports.{beyond, Listing}

-- what a first count asks: no pair is known yet, and there is place for as many as there are symbols
pub record CanCount (w : WordSet) (p : Pairs) (cs : List ℕ) : Type 0 where
  pub words : Words w cs
  pub apart : w.top ≤ p.base
  pub empty : Empty p cs
  pub room : beyond p ≤ length cs
  pub light : symbols_in (words_in w cs) < 2 ^ 53
  pub below : AllUnder most (words_in w cs)
  pub space : w.live ≤ p.most

-- the states track the words from 0 up to k; no more pairs were asked for, and none more are on the list, than these words have symbols
pub record Counting (w : WordSet) (p : Pairs) (k : ℕ) (cs ds : List ℕ) (n : ℕ) : Type 0 where
  pub ok : Pairing p ds
  pub tracks : Tracks (state p ds) 0 (up_to k (words_in w cs))
  pub gained : AllGained (state p ds)
  pub listing : Listing p 0 n ds
  pub made_few : made p ds ≤ in_use (up_to k (words_in w cs))
  pub few : n ≤ in_use (up_to k (words_in w cs))
  pub kept : Kept p.base (beyond p) cs ds

-- WHAT IT GIVES: they track all words, and every pair that counts is on the list, as gained
pub record CountDone (w : WordSet) (p : Pairs) (cs ds : List ℕ) (n : ℕ) : Type 0 where
  pub ok : Pairing p ds
  pub tracks : Tracks (state p ds) 0 (words_in w cs)
  pub gained : AllGained (state p ds)
  pub listing : Listing p 0 n ds
  pub made_few : made p ds ≤ w.live
  pub few : n ≤ w.live
  pub kept : Kept p.base (beyond p) cs ds

-- ONE WORD
abbrev pub word_of : WordSet → ℕ → List ℕ → Entry
word_of w k cs = entry_at (words_in w cs) k

-- there is place for as many pairs as it has symbols, and no count grows too large
pub record CanCountWord (w : WordSet) (p : Pairs) (k n : ℕ) (cs : List ℕ) : Type 0 where
  pub words : Words w cs
  pub low : k < w.count
  pub apart : w.top ≤ p.base
  pub below : AllUnder most (words_in w cs)
  pub ok : Pairing p cs
  pub room : beyond p ≤ length cs
  pub space : made p cs + length (word_of w k cs).symbols ≤ p.most
  pub few : n + length (word_of w k cs).symbols ≤ 2 * p.most
  pub light : (a b : ℕ) → a < most → b < most → (state p cs (key a b)).count + (word_of w k cs).frequency * length (word_of w k cs).symbols < 2 ^ 64

-- each of its adjacent positions is reported
pub record WordCounted (w : WordSet) (p : Pairs) (k n : ℕ) (cs ds : List ℕ) (m : ℕ) : Type 0 where
  pub ok : Pairing p ds
  pub reported : Reported (word_of w k cs).frequency k (mores (word_of w k cs).symbols) (state p cs) (state p ds)
  pub listing : Listing p 0 n cs → Listing p 0 m ds
  pub made_most : made p ds ≤ made p cs + length (word_of w k cs).symbols
  pub most_listed : m ≤ n + length (word_of w k cs).symbols
  pub kept : Kept p.base (beyond p) cs ds

-- A WORD ON THE WAY, which has `all` symbols from the cell `start` on: the reports of the `left` symbols from the cell i on, f times each, complete its reports
pub record Raising (p : Pairs) (k n f start all : ℕ) (cs ds : List ℕ) (i left m : ℕ) : Type 0 where
  pub ok : Pairing p ds
  pub inside : i + left ≤ p.base
  pub small : (j : ℕ) → j < left → symbol_in (nth cs (i + j)) < most
  pub completes : (τ : ℕ → State) → Reported f k (mores (symbols_at i left cs)) (state p ds) τ → Reported f k (mores (symbols_at start all cs)) (state p cs) τ
  pub light : (a b : ℕ) → a < most → b < most → (state p ds (key a b)).count + f * left < 2 ^ 64
  pub listing : Listing p 0 n cs → Listing p 0 m ds
  pub room : beyond p ≤ length ds
  pub space : made p ds + left ≤ p.most
  pub few : m + left ≤ 2 * p.most
  pub made_most : made p ds + left ≤ made p cs + all
  pub most_listed : m + left ≤ n + all
  pub kept : Kept p.base (beyond p) cs ds
