-- Records taken for a key and given back.
use Rattle.std.specs.Prelude.{◌≡◌, List, ℕ, ◌+◌, ◌<◌, ◌≤◌}
use Rattle.runs.specs.Parts.{nth}
use Rattle.records.specs.Records.{field, taken, free, Arena, Live, Only}

-- a record can be taken: not all were, whatever the free list has
pub record CanClaim (base n key : ℕ) (cs : List ℕ) : Type 0 where
  pub ar : Arena base n cs
  pub pos : 0 < key
  pub space : taken base cs < n

-- r, which was not live, has the key; it was free or never taken, and the head says so
pub record Claimed (base n key r : ℕ) (was is : List ℕ) : Type 0 where
  pub live : Live base n r is
  pub only : Only base n r was is
  pub idle : field base was r 0 ≡ 0
  pub key_is : field base is r 0 ≡ key
  pub most : taken base is ≤ taken base was + 1
  pub even : taken base is + free base was ≡ taken base was + free base is + 1

-- r is not live, and one more is free
pub record Released (base n r : ℕ) (was is : List ℕ) : Type 0 where
  pub ok : Arena base n is
  pub only : Only base n r was is
  pub gone : field base is r 0 ≡ 0
  pub same : taken base is ≡ taken base was
  pub freed : free base is ≡ free base was + 1

-- a record taken and blank
pub record Alloc (base n key r : ℕ) (was is : List ℕ) : Type 0 where
  pub live : Live base n r is
  pub only : Only base n r was is
  pub idle : field base was r 0 ≡ 0
  pub key_is : field base is r 0 ≡ key
  pub blank : (g : ℕ) → 0 < g → g < 4 → field base is r g ≡ 0
  pub most : taken base is ≤ taken base was + 1
  pub even : taken base is + free base was ≡ taken base was + free base is + 1

-- WHAT THE PARTS of a claim and a release ask and do
pub record CanNew (base n key : ℕ) (cs : List ℕ) : Type 0 where
  pub ar : Arena base n cs
  pub pos : 0 < key
  pub none : free base cs ≡ 0
  pub left : taken base cs < n

pub record CanFree (base n key : ℕ) (cs : List ℕ) : Type 0 where
  pub ar : Arena base n cs
  pub pos : 0 < key
  pub some : 0 < free base cs
  pub one : 0 < nth cs (base + 1)
  pub top : nth cs (base + 1) ≤ taken base cs

-- not all that were taken are free
pub record CanRelease (base n r : ℕ) (cs : List ℕ) : Type 0 where
  pub at : Live base n r cs
  pub more : free base cs < taken base cs

pub record CanDrop (base n r : ℕ) (cs : List ℕ) : Type 0 where
  pub at : Live base n r cs
  pub link : field base cs r 1 ≡ nth cs (base + 1)
  pub depth : field base cs r 2 ≡ free base cs + 1
  pub more : free base cs < taken base cs

-- r has its key, and 0 in the fields behind it
pub record Blank (base n r : ℕ) (was is : List ℕ) : Type 0 where
  pub live : Live base n r is
  pub only : Only base n r was is
  pub key_is : field base is r 0 ≡ field base was r 0
  pub blank : (g : ℕ) → 0 < g → g < 4 → field base is r g ≡ 0
  pub head : (i : ℕ) → i < base + 3 → nth is i ≡ nth was i
