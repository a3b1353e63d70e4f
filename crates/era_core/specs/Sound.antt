-- What holds between the words, the views and the versions at every moment, so that no row is freed too soon.
-- The views may stand in any order, and a copy may have as many words of its rows as one likes.
use Rattle.std.specs.Prelude.{◌≡◌, ◌≢◌, ℕ, ◌+◌, ◌<◌, ◌≤◌, ◌⊎◌, false, nat_lt, ◌&&◌, if◌then◌else◌, Some, None, List, length}
use Rattle.era_core.specs.Lists.{times, In, total}
use Rattle.era_core.specs.Words.{version, root_row, words_len, reservation, owner, live}
use Rattle.era_core.specs.Views.{Batch, View, versions_of, late, held, clears}
use Rattle.era_core.specs.Versions.{Copy, IsClosed, Stands}
use mathlib.Core.Option.{some}
use lib.ListN.{get_elem?}

-- Where u is a pass that is pinned and that v's scan has looked at, the scan has seen a reservation at or below u's version.
-- So it clears no batch that u can still read
abbrev pub Scans : View → View → Type 0
Scans u v = (j n r b : ℕ) → u.number ≡ Some j → u.pinned ≡ Some (n, r) → j < v.scanned → In b (versions_of v.retired) → n ≤ b → clears v.least b ≡ false

module _ (passes rows : ℕ) where
  -- how often a row stands in all the lists: once if it has an owner, and else not at all
  abbrev pub owned : List ℕ → ℕ → ℕ
  owned ws r = if nat_lt r rows && nat_lt 0 (owner passes rows ws r) then 1 else 0

  -- the row is live, or was retired at version n or later
  abbrev pub IsKept : List ℕ → List View → ℕ → ℕ → Type 0
  IsKept ws vs n r = 0 < times r (live passes rows ws) + total (λ (v : View). times r (late n v.retired)) vs

  -- Pass k, with these batches, may read version n, whose root row is r
  pub record IsPinned (ws : List ℕ) (vs : List View) (cs : List Copy) (k : ℕ) (retired : List Batch) (n r : ℕ) : Type 0 where
    -- it has reserved that version or an earlier one, and the version is no later than the root's
    pub has_reserved : 0 < reservation passes rows ws k
    pub early : reservation passes rows ws k ≤ n + 1
    pub published : n ≤ version ws
    -- the copy has that root row, its words stand, and its rows are kept
    pub rooted : (c : Copy) → get_elem? cs n ≡ some c → c.root ≡ r
    pub stands : (c : Copy) → get_elem? cs n ≡ some c → Stands passes rows ws c.cells
    pub kept : (c : Copy) → get_elem? cs n ≡ some c → (x : ℕ) → In x c.rows → IsKept ws vs n x
    -- its own batches are of that version, or lie below its reservation
    pub own : (b : ℕ) → In b (versions_of retired) → (b + 1 < reservation passes rows ws k) ⊎ (b ≡ n)

  -- One view agrees with the words and the versions
  pub record Fits (ws : List ℕ) (vs : List View) (cs : List Copy) (v : View) : Type 0 where
    pub numbered : (k : ℕ) → v.number ≡ Some k → k < passes
    -- each batch is of a version below the root's
    pub older : (b : ℕ) → In b (versions_of v.retired) → b < version ws
    -- a pinned view has a number, and may read its version
    pub named : (n r : ℕ) → v.pinned ≡ Some (n, r) → v.number ≢ None
    pub pin : (k n r : ℕ) → v.number ≡ Some k → v.pinned ≡ Some (n, r) → IsPinned ws vs cs k v.retired n r
    -- a noted version is the root's or an earlier one, and above all batches of the view
    pub noted : (n : ℕ) → v.noted ≡ Some n → n ≤ version ws
    pub newer : (n b : ℕ) → v.noted ≡ Some n → In b (versions_of v.retired) → b < n
    -- a pass that has reserved a version and is not pinned has noted it; a pinned one has noted nothing
    pub announced : (k n : ℕ) → v.number ≡ Some k → v.pinned ≡ None → reservation passes rows ws k ≡ n + 1 → v.noted ≡ Some n
    pub settled : (n r : ℕ) → v.pinned ≡ Some (n, r) → v.noted ≡ None
    pub scan : v.scanned ≤ passes

  pub record Sound (ws : List ℕ) (vs : List View) (cs : List Copy) : Type 0 where
    pub long : length ws ≡ words_len passes rows
    -- the root's version is the last one, and its copy is the tree at the root's row as it stands
    pub counted : length cs ≡ version ws + 1
    pub rooted : (c : Copy) → get_elem? cs (version ws) ≡ some c → c.root ≡ root_row ws
    pub stands : (c : Copy) → get_elem? cs (version ws) ≡ some c → Stands passes rows ws c.cells
    pub current : (c : Copy) → get_elem? cs (version ws) ≡ some c → c.rows ≡ live passes rows ws
    -- a row without an owner stands nowhere, and each other row in one place alone: live, fresh or retired
    pub places : (r : ℕ) → times r (live passes rows ws) + total (λ (v : View). times r (held v)) vs ≡ owned ws r
    -- each view agrees with the words and the versions
    pub each : (i : ℕ) (v : View) → get_elem? vs i ≡ some v → Fits ws vs cs v
    -- a pass has one view, and one without a view has reserved nothing
    pub apart : (i j : ℕ) (u v : View) (k : ℕ) → get_elem? vs i ≡ some u → get_elem? vs j ≡ some v → u.number ≡ Some k → v.number ≡ Some k → i ≡ j
    pub silent : (k : ℕ) → k < passes → ((i : ℕ) (v : View) → get_elem? vs i ≡ some v → v.number ≢ Some k) → reservation passes rows ws k ≡ 0
    -- each scan has seen the reservations of the pinned passes that it looked at
    pub scans : (i j : ℕ) (u v : View) → get_elem? vs i ≡ some u → get_elem? vs j ≡ some v → Scans u v
    -- each copy has the words that its tree is made of
    pub closed : (n : ℕ) (c : Copy) → get_elem? cs n ≡ some c → IsClosed rows c
