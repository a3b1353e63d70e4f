-- How many rows a pass has taken from its pin on, by what it has found, and what it keeps where no row was free.
use Rattle.std.specs.Prelude.{◌≡◌, ℕ, ◌+◌, ◌*◌, ◌<◌, ◌≤◌, Bool, true, false, ◌&&◌, ◌==◌, Some, List, ◌++◌, drop, length}
use Rattle.std.specs.List.{list_any}
use Rattle.era_core.specs.Lists.{times, In}
use Rattle.era_core.specs.Views.{versions_of}
use Rattle.era_core.specs.Words.{owner_at}
use Rattle.era_rows.specs.Evidence.{IsEvidence}
use Rattle.era_rows.specs.Held.{IsAlone}
use Rattle.era_rows.specs.FreshRows.{is_read, takes_in, rows_read, TakesWithin}
use Rattle.era_rows.specs.Known.{Known, Look, Shortage, pinned_copy}

-- what the pass has found from its pin on
abbrev pub looks_since : Known → List Look
looks_since k = drop k.since k.looks

-- a word of the row was found
abbrev pub WasRead : ℕ → Known → Type 0
WasRead x k = list_any (is_read k.passes k.rows x) (looks_since k) ≡ true

-- the look found row x without an owner, and so took it
abbrev pub takes_row : ℕ → ℕ → ℕ → Look → Bool
takes_row passes rows x look = look.0 == owner_at passes rows x && look.1 == 0

-- in each beginning of what was found, the rows that were taken are at most the rows of the pinned tree of which a word was found,
-- and d + 3 more
abbrev pub IsWithin : Known → Type 0
IsWithin k = TakesWithin k.passes k.rows (pinned_copy k).rows (k.shape + 3) (looks_since k)

-- where the pass is alone, so that its fresh rows and the pinned tree were all rows, there are few
abbrev pub IsCrowded : Known → Type 0
IsCrowded k = IsAlone k → k.rows ≤ 2 * length (pinned_copy k).rows + (k.shape + 2)

-- Few rows were taken. The pass has those that it took, and none of them is in the pinned tree. What it retired is older than the
-- version that it reserves. The marked rows are different ones of the tree
pub record IsCounted (k : Known) (marked : List ℕ) : Type 0 where
  pub begun : k.since ≤ length k.looks
  pub within : IsWithin k
  pub taken : takes_in k.passes k.rows (looks_since k) ≤ length k.core.fresh
  pub untaken : (x : ℕ) → In x (pinned_copy k).rows → list_any (takes_row k.passes k.rows x) (looks_since k) ≡ false
  pub older : (b : ℕ) → In b (versions_of k.core.retired) → b + 1 < k.reserves
  pub once : (x : ℕ) → times x marked ≤ 1
  pub inside : (x : ℕ) → In x marked → In x (pinned_copy k).rows

-- the fresh rows are at most so many more than marked rows that were read
pub record IsPaid (more : ℕ) (k : Known) (marked : List ℕ) : Type 0 where
  pub rows : List ℕ
  pub among : (x : ℕ) → times x rows ≤ times x marked
  pub read : (x : ℕ) → In x rows → WasRead x k
  pub few : length k.core.fresh ≤ length rows + more

-- An evidence of an update for which no row was free, with few fresh rows: at most as many as different rows of which it found a
-- word and that it did not take, and d + 3 more
pub record IsShortage (objectives passes rows : ℕ) (s : Shortage) : Type 0 where
  pub tree : List ℕ
  pub once : (x : ℕ) → times x tree ≤ 1
  pub untaken : (x : ℕ) → In x tree → list_any (takes_row passes rows x) s.looks ≡ false
  pub evidence : IsEvidence passes rows (rows_read passes rows tree s.looks + (objectives + 3)) s

-- such an evidence is what the pass keeps
abbrev pub KeepsShortage : Known → Type 0
KeepsShortage k = (s : Shortage) × (k.full ≡ Some s) × IsShortage k.shape k.passes k.rows s

-- The pass keeps one that it found itself from its pin on. Each batch that it has was kept then
pub record IsShort (k : Known) : Type 0 where
  pub shortage : Shortage
  pub recorded : k.full ≡ Some shortage
  pub shows : IsShortage k.shape k.passes k.rows shortage
  pub by_pass : k.core.number ≡ Some shortage.number
  pub last : List Look
  pub in_call : looks_since k ≡ shortage.looks ++ last
  pub batches : (b : ℕ) → In b (versions_of k.core.retired) → In b shortage.versions
