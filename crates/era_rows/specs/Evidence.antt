-- Evidence that no row was free: what a record of it shows to whoever reads it later.
use Rattle.std.specs.Prelude.{◌≡◌, ◌≢◌, ℕ, ◌+◌, ◌<◌, ◌≤◌, Some, List, ◌++◌, length}
use Rattle.era_core.specs.Lists.{In}
use Rattle.era_core.specs.Views.{versions_of}
use Rattle.era_rows.specs.Known.{Known, Look, Shortage}
use Rattle.era_rows.specs.Passes.{looks_of, AreTaken}
use mathlib.Core.Option.{some}
use lib.ListN.{get_elem?}

-- among these reservations, in order of the passes, one of another pass than this one names version b or an earlier one
pub record Blocks (number b : ℕ) (reservations : List ℕ) : Type 0 where
  pub pass : ℕ
  pub word : ℕ
  pub other : pass ≢ number
  pub found : get_elem? reservations pass ≡ some word
  pub reserves : 0 < word
  pub names : word ≤ b + 1

-- The looks end in one at the reservation of each pass, and then one at the owner of each row, which each row had. Rows that
-- were retired and kept were blocked by the reservation of another pass, and few rows were fresh, this many at most
pub record IsEvidence (passes rows most : ℕ) (s : Shortage) : Type 0 where
  pub before : List Look
  pub reservations : List ℕ
  pub owners : List Look
  pub ends : s.looks ≡ before ++ (looks_of passes rows 0 reservations ++ owners)
  pub all : length reservations ≡ passes
  pub taken : AreTaken passes rows 0 rows owners
  pub few : s.fresh ≤ most
  pub blocked : (b : ℕ) → In b s.versions → Blocks s.number b reservations

-- A call that began with the first and left the second has recorded an evidence, found by this pass in this call. Each batch
-- that the pass has was kept then, and it has as many fresh rows as then
pub record ShowsFull (passes rows most : ℕ) (before after : Known) : Type 0 where
  pub shortage : Shortage
  pub recorded : after.full ≡ Some shortage
  pub evidence : IsEvidence passes rows most shortage
  pub by_pass : after.core.number ≡ Some shortage.number
  pub first : List Look
  pub last : List Look
  pub in_call : after.looks ≡ (before.looks ++ first) ++ (shortage.looks ++ last)
  pub batches : (b : ℕ) → In b (versions_of after.core.retired) → In b shortage.versions
  pub fresh : length after.core.fresh ≡ shortage.fresh
