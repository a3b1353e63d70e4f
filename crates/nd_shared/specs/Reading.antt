-- Of which rows of the tree that it pinned a call read words.
use Rattle.std.specs.Prelude.{◌≡◌, ℕ, List}
use Rattle.era_core.specs.Lists.{In}
use Rattle.era_core.specs.Versions.{Copy}
use Rattle.era_one_row.specs.Ready.{HasPinned}
use Rattle.era_rows.specs.Known.{Known, pinned_copy}
use Rattle.era_rows.specs.Lists.{IsPrefix}
use Rattle.nd_rows.specs.Layout.{IsTreeOf}
use Rattle.nd_rows.specs.Nodes.{Nodes}
use Rattle.nd_update.specs.Counted.{WasRead}
use mathlib.Core.Option.{some}
use lib.ListN.{get_elem?}

-- The version that a call pinned, before it read anything and but once, reads as a tree, and of its rows the pass found from then on
-- words of those alone that are given of that tree
pub record ReadsOf (objectives : ℕ) (rows : Nodes → List ℕ) (before after : Known) : Type 0 where
  pub version : ℕ
  pub pinned : HasPinned version before after
  pub copy : Copy
  pub known : get_elem? after.copies version ≡ some copy
  pub tree : Nodes
  pub is_tree : IsTreeOf objectives copy tree
  pub only : (x : ℕ) → In x copy.rows → WasRead x after → In x (rows tree)

-- version n is the one that is pinned, the pass knows its copy, and has found no word of a row since
pub record IsUnread (n : ℕ) (k : Known) : Type 0 where
  pub known : get_elem? k.copies n ≡ some (pinned_copy k)
  pub none : (x : ℕ) → ¬ (WasRead x k)

-- the last pin is the one that it was, and the pass found no word of these rows
pub record ReadsNone (rows : List ℕ) (before after : Known) : Type 0 where
  pub looked : IsPrefix before.looks after.looks
  pub same_pin : after.since ≡ before.since
  pub copies : IsPrefix before.copies after.copies
  pub none : (x : ℕ) → In x rows → WasRead x after → WasRead x before
