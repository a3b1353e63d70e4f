-- The walk over the fresh rows of a new tree: what has been reached.
use Rattle.std.specs.Prelude.{◌≡◌, ℕ, ◌≤◌, Bool, false, not, ◌&&◌, List, ◌++◌, length, slice_index_or}
use Rattle.era_core.specs.Lists.{times, In, is_in}
use Rattle.era_rows.specs.Known.{Known, copy_known}

-- The flags are those of the fresh rows that were not reached. Each reached row is fresh, and none was reached twice
pub record IsReached (rows : ℕ) (fresh : List ℕ) (loose : List Bool) (reached : List ℕ) : Type 0 where
  pub counted : length loose ≡ rows
  pub left : (x : ℕ) → slice_index_or loose x false ≡ (is_in x fresh && not (is_in x reached))
  pub are_fresh : (x : ℕ) → In x reached → In x fresh
  pub once : (x : ℕ) → times x reached ≤ 1

-- some of these links were reached after others, and now each of them that is fresh is reached
pub record AddsLinks (links fresh before after : List ℕ) : Type 0 where
  pub more : List ℕ
  pub begins : before ++ more ≡ after
  pub are_links : (x : ℕ) → In x more → In x links
  pub all : (x : ℕ) → In x links → In x fresh → In x after

-- exactly the fresh rows of the tree at row q are reached
pub record ReachesTree (q : ℕ) (k : Known) (loose : List Bool) (reached : List ℕ) : Type 0 where
  pub is_reached : IsReached k.rows k.core.fresh loose reached
  pub all : (x : ℕ) → In x k.core.fresh → is_in x reached ≡ is_in x (copy_known k q).rows
