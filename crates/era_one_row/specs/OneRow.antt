-- The smallest law: a lawful tree is one row without links.
use Rattle.std.specs.Prelude.{◌≡◌, ℕ, ◌/◌, Bool, true, nat_le, is_some, List, [], ◌∷◌, length, slice_index}
use Rattle.era_core.specs.declared.sizes.TheConstants.{KINDS}
use Rattle.era_core.specs.Versions.{Copy, look_up, known}

pub record IsOneRow (c : Copy) : Type 0 where
  pub alone : c.rows ≡ c.root ∷ []
  pub written : is_some (look_up c.cells c.root 0) ≡ true
  pub no_links : known c.cells c.root 0 / KINDS ≡ 0

-- the first word is the number of a version that was seen with these entries
abbrev pub is_seen : {E : Type 0} → List ℕ → List E → Bool
is_seen words entries = nat_le (slice_index words 0) (length entries)
