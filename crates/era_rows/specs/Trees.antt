-- Trees of rows, as a copy knows them.
use Rattle.std.specs.Prelude.{ℕ, zero, suc, ◌+◌, ◌/◌, ◌≤◌, List, [], ◌∷◌}
use Rattle.era_core.specs.declared.sizes.TheConstants.{WIDTH, MOST_LINKS, KINDS}
use Rattle.era_core.specs.Lists.{times, In}
use Rattle.era_core.specs.Versions.{Cell, Copy, known, known_links, Covers}

-- so many words of row 0, all 0, from the place on
abbrev pub blank_cells : ℕ → ℕ → List Cell
blank_cells place zero = []
blank_cells place (suc n) = record { row = 0; place = place; word = 0 } ∷ blank_cells (place + 1) n

-- the copy of version 0: row 0 alone, with all its words 0
abbrev pub first_copy : Copy
first_copy = record { root = 0; rows = 0 ∷ []; cells = blank_cells 0 WIDTH }

-- a copy without rows
abbrev pub no_copy : Copy
no_copy = record { root = 0; rows = []; cells = [] }

-- A tree of rows: all rows are different, and none counts more links than it has words after word 0.
-- Word 0 of each row and the links that it counts are known, and each link is a row of the tree
pub record IsTree (c : Copy) : Type 0 where
  pub once : (r : ℕ) → times r c.rows ≤ 1
  pub few : (r : ℕ) → In r c.rows → known c.cells r 0 / KINDS ≤ MOST_LINKS
  pub covered : (r : ℕ) → In r c.rows → Covers c.cells r
  pub linked : (r x : ℕ) → In r c.rows → In x (known_links c.cells r) → In x c.rows
