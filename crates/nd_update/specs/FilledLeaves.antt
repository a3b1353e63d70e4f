-- Leaves in rows, to which a pass adds a point.
use Rattle.std.specs.Prelude.{◌≡◌, ℕ, ℤ, ◌<◌, List, [], ◌∷◌, ◌++◌, length}
use Rattle.era_core.specs.Lists.{In}
use Rattle.era_core.specs.Versions.{Cell}
use Rattle.era_rows.specs.Known.{Known, known_words}
use Rattle.era_rows.specs.Passes.{IsReadable}
use Rattle.pls_vectors.specs.Box.{Box, box_of, grown}
use Rattle.pls_archive.specs.Lists.{Every}
use Rattle.pls_archive.specs.declared.point.Point.{Point}
use Rattle.nd_tree.specs.Split.{split}
use Rattle.nd_rows.specs.declared.layout.TheConstants.{LEAF, INNER, FIRST_LINK}
use Rattle.nd_rows.specs.Nodes.{Placed, Nodes, no_nodes, leaf, rows_with}
use Rattle.nd_rows.specs.Layout.{HasWords, IsLinkRow, IsPointRow}
use Rattle.nd_update.specs.Insertion.{at_places, box_around, values_with}
use Rattle.nd_update.specs.Naming.{IsLeafRow}

-- the row links these points, and the pass may read them
pub record HasLinked (objectives : ℕ) (k : Known) (row : ℕ) (placed : List Placed) : Type 0 where
  pub linked : HasWords (known_words k) row FIRST_LINK (rows_with placed)
  pub points : Every (IsPointRow objectives (known_words k)) placed
  pub readable : (x : ℕ) → In x (rows_with placed) → IsReadable x k

-- the box around these values
abbrev pub grown_all : Box → List (List ℤ) → Box
grown_all b [] = b
grown_all b (v ∷ vs) = grown_all (grown b v) vs

abbrev pub values_box : List (List ℤ) → Box
values_box [] = record { ideal = []; nadir = [] }
values_box (v ∷ vs) = grown_all (box_of v) vs

module _ (objectives : ℕ) (cells : List Cell) (placed : List Placed) where
  -- a leaf with the points at these places
  abbrev pub IsGroupLeaf : ℕ → List ℕ → Type 0
  IsGroupLeaf row group = IsLeafRow objectives cells row (box_around (at_places placed group)) (at_places placed group)

  -- such a leaf for each group
  abbrev pub AreGroupLeaves : List ℕ → List (List ℕ) → Type 0
  AreGroupLeaves [] [] = Unit {0}
  AreGroupLeaves [] (group ∷ groups) = ⊥
  AreGroupLeaves (row ∷ rows) [] = ⊥
  AreGroupLeaves (row ∷ rows) (group ∷ groups) = IsGroupLeaf row group × AreGroupLeaves rows groups

-- the leaves of the groups, in these rows
abbrev pub leaves_in : List ℕ → List Placed → List (List ℕ) → Nodes
leaves_in [] placed groups = no_nodes
leaves_in (row ∷ rows) placed [] = no_nodes
leaves_in (row ∷ rows) placed (group ∷ groups) = leaf row (box_around (at_places placed group)) (at_places placed group) (leaves_in rows placed groups)

-- The row has more points than a leaf may have: it links a leaf for each group
pub record AreDivided (objectives : ℕ) (cells : List Cell) (row : ℕ) (placed : List Placed) (leaves : List ℕ) : Type 0 where
  pub links : IsLinkRow cells INNER row leaves
  pub leaves_are : AreGroupLeaves objectives cells placed leaves (split (values_with placed))

-- A point was put into the leaf in this row, which had these points
pub record IsPut (objectives : ℕ) (cells : List Cell) (row : ℕ) (placed : List Placed) (p : Point) (at : ℕ) (leaves : List ℕ) : Type 0 where
  pub point : IsPointRow objectives cells (record { row = at; point = p })
  pub fits : length placed < 20 → (leaves ≡ []) × IsLinkRow cells LEAF row (rows_with (placed ++ record { row = at; point = p } ∷ []))
  pub full : length placed ≡ 20 → AreDivided objectives cells row (placed ++ record { row = at; point = p } ∷ []) leaves
