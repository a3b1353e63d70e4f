-- The new tree in rows: what is left of the pinned one, with the new point.
use Rattle.std.specs.Prelude.{◌≡◌, ℕ, List, [], ◌∷◌}
use Rattle.era_core.specs.Lists.{times}
use Rattle.era_core.specs.Versions.{Cell}
use Rattle.pls_archive.specs.declared.point.Point.{Point}
use Rattle.nd_rows.specs.Nodes.{Nodes, heads}
use Rattle.nd_update.specs.Insertion.{updated, replaced}
use Rattle.nd_update.specs.Naming.{AreNamed, names_of, AreNamesWritten}

-- The tree after the update stands in these cells: where a row is named, it is one that was taken, and the rows that are marked are
-- those that are replaced
pub record IsInserted (new objectives : ℕ) (p : Point) (t : Nodes) (cells : List Cell) (taken marked : List ℕ) (root : ℕ) : Type 0 where
  pub named : Nodes
  pub is_named : AreNamed new (updated new p t) named
  pub written : AreNamesWritten new objectives cells (updated new p t) named
  pub rooted : heads named ≡ root ∷ []
  pub taken_are : (x : ℕ) → times x taken ≡ times x (names_of new (updated new p t) named)
  pub marked_are : (x : ℕ) → times x marked ≡ times x (replaced new p.value t)
