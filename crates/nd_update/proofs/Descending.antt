-- The point at a node on its way: the state of a pass that has gone so far.
use Rattle.std.proofs.Common.{◌≡◌, ◌≢◌, ℕ, ◌+◌, ◌≤◌, List, length}
use Rattle.era_core.specs.declared.sizes.TheConstants.{MOST_ROWS}
use Rattle.era_core.specs.Lists.{times, In}
use Rattle.era_rows.specs.Known.{Known, pinned_copy, known_words}
use Rattle.era_rows.specs.Passes.{IsReadable}
use Rattle.pls_archive.specs.declared.point.Point.{Point}
use Rattle.pls_vectors.specs.Box.{box_of}
use Rattle.nd_rows.specs.Nodes.{Nodes, rows_of}
use Rattle.nd_rows.specs.Layout.{IsBoxRow}
use Rattle.nd_update.specs.Needed.{on_way}
use Rattle.nd_update.specs.Removal.{without_dominated}
use Rattle.nd_update.specs.Insertion.{replaced}
use Rattle.nd_update.specs.Naming.{AreNamed, names_of}
use Rattle.nd_update.specs.Ways.{HasNode, touched, link_count}
use Rattle.nd_update.proofs.Arriving.{ahead}
use Rattle.nd_update.proofs.Descent.{Continues}

-- The node of what is left of the tree at which the point is stands in this fresh row, with what is below it as it was; each fresh row
-- is a name of it or of what is outside, and what is marked, and the way that is still ahead, are the rows that are replaced. The way
-- from the node on is that of the point
pub record IsFocused (objectives new : ℕ) (p : Point) (t : Nodes) (k : Known) (marked : List ℕ) (row root steps : ℕ) (ns ms : Nodes) (outer outside : List ℕ) : Type 0 where
  pub is_named : AreNamed new (touched new p.value ns) ms
  pub node : HasNode objectives k row ms
  pub known_are : (x : ℕ) → In x (rows_of ns) → x ≢ new → In x (pinned_copy k).rows
  pub fresh_are : (x : ℕ) → times x k.core.fresh ≡ times x (names_of new (touched new p.value ns) ms) + times x outer
  pub marked_are : (x : ℕ) → times x marked + times x (ahead new p.value ns) ≡ times x (replaced new p.value t)
  pub apart : (x : ℕ) → times x outside + times x (rows_of ms) ≤ 1
  pub beside : (x : ℕ) → In x outside → IsReadable x k
  pub goes : Continues objectives new p (without_dominated new p.value t) (known_words k) ns row root outer outside
  -- a leaf without points has the box of the value
  pub boxed : link_count ms ≡ 0 → IsBoxRow objectives (known_words k) row (box_of p.value)
  pub onwards : (x : ℕ) → In x (on_way p.value ns 0) → In x (on_way p.value (without_dominated new p.value t) 0)
  pub bounded : steps + length (rows_of ms) ≤ MOST_ROWS

abbrev pub IsAt : ℕ → ℕ → Point → Nodes → Known → List ℕ → ℕ → ℕ → ℕ → Type 0
IsAt objectives new p t k marked row root steps = (ns : Nodes) × (ms : Nodes) × ((outer : List ℕ) × ((outside : List ℕ) × IsFocused objectives new p t k marked row root steps ns ms outer outside))
