-- The rows of nodes that change are named when they are written.
use Rattle.std.specs.Prelude.{◌≡◌, ◌≢◌, ℕ, ◌==◌, ◌⊎◌, ◌<◌, List, [], ◌∷◌, ◌++◌, length, if◌then◌else◌}
use Rattle.era_core.specs.Lists.{times}
use Rattle.era_core.specs.Versions.{Cell}
use Rattle.pls_vectors.specs.Box.{Box}
use Rattle.pls_archive.specs.Lists.{Every}
use Rattle.nd_rows.specs.declared.layout.TheConstants.{LEAF, INNER}
use Rattle.nd_rows.specs.Nodes.{Placed, Nodes, no_nodes, leaf, inner, heads, rows_of, rows_with}
use Rattle.nd_rows.specs.Layout.{IsLinkRow, IsBoxRow, IsPointRow}

module _ (objectives : ℕ) (cells : List Cell) where
  -- a leaf and an inner node in their rows, without what is below them
  pub record IsLeafRow (r : ℕ) (b : Box) (placed : List Placed) : Type 0 where
    pub links : IsLinkRow cells LEAF r (rows_with placed)
    pub boxed : 0 < length placed → IsBoxRow objectives cells r b

  pub record IsInnerRow (r : ℕ) (b : Box) (kids : Nodes) : Type 0 where
    pub links : IsLinkRow cells INNER r (heads kids)
    pub boxed : IsBoxRow objectives cells r b

module _ (new : ℕ) where
  -- a row that is known stays
  abbrev pub HasName : ℕ → ℕ → Type 0
  HasName r name = (r ≡ new) ⊎ (name ≡ r)

  abbrev pub ArePlacedNamed : List Placed → List Placed → Type 0
  ArePlacedNamed [] [] = Unit {0}
  ArePlacedNamed [] (q ∷ named) = ⊥
  ArePlacedNamed (p ∷ placed) [] = ⊥
  ArePlacedNamed (p ∷ placed) (q ∷ named) = HasName p.row q.row × (q.point ≡ p.point) × ArePlacedNamed placed named

  -- the second nodes are the first ones, with a row for each `new`
  abbrev pub AreNamed : Nodes → Nodes → Type 0
  AreNamed no_nodes no_nodes = Unit {0}
  AreNamed no_nodes (leaf r b placed later) = ⊥
  AreNamed no_nodes (inner r b kids later) = ⊥
  AreNamed (leaf r b placed later) no_nodes = ⊥
  AreNamed (leaf r b placed later) (leaf name box named others) = HasName r name × (box ≡ b) × ArePlacedNamed placed named × AreNamed later others
  AreNamed (leaf r b placed later) (inner name box kids others) = ⊥
  AreNamed (inner r b kids later) no_nodes = ⊥
  AreNamed (inner r b kids later) (leaf name box named others) = ⊥
  AreNamed (inner r b kids later) (inner name box named others) = HasName r name × (box ≡ b) × AreNamed kids named × AreNamed later others

  -- the rows that were named
  abbrev pub name_of : ℕ → ℕ → List ℕ
  name_of r name = if r == new then name ∷ [] else []

  abbrev pub names_with : List Placed → List Placed → List ℕ
  names_with [] named = []
  names_with (p ∷ placed) [] = []
  names_with (p ∷ placed) (q ∷ named) = name_of p.row q.row ++ names_with placed named

  abbrev pub names_of : Nodes → Nodes → List ℕ
  names_of no_nodes ns = []
  names_of (leaf r b placed later) no_nodes = []
  names_of (leaf r b placed later) (leaf name box named others) = name_of r name ++ (names_with placed named ++ names_of later others)
  names_of (leaf r b placed later) (inner name box kids others) = []
  names_of (inner r b kids later) no_nodes = []
  names_of (inner r b kids later) (leaf name box named others) = []
  names_of (inner r b kids later) (inner name box named others) = name_of r name ++ (names_of kids named ++ names_of later others)

  module _ (objectives : ℕ) (cells : List Cell) where
    -- each node or point whose row is known stands in it, and all rows below such a node are known
    abbrev pub AreKept : Nodes → Type 0
    AreKept no_nodes = Unit {0}
    AreKept (leaf r b placed later) =
        (r ≢ new → IsLeafRow objectives cells r b placed × (times new (rows_with placed) ≡ 0)) × Every (λ (p : Placed). p.row ≢ new → IsPointRow objectives cells p) placed × AreKept later
    AreKept (inner r b kids later) =
        (r ≢ new → IsInnerRow objectives cells r b kids × (times new (rows_of kids) ≡ 0)) × AreKept kids × AreKept later

    -- and each that was named stands in its row
    abbrev pub ArePlacedWritten : List Placed → List Placed → Type 0
    ArePlacedWritten [] named = Unit {0}
    ArePlacedWritten (p ∷ placed) [] = ⊥
    ArePlacedWritten (p ∷ placed) (q ∷ named) = (p.row ≡ new → IsPointRow objectives cells q) × ArePlacedWritten placed named

    abbrev pub AreNamesWritten : Nodes → Nodes → Type 0
    AreNamesWritten no_nodes ns = Unit {0}
    AreNamesWritten (leaf r b placed later) no_nodes = ⊥
    AreNamesWritten (leaf r b placed later) (leaf name box named others) =
        (r ≡ new → IsLeafRow objectives cells name box named) × ArePlacedWritten placed named × AreNamesWritten later others
    AreNamesWritten (leaf r b placed later) (inner name box kids others) = ⊥
    AreNamesWritten (inner r b kids later) no_nodes = ⊥
    AreNamesWritten (inner r b kids later) (leaf name box named others) = ⊥
    AreNamesWritten (inner r b kids later) (inner name box named others) =
        (r ≡ new → IsInnerRow objectives cells name box named) × AreNamesWritten kids named × AreNamesWritten later others
