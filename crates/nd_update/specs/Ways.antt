-- Nodes that a pass may read, and those on the way of a value, which it puts into its rows.
use Rattle.std.specs.Prelude.{◌≡◌, ℕ, zero, suc, ◌<◌, ◌≤◌, ◌⊎◌, ℤ, List, [], ◌∷◌, length, slice_index_or, slice_set, IsTrue}
use Rattle.era_core.specs.Lists.{times, In}
use Rattle.era_rows.specs.Known.{Known, known_words}
use Rattle.era_rows.specs.Passes.{IsReadable}
use Rattle.pls_vectors.specs.Box.{Box, grown}
use Rattle.pls_vectors.specs.Dominance.{weakly_dominates}
use Rattle.nd_rows.specs.declared.layout.TheConstants.{INNER}
use Rattle.nd_rows.specs.Nodes.{Nodes, no_nodes, leaf, inner, heads, rows_of}
use Rattle.nd_rows.specs.Layout.{IsLinkRow, IsBoxRow, AreWritten}
use Rattle.nd_update.specs.Insertion.{leaf_box, place_among}

-- the box of some values with so many parts
pub record IsBox (objectives : ℕ) (b : Box) : Type 0 where
  pub long : length b.ideal ≡ objectives
  pub ordered : IsTrue (weakly_dominates b.ideal b.nadir)

-- no leaf is empty
abbrev pub HaveSome : Nodes → Type 0
HaveSome no_nodes = Unit {0}
HaveSome (leaf r b placed later) = (0 < length placed) × HaveSome later
HaveSome (inner r b kids later) = HaveSome later

-- each node has as many links as its kind may have, and a box if anything is below it
abbrev pub AreFit : ℕ → Nodes → Type 0
AreFit objectives no_nodes = Unit {0}
AreFit objectives (leaf r b placed later) = (length placed ≤ 20) × (0 < length placed → IsBox objectives b) × AreFit objectives later
AreFit objectives (inner r b kids later) = (2 ≤ length (heads kids)) × (length (heads kids) ≤ 5) × IsBox objectives b × HaveSome kids × AreFit objectives kids × AreFit objectives later

-- the nodes stand in different rows, which the pass may read
pub record HasNodes (objectives : ℕ) (k : Known) (ms : Nodes) : Type 0 where
  pub written : AreWritten objectives (known_words k) ms
  pub fit : AreFit objectives ms
  pub readable : (x : ℕ) → In x (rows_of ms) → IsReadable x k
  pub once : (x : ℕ) → times x (rows_of ms) ≤ 1

-- a node in this row
pub record HasNode (objectives : ℕ) (k : Known) (row : ℕ) (ms : Nodes) : Type 0 where
  pub nodes : HasNodes objectives k ms
  pub here : heads ms ≡ row ∷ []

-- the first node in this row, with a box that encloses the value too
abbrev pub touched : ℕ → List ℤ → Nodes → Nodes
touched row v no_nodes = no_nodes
touched row v (leaf r b placed later) = leaf row (leaf_box b placed v) placed later
touched row v (inner r b kids later) = inner row (grown b v) kids later

-- that box, and how many links the first node has
abbrev pub touched_box : List ℤ → Nodes → Box
touched_box v no_nodes = record { ideal = []; nadir = [] }
touched_box v (leaf r b placed later) = leaf_box b placed v
touched_box v (inner r b kids later) = grown b v

abbrev pub link_count : Nodes → ℕ
link_count no_nodes = 0
link_count (leaf r b placed later) = length placed
link_count (inner r b kids later) = length (heads kids)

-- the node at this place, alone
abbrev pub at_node : Nodes → ℕ → Nodes
at_node no_nodes k = no_nodes
at_node (leaf r b placed later) zero = leaf r b placed no_nodes
at_node (leaf r b placed later) (suc k) = at_node later k
at_node (inner r b kids later) zero = inner r b kids no_nodes
at_node (inner r b kids later) (suc k) = at_node later k

-- The node in this row stands in a row of the pass: it was a fresh row, or a fresh row was taken for it, and the first one was marked
abbrev pub IsOwned : Known → ℕ → ℕ → List ℕ → List ℕ → Type 0
IsOwned k row own taken marked =
    (In row k.core.fresh × (own ≡ row) × (taken ≡ []) × (marked ≡ []))
    ⊎ ((times row k.core.fresh ≡ 0) × (taken ≡ own ∷ []) × (marked ≡ row ∷ []))

-- the row of the child to which the value goes
abbrev pub child_row : List ℤ → Nodes → ℕ
child_row v kids = slice_index_or (heads kids) (place_among v kids) 0

-- the child to which the value goes stands in this row, with a box that encloses the value, and the inner node links it
pub record IsStepped (objectives : ℕ) (k : Known) (row : ℕ) (b : Box) (kids : Nodes) (v : List ℤ) (own : ℕ) : Type 0 where
  pub child : HasNode objectives k own (touched own v (at_node kids (place_among v kids)))
  pub links : IsLinkRow (known_words k) INNER row (slice_set (heads kids) (place_among v kids) own)
  pub boxed : IsBoxRow objectives (known_words k) row b
