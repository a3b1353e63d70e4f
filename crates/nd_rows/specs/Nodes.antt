-- ND-trees as values: nodes, each with the later siblings of its own. A tree is one node without later siblings.
use Rattle.std.specs.Prelude.{◌≡◌, ℕ, ◌+◌, ◌≤◌, ◌==◌, ◌⊎◌, ℤ, Bool, true, false, List, [], ◌∷◌, ◌++◌, map, length, if◌then◌else◌, IsTrue}
use Rattle.pls_vectors.specs.Box.{Box, encloses, decision}
use Rattle.pls_vectors.specs.Dominance.{weakly_dominates}
use Rattle.pls_vectors.specs.declared.range.Decision.{Decision}
use Rattle.pls_vectors.specs.declared.range.Decision.TheVariants.{AllCover, CoversAll, Apart, Mixed}
use Rattle.pls_archive.specs.declared.point.Point.{Point}
use Rattle.pls_archive.specs.Lists.{Every, how_many}

-- a point, and the row that has it
pub record Placed : Type 0 where
  pub row : ℕ
  pub point : Point

-- Nodes side by side, each with its row and its box. A leaf has points below it, an inner node has nodes
pub data Nodes : Type 0 where
  no_nodes : Nodes
  leaf : ℕ → Box → List Placed → Nodes → Nodes
  inner : ℕ → Box → Nodes → Nodes → Nodes

abbrev pub rows_with : List Placed → List ℕ
rows_with placed = map (λ (p : Placed). p.row) placed

abbrev pub points_with : List Placed → List Point
points_with placed = map (λ (p : Placed). p.point) placed

-- the rows of the nodes themselves
abbrev pub heads : Nodes → List ℕ
heads no_nodes = []
heads (leaf r b placed later) = r ∷ heads later
heads (inner r b kids later) = r ∷ heads later

-- all rows of the trees at the nodes, each before what is below it
abbrev pub rows_of : Nodes → List ℕ
rows_of no_nodes = []
rows_of (leaf r b placed later) = r ∷ (rows_with placed ++ rows_of later)
rows_of (inner r b kids later) = r ∷ (rows_of kids ++ rows_of later)

-- the points of these trees, in depth-first order
abbrev pub points_of : Nodes → List Point
points_of no_nodes = []
points_of (leaf r b placed later) = points_with placed ++ points_of later
points_of (inner r b kids later) = points_of kids ++ points_of later

-- nodes, and then others
abbrev pub followed_by : Nodes → Nodes → Nodes
followed_by no_nodes others = others
followed_by (leaf r b placed later) others = leaf r b placed (followed_by later others)
followed_by (inner r b kids later) others = inner r b kids (followed_by later others)

-- The box encloses each of these points. Where one has the value of a corner, the box is that of one value
pub record Encloses (b : Box) (points : List Point) : Type 0 where
  pub all : Every (λ (p : Point). IsTrue (encloses b p.value)) points
  pub corners : Every (λ (p : Point). (p.value ≡ b.ideal) ⊎ (p.value ≡ b.nadir) → b.ideal ≡ b.nadir) points

-- each box encloses the points below its node
abbrev pub AreBoxed : Nodes → Type 0
AreBoxed no_nodes = Unit {0}
AreBoxed (leaf r b placed later) = Encloses b (points_with placed) × AreBoxed later
AreBoxed (inner r b kids later) = Encloses b (points_of kids) × AreBoxed kids × AreBoxed later

-- A leaf has 1 to 20 points, and an inner node at least two nodes and at most one more than there are objectives, as far as a row
-- has room for their links
abbrev pub AreFormed : ℕ → Nodes → Type 0
AreFormed objectives no_nodes = Unit {0}
AreFormed objectives (leaf r b placed later) = (1 ≤ length placed) × (length placed ≤ 20) × AreFormed objectives later
AreFormed objectives (inner r b kids later) =
    (2 ≤ length (heads kids)) × (length (heads kids) ≤ objectives + 1) × (length (heads kids) ≤ 39) × AreFormed objectives kids × AreFormed objectives later

-- a leaf without points, alone
abbrev pub IsEmptyLeaf : Nodes → Type 0
IsEmptyLeaf no_nodes = ⊥
IsEmptyLeaf (leaf r b placed later) = (placed ≡ []) × (later ≡ no_nodes)
IsEmptyLeaf (inner r b kids later) = ⊥

-- how many of the points weakly dominate the value
abbrev pub coverings : List Point → List ℤ → ℕ
coverings points v = how_many (λ (q : Point). weakly_dominates q.value v) points

-- each point is weakly dominated by itself alone
abbrev pub AreApart : List Point → Type 0
AreApart points = how_many (λ (p : Point). coverings points p.value == 1) points ≡ length points

-- the box leaves open which of the values in it weakly dominate the value, or are weakly dominated by it
abbrev pub undecided : Decision → Bool
undecided AllCover = false
undecided CoversAll = false
undecided Apart = false
undecided Mixed = true

abbrev pub is_mixed : Box → List ℤ → Bool
is_mixed b v = undecided (decision b v)

-- the rows that a question about the value needs: those of the nodes, and below each whose box leaves it open
abbrev pub necessary : List ℤ → Nodes → List ℕ
necessary v no_nodes = []
necessary v (leaf r b placed later) = r ∷ ((if is_mixed b v then rows_with placed else []) ++ necessary v later)
necessary v (inner r b kids later) = r ∷ ((if is_mixed b v then necessary v kids else []) ++ necessary v later)
