-- What contracts see of the nodes of a tree.
use Rattle.std.specs.Prelude.{ℕ, ◌+◌, ◌≤◌, ◌<◌, max, ℤ, List, [], ◌∷◌, ◌++◌, length, IsTrue}
use Rattle.pls_vectors.specs.Solution.{Solution}
use Rattle.pls_vectors.specs.Box.{Box, encloses}
use Rattle.pls_archive.specs.declared.point.Point.{Point}
use Rattle.pls_archive.specs.Lists.{Every}

-- a node: the points below it, how many nodes are below it, and how many points its longest leaf has
pub record Seen : Type 0 where
  pub points : List Point
  pub below : ℕ
  pub longest : ℕ

-- a leaf: its points, and how many there is memory for
pub record Listed : Type 0 where
  pub points : List Point
  pub room : ℕ

-- values with their solutions
abbrev pub paired : List (List ℤ) → List Solution → List Point
paired [] sols = []
paired (v ∷ values) [] = []
paired (v ∷ values) (s ∷ sols) = record { value = v; sol = s } ∷ paired values sols

-- the points below these nodes
abbrev pub all_points : List Seen → List Point
all_points [] = []
all_points (s ∷ nodes) = s.points ++ all_points nodes

-- these nodes and all below them, counted
abbrev pub all_nodes : List Seen → ℕ
all_nodes [] = 0
all_nodes (s ∷ nodes) = s.below + 1 + all_nodes nodes

-- how many points the longest leaf below these nodes has
abbrev pub longest_of : List Seen → ℕ
longest_of [] = 0
longest_of (s ∷ nodes) = max s.longest (longest_of nodes)

-- the box encloses each point
abbrev pub Encloses : Box → List Point → Type 0
Encloses box points = Every (λ p. IsTrue (encloses box p.value)) points

-- each node has its box, which encloses its points
abbrev pub AreEnclosed : List Box → List Seen → Type 0
AreEnclosed [] [] = Unit {0}
AreEnclosed [] (s ∷ nodes) = ⊥
AreEnclosed (b ∷ boxes) [] = ⊥
AreEnclosed (b ∷ boxes) (s ∷ nodes) = Encloses b s.points × AreEnclosed boxes nodes

-- the children of an inner node: at least two, each with its box and with a point
pub record AreChildren (boxes : List Box) (nodes : List Seen) : Type 0 where
  pub some : 2 ≤ length nodes
  pub enclosed : AreEnclosed boxes nodes
  pub occupied : Every (λ s. 0 < length s.points) nodes
