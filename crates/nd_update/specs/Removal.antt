-- A tree without the points that a new value weakly dominates.
use Rattle.std.specs.Prelude.{ℕ, nat_lt, Bool, not, ◌&&◌, ℤ, List, [], ◌∷◌, ◌++◌, length, if◌then◌else◌}
use Rattle.std.specs.List.{filter, list_any}
use Rattle.pls_vectors.specs.Box.{Box}
use Rattle.pls_vectors.specs.Dominance.{weakly_dominates}
use Rattle.pls_archive.specs.declared.point.Point.{Point}
use Rattle.nd_rows.specs.Nodes.{Placed, Nodes, no_nodes, leaf, inner, heads, rows_with, points_of, points_with, followed_by}

-- the value weakly dominates one of these points
abbrev pub is_hit : List ℤ → List Point → Bool
is_hit v points = list_any (λ (p : Point). weakly_dominates v p.value) points

-- the points that stay, and those that go
abbrev pub staying : List ℤ → List Placed → List Placed
staying v placed = filter (λ (p : Placed). not (weakly_dominates v p.point.value)) placed

abbrev pub going : List ℤ → List Placed → List Placed
going v placed = filter (λ (p : Placed). weakly_dominates v p.point.value) placed

-- A node that changed stands in a row that is still to be written: `new`, which is the number of no row. Without points it is gone,
-- and with one child it is replaced by it
module _ (new : ℕ) where
  abbrev pub changed_leaf : Box → List Placed → Nodes → Nodes
  changed_leaf b [] later = later
  changed_leaf b (p ∷ placed) later = leaf new b (p ∷ placed) later

  abbrev pub changed_inner : Box → Nodes → Nodes → Nodes
  changed_inner b kids later = if nat_lt (length (heads kids)) 2 then followed_by kids later else inner new b kids later

  -- the nodes without the points that the value weakly dominates: where none is below a node, it stays as it is
  abbrev pub without_dominated : List ℤ → Nodes → Nodes
  without_dominated v no_nodes = no_nodes
  without_dominated v (leaf r b placed later) =
      if is_hit v (points_with placed) then changed_leaf b (staying v placed) (without_dominated v later) else leaf r b placed (without_dominated v later)
  without_dominated v (inner r b kids later) =
      if is_hit v (points_of kids) then changed_inner b (without_dominated v kids) (without_dominated v later) else inner r b kids (without_dominated v later)

  -- the rows of the nodes that changed and are not gone
  abbrev pub changed_rows : List ℤ → Nodes → List ℕ
  changed_rows v no_nodes = []
  changed_rows v (leaf r b placed later) =
      (if is_hit v (points_with placed) then (if nat_lt 0 (length (staying v placed)) then r ∷ [] else []) else []) ++ changed_rows v later
  changed_rows v (inner r b kids later) =
      (if is_hit v (points_of kids) then (if nat_lt (length (heads (without_dominated v kids))) 2 then [] else r ∷ []) ++ changed_rows v kids else []) ++ changed_rows v later

-- the rows that are left: of the points that go, and of the nodes that change
abbrev pub dropped : List ℤ → Nodes → List ℕ
dropped v no_nodes = []
dropped v (leaf r b placed later) = (if is_hit v (points_with placed) then r ∷ rows_with (going v placed) else []) ++ dropped v later
dropped v (inner r b kids later) = (if is_hit v (points_of kids) then r ∷ dropped v kids else []) ++ dropped v later

-- the value weakly dominates some of the values that the box may enclose, but not all
abbrev pub is_cut : Box → List ℤ → Bool
is_cut b v = weakly_dominates v b.nadir && not (weakly_dominates v b.ideal)

-- the rows of the nodes that have such a box, as all nodes above them
abbrev pub cut_rows : List ℤ → Nodes → List ℕ
cut_rows v no_nodes = []
cut_rows v (leaf r b placed later) = (if is_cut b v then r ∷ [] else []) ++ cut_rows v later
cut_rows v (inner r b kids later) = (if is_cut b v then r ∷ cut_rows v kids else []) ++ cut_rows v later
