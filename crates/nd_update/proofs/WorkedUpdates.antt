-- Updates of small trees, worked.
use Rattle.std.proofs.Common.{inl, arith, ◌≡◌, ℕ, ◌-◌, List, [], ◌∷◌, map, refl, ℤ, pos}
use Rattle.pls_vectors.specs.Box.{Box}
use Rattle.pls_vectors.specs.Solution.{no_items}
use Rattle.pls_archive.specs.declared.point.Point.{Point}
use Rattle.nd_tree.specs.Split.{places, with_largest, begun, joined, split}
use Rattle.nd_rows.specs.Nodes.{Placed, Nodes, no_nodes, leaf, inner}
use Rattle.era_rows.specs.FirstTree.{first_is_tree}
use Rattle.era_rows.specs.Trees.{first_copy}
use Rattle.nd_update.specs.Updates.{MayUpdate}
use Rattle.nd_update.specs.Removal.{without_dominated, changed_rows, dropped, cut_rows}
use Rattle.nd_update.specs.Insertion.{updated, replaced}

abbrev value : ℕ → ℕ → List ℤ
value x y = pos x ∷ pos y ∷ []

abbrev point : ℕ → ℕ → Point
point x y = record { value = value x y; sol = no_items 2 }

abbrev placed : ℕ → ℕ → ℕ → Placed
placed r x y = record { row = r; point = point x y }

-- no row has this number
abbrev new : ℕ
new = 99

abbrev box : ℕ → ℕ → ℕ → ℕ → Box
box x y z w = record { ideal = value x y; nadir = value z w }

-- a leaf in row 3 with the points (3, 1) in row 1 and (1, 3) in row 2
abbrev one_leaf : Nodes
one_leaf = leaf 3 (box 3 3 1 1) (placed 1 3 1 ∷ placed 2 1 3 ∷ []) no_nodes

-- the same leaf, and one in row 6 with the point (5, 0) in row 4, below an inner node in row 7; and a leaf in row 9 with the point (0, 9) in row 8 beside that, below row 10
abbrev two_leaves : Nodes
two_leaves = inner 7 (box 6 3 1 0) (leaf 3 (box 3 3 1 1) (placed 1 3 1 ∷ placed 2 1 3 ∷ []) (leaf 6 (box 6 1 4 0) (placed 4 5 0 ∷ []) no_nodes)) no_nodes

abbrev three_leaves : Nodes
three_leaves = inner 10 (box 6 9 0 0) (inner 7 (box 6 3 1 0) (leaf 3 (box 3 3 1 1) (placed 1 3 1 ∷ placed 2 1 3 ∷ []) (leaf 6 (box 6 1 4 0) (placed 4 5 0 ∷ []) no_nodes)) (leaf 9 (box 0 9 0 9) (placed 8 0 9 ∷ []) no_nodes)) no_nodes

-- a leaf loses a point
loses_one : without_dominated new (value 3 2) one_leaf ≡ leaf new (box 3 3 1 1) (placed 2 1 3 ∷ []) no_nodes
loses_one = refl

loses_one-dropped : dropped (value 3 2) one_leaf ≡ 3 ∷ 1 ∷ []
loses_one-dropped = refl

-- or all
loses_all : without_dominated new (value 4 4) one_leaf ≡ no_nodes
loses_all = refl

-- an inner node is replaced by the one child that is left, though that changed nothing, and its parent is another one then
collapses : without_dominated new (value 7 0) three_leaves ≡ inner new (box 6 9 0 0) (leaf 3 (box 3 3 1 1) (placed 1 3 1 ∷ placed 2 1 3 ∷ []) (leaf 9 (box 0 9 0 9) (placed 8 0 9 ∷ []) no_nodes)) no_nodes
collapses = refl

collapses-dropped : dropped (value 7 0) three_leaves ≡ 10 ∷ 7 ∷ 6 ∷ 4 ∷ []
collapses-dropped = refl

collapses-changed : changed_rows new (value 7 0) three_leaves ≡ 10 ∷ []
collapses-changed = refl

collapses-cut : cut_rows (value 7 0) three_leaves ≡ 10 ∷ 7 ∷ 6 ∷ []
collapses-cut = refl

-- the point goes down to the closest leaf, and the boxes on the way grow
goes_down : updated new (point 2 2) two_leaves ≡ inner new (box 6 3 1 0) (leaf new (box 3 3 1 1) (placed 1 3 1 ∷ placed 2 1 3 ∷ placed new 2 2 ∷ []) (leaf 6 (box 6 1 4 0) (placed 4 5 0 ∷ []) no_nodes)) no_nodes
goes_down = refl

goes_down-way : replaced new (value 2 2) two_leaves ≡ 7 ∷ 3 ∷ []
goes_down-way = refl

-- first the one dominated point goes, with its leaf and the inner node
goes_and_comes : updated new (point 7 0) two_leaves ≡ leaf new (box 7 3 1 0) (placed 1 3 1 ∷ placed 2 1 3 ∷ placed new 7 0 ∷ []) no_nodes
goes_and_comes = refl

goes_and_comes-rows : replaced new (value 7 0) two_leaves ≡ 7 ∷ 6 ∷ 4 ∷ 3 ∷ []
goes_and_comes-rows = refl

-- where nothing is left, and in the empty tree, the point is alone
alone : updated new (point 9 9) two_leaves ≡ leaf new (box 9 9 9 9) (placed new 9 9 ∷ []) no_nodes
alone = refl

first : updated new (point 4 5) (leaf 0 (record { ideal = []; nadir = [] }) [] no_nodes) ≡ leaf new (box 4 5 4 5) (placed new 4 5 ∷ []) no_nodes
first = refl

-- twenty points on a line, and one more: the leaf is divided into three
abbrev line : Nodes
line = leaf 50 (box 19 100 0 81) (map (λ i. placed i i (100 - i)) (places 20)) no_nodes

divides : updated new (point 20 80) line ≡
    inner new (box 20 100 0 80)
    (leaf new (box 0 100 0 100) (placed 0 0 100 ∷ [])
    (leaf new (box 20 86 14 80) (placed new 20 80 ∷ map (λ i. placed i i (100 - i)) (14 ∷ 15 ∷ 16 ∷ 17 ∷ 18 ∷ 19 ∷ []))
    (leaf new (box 13 99 1 87) (map (λ i. placed i i (100 - i)) (1 ∷ 2 ∷ 3 ∷ 4 ∷ 5 ∷ 6 ∷ 7 ∷ 8 ∷ 9 ∷ 10 ∷ 11 ∷ 12 ∷ 13 ∷ [])) no_nodes))) no_nodes
unfolding split begun with_largest joined
divides = refl

divides-way : replaced new (value 20 80) line ≡ 50 ∷ []
divides-way = refl

-- the empty tree at the start may be updated by (4, 5)
abbrev empty : Nodes
empty = leaf 0 (record { ideal = []; nadir = [] }) [] no_nodes

may_update : MayUpdate 2 new (point 4 5) first_copy empty
may_update = record {
  is_tree = record {
    rooted = refl;
    rows_are = refl;
    once = first_is_tree.once;
    written = (record { first = refl; linked = tt }, (λ some. absurd (omega arith)), tt, tt);
    formed = inl (refl, refl);
    boxed = (record { all = tt; corners = tt }, tt);
    apart = refl;
  };
  some = omega arith;
  few = omega arith;
  parts = refl;
  uncovered = refl;
  no_row = refl;
}
