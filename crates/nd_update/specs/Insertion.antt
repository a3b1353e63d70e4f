-- A tree with a new point: it goes down to the closest child, and a leaf that is full is divided.
use Rattle.std.specs.Prelude.{ℕ, zero, suc, nat_le, ◌==◌, ℤ, List, [], ◌∷◌, ◌++◌, length, map, take, drop, if◌then◌else◌}
use Rattle.std.specs.List.{flat_map}
use Rattle.pls_vectors.specs.Box.{Box, box_of, grown}
use Rattle.pls_archive.specs.declared.point.Point.{Point}
use Rattle.nd_tree.specs.Closest.{closest}
use Rattle.nd_tree.specs.Split.{split}
use Rattle.nd_rows.specs.Nodes.{Placed, Nodes, no_nodes, leaf, inner}
use Rattle.nd_update.specs.Removal.{without_dominated, dropped}

-- the box of a leaf with these points: of the first one, grown by the others
abbrev pub grown_by : Box → List Placed → Box
grown_by b [] = b
grown_by b (p ∷ placed) = grown_by (grown b p.point.value) placed

abbrev pub box_around : List Placed → Box
box_around [] = record { ideal = []; nadir = [] }
box_around (p ∷ placed) = grown_by (box_of p.point.value) placed

-- the elements at these places
abbrev pub at_places : {A : Type 0} → List A → List ℕ → List A
at_places xs ks = flat_map (λ k. take 1 (drop k xs)) ks

abbrev pub values_with : List Placed → List (List ℤ)
values_with placed = map (λ (p : Placed). p.point.value) placed

-- the boxes of the nodes
abbrev pub boxes_of : Nodes → List Box
boxes_of no_nodes = []
boxes_of (leaf r b placed later) = b ∷ boxes_of later
boxes_of (inner r b kids later) = b ∷ boxes_of later

-- the box of a leaf with one more point
abbrev pub leaf_box : Box → List Placed → List ℤ → Box
leaf_box b [] v = box_of v
leaf_box b (p ∷ placed) v = grown b v

-- where the value goes among these nodes
abbrev pub place_among : List ℤ → Nodes → ℕ
place_among v kids = closest (boxes_of kids) v

-- Nodes that change stand in rows that are still to be written
module _ (new : ℕ) where
  -- a leaf for each group
  abbrev pub group_leaves : List Placed → List (List ℕ) → Nodes
  group_leaves placed [] = no_nodes
  group_leaves placed (group ∷ groups) = leaf new (box_around (at_places placed group)) (at_places placed group) (group_leaves placed groups)

  -- a leaf with these points, or an inner node with a leaf for each group of the split
  abbrev pub divided : Box → List Placed → Nodes → Nodes
  divided b placed later = if nat_le (length placed) 20 then leaf new b placed later else inner new b (group_leaves placed (split (values_with placed))) later

  module _ (p : Point) where
    abbrev pub new_placed : Placed
    new_placed = record { row = new; point = p }

    -- the point below the node at place k, or in a new leaf where there is none
    abbrev pub with_point : Nodes → ℕ → Nodes
    with_point no_nodes k = leaf new (box_of p.value) (new_placed ∷ []) no_nodes
    with_point (leaf r b placed later) zero = divided (leaf_box b placed p.value) (placed ++ new_placed ∷ []) later
    with_point (leaf r b placed later) (suc k) = leaf r b placed (with_point later k)
    with_point (inner r b kids later) zero = inner new (grown b p.value) (with_point kids (place_among p.value kids)) later
    with_point (inner r b kids later) (suc k) = inner r b kids (with_point later k)

    -- the tree after an update by the point
    abbrev pub updated : Nodes → Nodes
    updated t = with_point (without_dominated new p.value t) 0

  -- a row that is known
  abbrev pub known_row : ℕ → List ℕ
  known_row r = if r == new then [] else r ∷ []

  -- the known rows of the nodes on the way of the value
  abbrev pub way : List ℤ → Nodes → ℕ → List ℕ
  way v no_nodes k = []
  way v (leaf r b placed later) zero = known_row r
  way v (leaf r b placed later) (suc k) = way v later k
  way v (inner r b kids later) zero = known_row r ++ way v kids (place_among v kids)
  way v (inner r b kids later) (suc k) = way v later k

  -- the rows of the tree that an update leaves: the dropped ones, and those on the way
  abbrev pub replaced : List ℤ → Nodes → List ℕ
  replaced v t = dropped v t ++ way v (without_dominated new v t) 0
