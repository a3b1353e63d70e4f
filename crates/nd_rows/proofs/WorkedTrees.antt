-- The definitions on two small trees: a leaf of two points, and an inner node of two leaves. And on the words that a pass remembers.
use Rattle.std.proofs.Common.{◌≡◌, ℕ, ◌+◌, ◌^◌, true, false, Some, None, List, [], ◌∷◌, ◌++◌, map, get_or, refl, ap, arith, ℤ, pos}
use Rattle.std.specs.Prelude.{replicate}
use Rattle.std.proofs.lemmas.Option.{same_Some}
use Rattle.era_core.specs.Versions.{Cell}
use Rattle.era_rows.specs.Memory.{Memory}
use Rattle.pls_vectors.specs.Box.{Box}
use Rattle.pls_vectors.specs.Solution.{no_items}
use Rattle.pls_vectors.specs.Word.{to_word}
use Rattle.pls_archive.specs.declared.point.Point.{Point}
use Rattle.nd_rows.specs.Nodes.{Placed, Nodes, no_nodes, leaf, inner, heads, rows_of, points_of, AreApart, necessary}
use Rattle.nd_rows.specs.Entries.{memory_words, recalls_dominating, recalls_value}
use Rattle.nd_rows.specs.Layout.{HasWords, HasValue, IsLinkRow, IsPointRow}
use Rattle.nd_rows.specs.Walk.{Gathers}

-- words of a row, from a place on
abbrev cells_from : ℕ → ℕ → List ℕ → List Cell
cells_from r p [] = []
cells_from r p (w ∷ ws) = record { row = r; place = p; word = w } ∷ cells_from r (p + 1) ws

abbrev value : ℕ → ℕ → List ℤ
value x y = pos x ∷ pos y ∷ []

abbrev placed : ℕ → ℕ → ℕ → Placed
placed r x y = record { row = r; point = record { value = value x y; sol = no_items 2 } }

-- a leaf in row 3, with the points (3, 1) in row 1 and (1, 3) in row 2
abbrev box : Box
box = record { ideal = value 3 3; nadir = value 1 1 }

abbrev one_leaf : Nodes
one_leaf = leaf 3 box (placed 1 3 1 ∷ placed 2 1 3 ∷ []) no_nodes

-- the same leaf, and one in row 6 with the point (5, 0) in row 4, below an inner node in row 7
abbrev low_box : Box
low_box = record { ideal = value 6 1; nadir = value 4 0 }

abbrev low_leaf : Nodes
low_leaf = leaf 6 low_box (placed 4 5 0 ∷ []) no_nodes

abbrev two_leaves : Nodes
two_leaves = inner 7 (record { ideal = value 6 3; nadir = value 1 0 }) (leaf 3 box (placed 1 3 1 ∷ placed 2 1 3 ∷ []) low_leaf) no_nodes

rows : rows_of two_leaves ≡ 7 ∷ 3 ∷ 1 ∷ 2 ∷ 6 ∷ 4 ∷ []
rows = refl

below : heads two_leaves ≡ 7 ∷ []
below = refl

points : map (λ (p : Point). p.value) (points_of two_leaves) ≡ value 3 1 ∷ value 1 3 ∷ value 5 0 ∷ []
points = refl

apart : AreApart (points_of two_leaves)
apart = refl

-- two equal points are not apart
equal_points : AreApart (points_of (leaf 3 box (placed 1 3 1 ∷ placed 2 3 1 ∷ []) no_nodes)) ≡ (◌≡◌ {A = ℕ} 0 2)
equal_points = refl

-- the question for (2, 2) needs the rows of the first leaf alone, that for (9, 9) and that for (0, 0) none below the root
needed : necessary (value 2 2) two_leaves ≡ 7 ∷ 3 ∷ 1 ∷ 2 ∷ 6 ∷ []
needed = refl

needed_above : necessary (value 9 9) two_leaves ≡ 7 ∷ []
needed_above = refl

needed_below : necessary (value 0 0) two_leaves ≡ 7 ∷ []
needed_below = refl

-- at the ideal of a box the question is settled there
at_the_ideal : necessary (value 3 3) one_leaf ≡ 3 ∷ []
at_the_ideal = refl

-- a leaf gives its points, and an inner node puts its children on the work list, the first one last
gives_points : Gathers one_leaf (9 ∷ []) (9 ∷ []) (points_of low_leaf) (points_of low_leaf ++ points_of one_leaf)
gives_points = record { work = refl; gathered = refl }

gives_children : Gathers two_leaves (9 ∷ []) (9 ∷ 6 ∷ 3 ∷ []) [] []
gives_children = record { work = refl; gathered = refl }

not_turned : Gathers two_leaves (9 ∷ []) (9 ∷ 3 ∷ 6 ∷ []) [] [] → ⊥
not_turned gives = let same : ◌≡◌ {A = ℕ} 6 3 = ap (λ xs. get_or xs 0 0) gives.work in omega arith

-- the leaf in its row: two links, then the box at 21 to 22 and 25 to 26
abbrev leaf_cells : List Cell
leaf_cells = cells_from 3 0 (8 ∷ 1 ∷ 2 ∷ []) ++ cells_from 3 21 (1099511627779 ∷ 1099511627779 ∷ []) ++ cells_from 3 25 (1099511627777 ∷ 1099511627777 ∷ [])

links : IsLinkRow leaf_cells 0 3 (1 ∷ 2 ∷ [])
links = record { first = refl; linked = (refl, (refl, tt)) }

-- a point in its row, with its solution of two items
abbrev point_cells : List Cell
point_cells = cells_from 1 0 (2 ∷ 1099511627779 ∷ 1099511627777 ∷ []) ++ cells_from 1 5 (2 ∷ replicate 32 0) ++ cells_from 1 38 (2 ∷ [])

box_words : HasValue 2 leaf_cells 3 21 (value 3 3)
box_words = record { words = (refl, (refl, tt)); is_value = record { at_least_two = omega arith; at_most_four = omega arith; in_range = refl }; parts = refl }

is_point : IsPointRow 2 point_cells (placed 1 3 1)
is_point = record {
  first = record { first = refl; linked = tt };
  value = record { words = (refl, (refl, tt)); is_value = record { at_least_two = omega arith; at_most_four = omega arith; in_range = refl }; parts = refl };
  sol_len = refl;
  sol_words = assumption;
  parts = refl;
  some_items = omega arith;
  few_items = omega arith;
  all_words = refl;
}

-- its parts do not stand in another order
other_order : HasWords point_cells 1 1 (map to_word (value 1 3)) → ⊥
other_order there = let same : ◌≡◌ {A = ℕ} 1099511627779 1099511627777 = same_Some _ _ there.0 in omega arith

-- a pass that remembers (3, 1), and nothing else, recalls (2, 1) and no value with a greater part
words_remembered : memory_words (value 3 1) ≡ (2 ^ 40 + 3) ∷ (2 ^ 40 + 1) ∷ 0 ∷ 0 ∷ 0 ∷ 0 ∷ []
words_remembered = refl

abbrev memory : Memory
memory = None ∷ Some (memory_words (value 3 1)) ∷ []

value_recalled : recalls_value memory (value 2 1) ≡ true
value_recalled = refl

value_not_recalled : recalls_value memory (value 2 2) ≡ false
value_not_recalled = refl

value_of_other_parts : recalls_value memory (pos 2 ∷ pos 1 ∷ pos 0 ∷ []) ≡ false
value_of_other_parts = refl

-- of these it dominates (2, 1), and (3, 1) is the same value, also where other words stand past its parts
dominated_value_recalled : recalls_dominating memory (value 2 1) ≡ true
dominated_value_recalled = refl

same_value_not_dominating : recalls_dominating memory (value 3 1) ≡ false
same_value_not_dominating = refl

same_value_with_more : recalls_dominating (Some ((2 ^ 40 + 3) ∷ (2 ^ 40 + 1) ∷ 7 ∷ 0 ∷ 0 ∷ 0 ∷ []) ∷ []) (value 3 1) ≡ false
same_value_with_more = refl

value_not_dominated : recalls_dominating memory (value 2 2) ≡ false
value_not_dominated = refl
