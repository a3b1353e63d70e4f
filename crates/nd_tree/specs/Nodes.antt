-- What is seen of a node, by its body.
use Rattle.std.specs.Prelude.{length}
use Rattle.nd_tree.specs.declared.node.Body.{Body}
use Rattle.nd_tree.specs.declared.node.Body.TheVariants.{Leaf, Inner}
use Rattle.nd_tree.specs.Seen.{Seen, all_points, all_nodes, longest_of, AreChildren}

unfoldable pub seen : Body → Seen
seen (Leaf leaf) = record { points = leaf.points; below = 0; longest = length leaf.points }
seen (Inner boxes children) =
    record { points = all_points children.items; below = all_nodes children.items; longest = longest_of children.items }

abbrev pub IsFormed : Body → Type 0
IsFormed (Leaf leaf) = Unit {0}
IsFormed (Inner boxes children) = AreChildren boxes.items children.items
