-- A child has fewer nodes below it than its parent.
use Rattle.std.specs.Prelude.{◌+◌, ◌≤◌, max, List, [], ◌∷◌}
use Rattle.std.proofs.Common.{arith}
use denote.Param.Weighed.{most}
use Rattle.nd_tree.specs.declared.node.Body.{Body}
use Rattle.nd_tree.specs.declared.node.Body.TheVariants.{Leaf, Inner}
use Rattle.nd_tree.specs.Seen.{Seen, all_nodes}
use Rattle.nd_tree.specs.Nodes.{seen}
use Rattle.nd_tree.specs.declared.node.Node.TheDeep.{deep-Body}

pub most_le-all_nodes : (nodes : List Seen) → most (λ s. s.below + 1) nodes ≤ all_nodes nodes
most_le-all_nodes [] = omega arith
most_le-all_nodes (s ∷ nodes) = omega (arith, most_le-all_nodes nodes)

pub nodes_fall : (b : Body) → max (deep-Body b) 0 ≤ (seen b).below
unfolding seen
nodes_fall (Leaf leaf) = omega arith
nodes_fall (Inner boxes children) = omega (arith, most_le-all_nodes children.items)
