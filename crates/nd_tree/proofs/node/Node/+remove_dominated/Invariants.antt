use Rattle.nd_tree.proofs.Removing.{IsRemoving}
use Rattle.nd_tree.proofs.node.Node.+remove_dominated.Given as goal

abbrev pub invariant-loop-k : goal.invariant-loop-k
invariant-loop-k l = goal.unvisited-loop-k l × IsRemoving l.value l.boxes.items l.initial.children.items l.children.items l.k l.removed
