use Rattle.std.specs.Prelude.{◌≡◌, ◌++◌, take}
use Rattle.nd_tree.specs.Seen.{all_points}
use Rattle.nd_tree.proofs.node.Node.+collect.Given as goal

abbrev pub invariant-loop-k : goal.invariant-loop-k
invariant-loop-k l = l.points.items ≡ l.fn.points.items ++ all_points (take l.k l.children.items)
