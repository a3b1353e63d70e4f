use Rattle.std.specs.Prelude.{◌≡◌, ◌++◌, take}
use Rattle.nd_tree.proofs.leaf.Leaf.collect.Given as goal

abbrev pub invariant-loop-k : goal.invariant-loop-k
invariant-loop-k l = l.points.items ≡ l.fn.points.items ++ take l.k l.self.points
