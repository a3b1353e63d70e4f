use Rattle.std.specs.Prelude.{◌≡◌, ◌^◌, ◌-◌, min, length, take}
use Rattle.nd_tree.specs.Seen.{all_points}
use Rattle.nd_tree.proofs.node.Node.+count.Given as goal

abbrev pub invariant-loop-k : goal.invariant-loop-k
invariant-loop-k l = l.sum ≡ min (length (all_points (take l.k l.children.items))) (2 ^ 64 - 1)
