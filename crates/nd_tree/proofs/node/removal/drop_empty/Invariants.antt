use Rattle.std.specs.Prelude.{◌≡◌, ◌<◌, ◌≤◌, ◌-◌, length, take}
use Rattle.pls_archive.specs.Lists.{Every}
use Rattle.nd_tree.specs.Seen.{Seen, all_points, longest_of, AreEnclosed}
use Rattle.nd_tree.proofs.node.removal.drop_empty.Given as goal

abbrev pub invariant-loop-k : goal.invariant-loop-k
invariant-loop-k l =
    AreEnclosed l.boxes.items l.children.items
    × (0 < length l.children.items)
    × (all_points l.children.items ≡ all_points l.fn.children.items)
    × (longest_of l.children.items ≤ longest_of l.fn.children.items)
    × Every (λ (s : Seen). 0 < length s.points) (take l.k l.children.items)

abbrev pub decreases-loop-k : goal.decreases-loop-k
decreases-loop-k l = length l.children.items - l.k
