use Rattle.std.specs.Prelude.{◌≡◌, ◌≤◌, ◌+◌, vec_len, vec_capacity}
use Rattle.nd_tree.proofs.Dividing.{IsDividing}
use Rattle.nd_tree.proofs.node.insertion.divided.Given as goal

abbrev pub invariant-loop-g : goal.invariant-loop-g
invariant-loop-g l =
    IsDividing l.leaf.points l.groups l.boxes.items l.children.items l.g
    × (l.spare.leaves + l.g ≡ l.fn.spare.leaves)
    × (l.spare.room ≡ l.fn.spare.room)
    × (l.fn.spare.links ≤ vec_capacity l.boxes)
    × (l.fn.spare.links ≤ vec_capacity l.children)
    × (vec_len l.boxes ≡ l.g)
    × (vec_len l.children ≡ l.g)
