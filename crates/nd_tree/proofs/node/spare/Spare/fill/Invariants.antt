use Rattle.std.specs.Prelude.{◌≤◌, ◌-◌}
use Rattle.nd_tree.proofs.node.spare.Spare.fill.Given as goal

abbrev pub invariant-loop-alloc : goal.invariant-loop-alloc
invariant-loop-alloc l = (l.room ≤ l.self.room) × (l.count ≤ l.self.links)

abbrev pub decreases-loop-alloc : goal.decreases-loop-alloc
decreases-loop-alloc l = l.count - l.self.leaves
