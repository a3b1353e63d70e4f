use Rattle.std.specs.Prelude.{◌≡◌, ◌++◌, map, take}
use Rattle.nd_tree.specs.Insertion.{point_at}
use Rattle.nd_tree.proofs.leaf.Leaf.give.Given as goal

abbrev pub invariant-loop-i : goal.invariant-loop-i
invariant-loop-i l = (l.to.points ≡ l.fn.to.points ++ map (λ k. point_at l.self.points k) (take l.i l.places)) × (l.to.room ≡ l.fn.to.room)
