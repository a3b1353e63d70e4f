use Rattle.std.proofs.Common.{◌≡◌, map, take}
use Rattle.pls_vectors.specs.Box.{box_of}
use Rattle.nd_tree.specs.Split.{value_at}
use Rattle.nd_tree.proofs.groups.boxes_of.Given as goal

abbrev pub invariant-loop-k : goal.invariant-loop-k
invariant-loop-k l = take l.k l.boxes ≡ map (λ k. box_of (value_at l.values k)) (take l.k l.chosen)
