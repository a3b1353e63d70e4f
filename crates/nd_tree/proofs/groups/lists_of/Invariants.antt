use Rattle.std.proofs.Common.{◌≡◌, [], ◌∷◌, map, take}
use Rattle.nd_tree.specs.Split.{lists_in}
use Rattle.nd_tree.proofs.groups.lists_of.Given as goal

abbrev pub invariant-loop-place : goal.invariant-loop-place
invariant-loop-place l = lists_in l.lists.items ≡ map (λ k. k ∷ []) (take l.place-index l.chosen)
