use Rattle.std.proofs.Common.{◌≡◌}
use Rattle.nd_tree.specs.Split.{places}
use Rattle.nd_tree.proofs.choice.all_places.Given as goal

abbrev pub invariant-loop-place : goal.invariant-loop-place
invariant-loop-place l = l.places.items ≡ places l.place
