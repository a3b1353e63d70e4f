use Rattle.std.proofs.Common.{◌≡◌, nat_le, get_or}
use Rattle.pls_vectors.specs.Box.{Box, gap}
use Rattle.nd_tree.proofs.First.{IsFirst}
use Rattle.nd_tree.proofs.children.closest.Given as goal

abbrev pub invariant-loop-k : goal.invariant-loop-k
invariant-loop-k l =
    IsFirst (λ (a b : Box). nat_le (gap a l.value) (gap b l.value)) l.boxes l.k l.best
    × ((d : Box) → l.least ≡ gap (get_or l.boxes l.best d) l.value)
