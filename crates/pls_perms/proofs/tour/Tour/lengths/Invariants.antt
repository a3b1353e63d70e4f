use Rattle.std.proofs.Common.{◌≡◌, ℕ, ◌+◌, ◌%◌, ◌<◌, slice_index}
use Rattle.pls_vectors.specs.Solution.{entry}
use Rattle.pls_perms.specs.Tour.{edge_between}
use Rattle.pls_perms.proofs.Stretches.{sum_from}
use Rattle.pls_perms.proofs.tour.Tour.lengths.Given as goal

abbrev pub invariant-loop-i : goal.invariant-loop-i
invariant-loop-i l =
    (list : ℕ) → list < 4
    → slice_index l.lengths list ≡ sum_from (λ i. edge_between l.self list (entry l.sol i) (entry l.sol ((i + 1) % l.self.cities))) 0 l.i
