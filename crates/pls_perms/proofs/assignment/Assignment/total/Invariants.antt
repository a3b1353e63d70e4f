use Rattle.std.proofs.Common.{◌≡◌, ℕ, ◌<◌, slice_index}
use Rattle.std.specs.List.{range_with_len, sum_by}
use Rattle.pls_vectors.specs.Solution.{entry}
use Rattle.pls_perms.specs.Assignment.{cost}
use Rattle.pls_perms.proofs.assignment.Assignment.total.Given as goal

abbrev pub invariant-loop-i : goal.invariant-loop-i
invariant-loop-i l =
    (matrix : ℕ) → matrix < 4
    → slice_index l.total matrix ≡ sum_by (λ i. cost l.self matrix i (entry l.sol i)) (range_with_len 0 l.i)
