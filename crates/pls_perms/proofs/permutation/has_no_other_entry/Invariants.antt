use Rattle.std.proofs.Common.{◌≡◌, ◌-◌, ◌==◌, ◌&&◌}
use Rattle.std.specs.List.{range_with_len, list_all}
use Rattle.pls_vectors.specs.Solution.{entry}
use Rattle.pls_perms.specs.Permutation.{no_other_entry}
use Rattle.pls_perms.proofs.permutation.has_no_other_entry.Given as goal

abbrev pub invariant-loop-i : goal.invariant-loop-i
invariant-loop-i l =
    (l.all && list_all (λ i. entry l.sol i == 0) (range_with_len l.i (256 - l.i))) ≡ no_other_entry l.n l.sol
