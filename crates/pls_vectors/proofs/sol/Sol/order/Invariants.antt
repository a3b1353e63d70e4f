use Rattle.std.proofs.Common.{◌≡◌, ◌-◌}
use Rattle.std.specs.List.{range_with_len}
use Rattle.pls_vectors.specs.Solution.{with_entries, order}
use Rattle.pls_vectors.proofs.sol.Sol.order.Given as goal

abbrev pub invariant-loop-i : goal.invariant-loop-i
invariant-loop-i l = with_entries l.sol l.i (range_with_len l.i (l.n - l.i)) ≡ order l.n
