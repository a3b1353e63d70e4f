use Rattle.std.proofs.Common.{◌≡◌, drop}
use Rattle.pls_vectors.specs.Solution.{with_entries, stored}
use Rattle.pls_vectors.proofs.sol.Sol.of_entries.Given as goal

abbrev pub invariant-loop-i : goal.invariant-loop-i
invariant-loop-i l = with_entries l.sol l.i (drop l.i l.entries) ≡ stored l.entries
