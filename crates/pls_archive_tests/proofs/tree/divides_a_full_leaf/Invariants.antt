use Rattle.std.proofs.Common.{◌≡◌}
use Rattle.pls_archive_tests.proofs.tree.divides_a_full_leaf.Given as goal

abbrev pub invariant-loop-i : goal.invariant-loop-i
invariant-loop-i g l = l.archive.objectives ≡ 3
