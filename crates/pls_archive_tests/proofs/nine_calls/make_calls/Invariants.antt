use Rattle.std.proofs.Common.{◌≡◌}
use Rattle.pls_archive_tests.proofs.nine_calls.make_calls.Given as goal

abbrev pub invariant-loop-a : goal.invariant-loop-a
invariant-loop-a g l = g.S.Single.objectives l.archive ≡ 2
