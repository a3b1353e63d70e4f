use Rattle.std.proofs.Common.{◌≡◌}
use Rattle.nd_shared_tests.proofs.generated.replay.Given as goal

abbrev pub invariant-loop-call : goal.invariant-loop-call
invariant-loop-call g l = l.plain.objectives ≡ 3
