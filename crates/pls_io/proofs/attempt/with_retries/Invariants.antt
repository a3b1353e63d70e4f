use Rattle.std.proofs.Common.{◌≡◌}
use Rattle.pls_io.proofs.attempt.with_retries.Given as goal

abbrev pub invariant-loop : goal.invariant-loop
invariant-loop g l = g.A.Attempt.room l.call ≡ g.A.Attempt.room l.fn.call
