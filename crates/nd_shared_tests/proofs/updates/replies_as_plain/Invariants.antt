use Rattle.std.proofs.Common.{◌≡◌}
use Rattle.nd_update.specs.Resting.{IsAtRest}
use Rattle.nd_shared_tests.proofs.updates.replies_as_plain.Given as goal

abbrev pub invariant-loop-k : goal.invariant-loop-k
invariant-loop-k g l = IsAtRest l.rows l.pass × (l.rows.shape ≡ l.objectives) × (l.plain.objectives ≡ l.objectives)
