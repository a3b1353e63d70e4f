use Rattle.std.proofs.Common.{◌≡◌}
use Rattle.pls_archive_tests.proofs.tree.replies_as_plain.Given as goal

abbrev pub invariant-loop-k : goal.invariant-loop-k
invariant-loop-k g l = (l.tree.objectives ≡ l.objectives) × (l.plain.objectives ≡ l.objectives)
