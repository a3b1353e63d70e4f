use Rattle.std.proofs.Common.{◌≡◌, ◌≤◌}
use Rattle.pls_archive_tests.proofs.turned.four_threads_make_one_legal_history.Given as goal

abbrev pub invariant-loop-entry : goal.invariant-loop-entry
invariant-loop-entry g l = (l.plain.objectives ≡ 2) × (l.accepting ≤ l.entry-index)
