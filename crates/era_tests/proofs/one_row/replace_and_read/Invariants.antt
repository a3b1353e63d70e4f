use Rattle.std.proofs.Common.{◌≤◌}
use Rattle.era_one_row.specs.Ready.{IsIdle}
use Rattle.era_tests.proofs.one_row.replace_and_read.Given as goal

abbrev pub invariant-loop : goal.invariant-loop
invariant-loop l = IsIdle l.rows l.pass × (l.done ≤ l.counter)
