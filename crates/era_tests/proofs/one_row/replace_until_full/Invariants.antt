use Rattle.era_one_row.specs.Ready.{IsAtRest}
use Rattle.era_tests.proofs.one_row.replace_until_full.Given as goal

abbrev pub invariant-loop-done : goal.invariant-loop-done
invariant-loop-done l = IsAtRest l.rows l.pass
