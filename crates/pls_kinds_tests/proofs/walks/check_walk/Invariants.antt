use Rattle.pls_problem.specs.Walk.{IsWalkOf}
use Rattle.pls_kinds_tests.proofs.walks.check_walk.Given as goal

abbrev pub invariant-loop-value : goal.invariant-loop-value
invariant-loop-value g l = IsWalkOf l.instance l.walk × IsWalkOf l.instance l.by_value
