use Rattle.pls_turn.specs.Passes.{IsPassOf}
use Rattle.pls_archive_tests.proofs.turned.make_calls.Given as goal

abbrev pub invariant-loop : goal.invariant-loop
invariant-loop g l = IsPassOf l.archive l.pass
