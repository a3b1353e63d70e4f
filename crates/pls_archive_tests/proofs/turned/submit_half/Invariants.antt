use Rattle.pls_turn.specs.Passes.{IsPassOf}
use Rattle.pls_archive_tests.proofs.turned.submit_half.Given as goal

abbrev pub invariant-loop-k : goal.invariant-loop-k
invariant-loop-k g l = IsPassOf l.archive l.pass
