use Rattle.nd_shared.specs.Views.{IsReady}
use Rattle.nd_shared_tests.proofs.four_threads.make_calls.Given as goal

abbrev pub invariant-loop : goal.invariant-loop
invariant-loop g l = IsReady l.tree.rows l.pass
