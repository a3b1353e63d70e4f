use Rattle.nd_shared.specs.Views.{IsReady}
use Rattle.nd_shared_tests.proofs.tree.submit_front.Given as goal

abbrev pub invariant-loop-k : goal.invariant-loop-k
invariant-loop-k l = IsReady l.tree.rows l.pass
