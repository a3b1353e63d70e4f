use Rattle.nd_shared.specs.Views.{IsReady}
use Rattle.nd_shared_tests.proofs.few_rows.make_calls.Given as goal

abbrev pub invariant-loop-turn : goal.invariant-loop-turn
invariant-loop-turn g l = IsReady l.tree.rows l.pass
