use Rattle.nd_shared_tests.proofs.nine_calls.make_calls.Given as goal

abbrev pub invariant-loop-a : goal.invariant-loop-a
invariant-loop-a g l = g.A.Shared.belongs l.archive l.pass × g.A.Shared.at_rest l.pass
