use Rattle.pls_pool_tests.proofs.pool.drain.Given as goal

abbrev pub invariant-loop : goal.invariant-loop
invariant-loop g l = g.P.Pool.belongs l.pool l.seat
