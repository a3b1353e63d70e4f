use Rattle.pls_pool_tests.proofs.pool.put_range.Given as goal

abbrev pub invariant-loop-number : goal.invariant-loop-number
invariant-loop-number g l = g.P.Pool.belongs l.pool l.seat
