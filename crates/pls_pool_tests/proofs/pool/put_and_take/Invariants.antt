use Rattle.std.proofs.Common.{◌≡◌}
use Rattle.pls_pool_tests.proofs.pool.put_and_take.Given as goal

abbrev pub invariant-loop-turn : goal.invariant-loop-turn
invariant-loop-turn g l = g.P.Pool.belongs l.pool l.seat × ((g.P.Pool.account l.seat).numbers ≡ (g.P.Pool.account l.fn.seat).numbers)
