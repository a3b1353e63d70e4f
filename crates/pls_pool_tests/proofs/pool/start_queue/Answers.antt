use Rattle.pls_pool_tests.proofs.pool.start_queue.Goals as goal

pub returns-clause-seats : goal.returns-clause-seats
returns-clause-seats c i s at = let new = c.in_ok-pool.ensures.seats i s at in (new.seat, new.account)
