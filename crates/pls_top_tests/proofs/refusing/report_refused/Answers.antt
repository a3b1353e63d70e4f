use Rattle.pls_top_tests.proofs.refusing.report_refused.Goals as goal

pub search-found-requires-clause-new_seats : goal.search-found-requires-clause-new_seats
search-found-requires-clause-new_seats g c κs within k x at = let new = c.in_ok-pool.ensures.seats k x at in (new.seat, new.account)
