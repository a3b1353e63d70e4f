use Rattle.pls_top_tests.proofs.searched.search_from.Goals as goal

pub search-found-requires-clause-new_seats : goal.search-found-requires-clause-new_seats
search-found-requires-clause-new_seats g c κs within k x at = let new = c.in_ok-pool.ensures.seats k x at in (new.seat, new.account)

pub search-found-requires-clause-new_passes : goal.search-found-requires-clause-new_passes
search-found-requires-clause-new_passes g c κs within k x at = let new = c.in_ok-archive.ensures.passes k x at in (new.pass, tt, new.view_is, λ full. full)
