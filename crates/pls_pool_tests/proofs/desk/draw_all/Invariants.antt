use Rattle.std.proofs.Common.{◌≡◌}
use Rattle.pls_pool.specs.DeskSeats.{tally_of, IsDeskSeatOf}
use Rattle.pls_pool_tests.proofs.desk.draw_all.Given as goal

-- each draw so far gave a move
abbrev pub invariant-loop-given : goal.invariant-loop-given
invariant-loop-given l = IsDeskSeatOf l.desk l.seat × ((tally_of l.seat).draws ≡ (tally_of l.seat).goes)
