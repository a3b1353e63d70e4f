use Rattle.std.proofs.Common.{ℕ, ◌<◌, ◌≤◌}
use Rattle.pls_pool.specs.StealSeats.{IsStealSeatOf, IsSame, IsBareAt}
use Rattle.pls_pool.proofs.stealing.Stealing.take_among.Given as goal

abbrev pub invariant-loop-number : goal.invariant-loop-number
invariant-loop-number g l =
    IsStealSeatOf l.self l.seat × IsSame l.fn.seat l.seat × ((j : ℕ) → l.from ≤ j → j < l.number → IsBareAt j l.seat)
