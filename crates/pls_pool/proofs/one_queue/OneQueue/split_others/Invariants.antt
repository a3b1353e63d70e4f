use Rattle.std.proofs.Common.{◌≡◌, ◌+◌, ◌-◌, ℕ}
use Rattle.std.specs.Prelude.{vec_len}
use Rattle.std.specs.List.{range_with_len}
use Rattle.crossbeam_queue.specs.SegTies.{IsSegPassOf}
use Rattle.pls_pool.specs.Hands.{started}
use Rattle.pls_pool.specs.QueueSeats.{IsNewQueueSeat}
use Rattle.pls_pool.proofs.one_queue.OneQueue.split_others.Given as goal
use mathlib.Core.Option.{some}
use lib.ListN.{get_elem?}

-- each number so far was given to a seat
abbrev pub invariant-loop : goal.invariant-loop
invariant-loop g l =
    IsSegPassOf l.self.queue l.pass
    × (l.pass.me.view.client ≡ started l.self.seats (range_with_len (l.counter - 1) (l.self.seats + 1 - l.counter)))
    × (vec_len l.others + 1 ≡ l.counter)
    × ((i : ℕ) (s : _) → get_elem? l.others.items i ≡ some s → IsNewQueueSeat l.self i s)
