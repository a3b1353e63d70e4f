use Rattle.pls_pool.specs.QueueSeats.{hand_of}
use Rattle.pls_pool.proofs.TaskMoves.{joins_at}
use Rattle.pls_pool.proofs.one_queue_calls.OneQueuePool.join.Goals as goal

pub absorb-requires-clause-rule : goal.absorb-requires-clause-rule
absorb-requires-clause-rule g c =
    let seat = c.args.seat.now in
    let other = c.args.other in joins_at seat.pass.id (hand_of seat) other.pass.id (hand_of other) c.requires.seats.0.holds c.requires.seats.1.holds
