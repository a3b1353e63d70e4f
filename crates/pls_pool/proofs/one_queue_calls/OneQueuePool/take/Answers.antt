use Rattle.pls_pool.specs.QueueSeats.{hand_of}
use Rattle.pls_pool.proofs.TaskMoves.{takes_at, learns}
use Rattle.pls_pool.proofs.one_queue_calls.OneQueuePool.take.Goals as goal

pub pop_as-requires-clause-rule : goal.pop_as-requires-clause-rule
pop_as-requires-clause-rule g c =
    let seat = c.args.seat.now in (
      takes_at seat.pass.id (hand_of seat) c.requires.holds,
      λ items views keeps at. learns items views keeps seat.pass.id (hand_of seat) at c.requires.holds,
    )
