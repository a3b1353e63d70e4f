use Rattle.pls_pool.specs.QueueSeats.{hand_of}
use Rattle.pls_pool.proofs.TaskMoves.{puts_at}
use Rattle.pls_pool.proofs.one_queue_calls.OneQueuePool.put.Goals as goal

pub push_as-requires-clause-rule : goal.push_as-requires-clause-rule
push_as-requires-clause-rule g c = let seat = c.args.seat.now in λ n. puts_at seat.pass.id (hand_of seat) c.requires.holds n c.args.task
