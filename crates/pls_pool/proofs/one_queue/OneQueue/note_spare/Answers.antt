use Rattle.pls_pool.specs.QueueSeats.{hand_of}
use Rattle.pls_pool.proofs.TaskMoves.{notes_spare_at}
use Rattle.pls_pool.proofs.one_queue.OneQueue.note_spare.Goals as goal

pub another-requires-clause-rule : goal.another-requires-clause-rule
another-requires-clause-rule g c =
    let seat = c.args.seat.now in notes_spare_at seat.pass.id (hand_of seat) c.requires.seat.holds c.args.task.now g.W.Said.now c.requires.said
