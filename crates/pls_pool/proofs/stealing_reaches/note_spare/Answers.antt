use Rattle.std.proofs.Common.{◌<◌, length, subst, ap, ◌∙◌, Some}
use Rattle.crossbeam_deque.specs.Handles.{worker_port, worker_view}
use Rattle.pls_pool.specs.Hands.{taking_spare}
use Rattle.pls_pool.specs.Reaches.{hand_at}
use Rattle.pls_pool.proofs.TaskMoves.{notes_spare_at}
use Rattle.pls_pool.proofs.stealing_reaches.note_spare.Goals as goal

pub another-requires : goal.another-requires
another-requires g c =
    let worker = c.in-Own.worker in
    notes_spare_at (worker_port worker) (worker_view worker) (subst (λ r. 0 < length (hand_at r).numbers) c.in-Own.is c.requires.holds) c.args.task.now g.W.Said.now
    (c.requires.said ∙ ap (λ r. Some (taking_spare c.args.task.now (hand_at r))) c.in-Own.is)
