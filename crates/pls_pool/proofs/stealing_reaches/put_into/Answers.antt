use Rattle.std.proofs.Common.{◌<◌, length, subst, [], ◌∷◌}
use Rattle.crossbeam_deque.specs.Handles.{worker_port, worker_view}
use Rattle.pls_pool.specs.Reaches.{hand_at}
use Rattle.pls_pool.proofs.DequeMoves.{pushes_at}
use Rattle.pls_pool.proofs.stealing_reaches.put_into.Goals as goal

pub push_as-requires-clause-pushes : goal.push_as-requires-clause-pushes
push_as-requires-clause-pushes g c =
    let worker = c.in-Own.worker in pushes_at (worker_port worker) (worker_view worker) (subst (λ r. 0 < length (hand_at r).numbers) c.in-Own.is c.requires.holds) (c.args.task ∷ [])
