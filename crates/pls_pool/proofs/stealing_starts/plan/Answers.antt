use Rattle.std.proofs.Common.{sym, subst, arith}
use Rattle.crossbeam_deque.specs.Tasks.{Forks}
use Rattle.crossbeam_deque.specs.Handles.{worker_port}
use Rattle.pls_pool.specs.Hands.{noting, spent}
use Rattle.pls_pool.specs.TaskRule.{Keeps}
use Rattle.pls_pool.specs.Deals.{in_turn}
use Rattle.pls_pool.proofs.TaskMoves.{plans_at}
use Rattle.pls_pool.proofs.DealMoves.{count_in_turn}
use Rattle.pls_pool.proofs.stealing_starts.plan.Goals as goal

pub another-requires : goal.another-requires
another-requires g c =
    let port = worker_port c.args.worker.now in
    let seats = c.args.seats in
    let number = c.args.number in
    let low = c.requires.number in
    subst (λ v. Forks Keeps port v (noting g.W.Said.now v) spent) (sym c.requires.first)
    (plans_at port seats (in_turn seats number) g.W.Said.now (omega arith) (count_in_turn seats number low) c.requires.said)
