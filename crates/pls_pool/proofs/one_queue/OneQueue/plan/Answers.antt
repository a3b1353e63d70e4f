use Rattle.std.proofs.Common.{sym, subst}
use Rattle.std.specs.List.{range_with_len}
use Rattle.crossbeam_queue.specs.Fifo.{Forks}
use Rattle.pls_pool.specs.Hands.{noting, spent}
use Rattle.pls_pool.specs.TaskRule.{Keeps}
use Rattle.pls_pool.proofs.TaskMoves.{plans_at, count_range}
use Rattle.pls_pool.proofs.one_queue.OneQueue.plan.Goals as goal

pub another-requires-clause-rule : goal.another-requires-clause-rule
another-requires-clause-rule g c =
    let pass = c.args.pass.now in
    let seats = c.args.seats in
    subst (λ v. Forks Keeps pass.id v (noting g.W.Said.now v) spent) (sym c.requires.first)
    (plans_at pass.id seats (range_with_len 0 seats) g.W.Said.now c.requires.seats (count_range 0 seats) c.requires.said)
