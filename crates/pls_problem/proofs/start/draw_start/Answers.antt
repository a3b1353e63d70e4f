use Rattle.pls_problem.proofs.Shuffles.{order_drawn}
use Rattle.pls_problem.proofs.start.draw_start.Goals as goal

pub start_along-requires-clause-order : goal.start_along-requires-clause-order
start_along-requires-clause-order g c =
    order_drawn c.args.instance.now _ _ _ _ _ _ c.set_in_order.ensures c.requires.items c.least_shuffled.ensures.value c.shuffle.ensures c.requires.some
