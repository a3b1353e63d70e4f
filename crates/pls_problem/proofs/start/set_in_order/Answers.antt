use Rattle.std.proofs.Common.{length, arith}
use Rattle.pls_problem.proofs.Shuffles.{in_order}
use Rattle.pls_problem.proofs.start.set_in_order.Goals as goal

pub returns : goal.returns
returns c = in_order (length c.args.entries.now) c.loop-place.entries (omega arith) (λ k below. c.loop-place.invariant k (omega arith))
